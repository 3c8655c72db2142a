-- The definitions computed at small files.
use Rattle.std.proofs.Common.{◌<◌, None, Some, length}
use Rattle.paged_format.specs.declared.footer.Slot.TheVariants.{First, Second}
use Rattle.paged_blob_parts.specs.Writers.{IsWriterOf}
use Rattle.std.proofs.Common.{◌≡◌, ℕ, true, false, List, [], ◌∷◌, ◌++◌, replicate, refl}
use Rattle.paged_format.specs.Footers.{footer_bytes, slot_len, slot_crc}
use Rattle.paged_format.specs.Pages.{vouches, vouched_len, counted_slot}
use Rattle.paged_blob_parts.proofs.WriterLaws.{new_writer}
use Rattle.paged_blob_parts.specs.Flushes.{page_bytes, pages_bytes, flushed_bytes}
use Rattle.paged_blob_parts.specs.declared.flush.DurableSlot.{DurableSlot}
use Rattle.paged_blob_parts.specs.Calls.{Call, opened, wrote, synced, file_of, content, resized, with_bytes}
use Rattle.paged_blob_parts.specs.Images.{may_hold, least_length, greatest_length}
use Rattle.paged_blob_parts.specs.Chance.{slot_in, has_slot, is_chance_slot, is_by_chance}

-- four durable bytes, a plain write of two at 4, a synced write of two at 8
calls : List Call
calls = wrote 8 (12 ∷ 13 ∷ []) true true ∷ wrote 4 (10 ∷ 11 ∷ []) false true ∷ opened (1 ∷ 2 ∷ 3 ∷ 4 ∷ []) ∷ []

live : content calls ≡ 1 ∷ 2 ∷ 3 ∷ 4 ∷ 10 ∷ 11 ∷ 0 ∷ 0 ∷ 12 ∷ 13 ∷ []
unfolding calls resized with_bytes
live = refl

-- a crash may drop the plain write, not the synced one
plain_dropped : may_hold (file_of calls).base (file_of calls).changes 4 0 ≡ true
unfolding calls
plain_dropped = refl

plain_kept : may_hold (file_of calls).base (file_of calls).changes 4 10 ≡ true
unfolding calls
plain_kept = refl

synced_kept : may_hold (file_of calls).base (file_of calls).changes 8 0 ≡ false
unfolding calls
synced_kept = refl

shortest : least_length (file_of calls).base (file_of calls).changes ≡ 4
unfolding calls resized with_bytes
shortest = refl

longest : greatest_length (file_of calls).base (file_of calls).changes ≡ 10
unfolding calls resized with_bytes
longest = refl

-- a sync that succeeds settles what is there, one that fails changes nothing
settled : (file_of (synced (1 ∷ []) true ∷ calls)).base ≡ 1 ∷ []
unfolding calls
settled = refl

unsettled : file_of (synced [] false ∷ calls) ≡ file_of calls
unfolding calls
unsettled = refl

-- a write that failed stands among the changes, and the file has failed until the next sync
failed : (file_of (wrote 0 (9 ∷ []) true false ∷ calls)).failed ≡ true
unfolding calls
failed = refl

failed_given : may_hold (file_of (wrote 0 (9 ∷ []) true false ∷ calls)).base (file_of (wrote 0 (9 ∷ []) true false ∷ calls)).changes 0 9 ≡ true
unfolding calls
failed_given = refl

failed_left : may_hold (file_of (wrote 0 (9 ∷ []) true false ∷ calls)).base (file_of (wrote 0 (9 ∷ []) true false ∷ calls)).changes 0 1 ≡ true
unfolding calls
failed_left = refl

-- pages of sixteen bytes, with a checksum that is always 7
abbrev seven : List ℕ → ℕ
seven bytes = 7

page : List ℕ
page = 1 ∷ 2 ∷ 3 ∷ 4 ∷ footer_bytes 4 7 0 0

-- a page that a write made is not there by chance, also where the write failed
written : is_by_chance seven 16 (file_of (wrote 0 page false false ∷ [])) page ≡ false
unfolding page slot_in has_slot is_chance_slot vouches slot_len slot_crc resized with_bytes
written = refl

-- one that nobody wrote is
unwritten : is_by_chance seven 16 (file_of (opened (replicate 16 0) ∷ [])) page ≡ true
unfolding page slot_in has_slot is_chance_slot vouches slot_len slot_crc resized with_bytes
unwritten = refl

-- and so is one in another place
displaced : is_by_chance seven 16 (file_of (wrote 16 page false true ∷ [])) (page ++ page) ≡ true
unfolding page slot_in has_slot is_chance_slot vouches slot_len slot_crc resized with_bytes
displaced = refl

-- a writer of nothing stands over a blob of which no call was made
nothing_written : (sum : List ℕ → ℕ) (size : ℕ) → 12 < size → IsWriterOf sum size [] [] 0 (record { offset = 0; bytes = []; capacity = 64 }) None
nothing_written sum size some = new_writer sum size some [] refl (record { offset = 0; bytes = []; capacity = 64 }) refl refl

-- sixty bytes in pages of 64, and four more in the second page
abbrev first_slot : DurableSlot
first_slot = record { slot = First; len = 8; crc = 7 }

sixty : flushed_bytes seven 64 None (replicate 60 1)
    ≡ (replicate 52 1 ++ footer_bytes 52 7 0 0) ++ (replicate 8 1 ++ replicate 44 0 ++ footer_bytes 8 7 0 0)
unfolding pages_bytes page_bytes resized
sixty = refl

sixty_long : length (flushed_bytes seven 64 None (replicate 60 1)) ≡ 128
unfolding pages_bytes page_bytes resized
sixty_long = refl

four_more : counted_slot seven 64 (flushed_bytes seven 64 (Some first_slot) (replicate 12 1)) ≡ Some (Second, 12)
unfolding pages_bytes page_bytes resized counted_slot vouched_len vouches slot_len slot_crc
four_more = refl

first_stays : slot_len 64 First (flushed_bytes seven 64 (Some first_slot) (replicate 12 1)) ≡ 8
unfolding pages_bytes page_bytes resized slot_len
first_stays = refl
