-- What the code of a cut hands over.
use Rattle.std.specs.Prelude.{◌≡◌, ◌⊎◌, ℕ, ◌*◌, ◌/◌, ◌%◌, ◌<◌, IsFalse, List, [], length, drop, Option, None, Some}
use Rattle.paged_format.specs.declared.footer.Slot.{Slot}
use Rattle.paged_format.specs.Footers.{content_size, slot_bytes}
use Rattle.paged_format.specs.Tips.{Tip}
use Rattle.paged_blob_parts.specs.Calls.{Call, file_of, content}
use Rattle.paged_blob_parts.specs.Chance.{page_at, slot_in}
use Rattle.paged_blob_parts.specs.Writers.{from_page}
use Rattle.paged_blob_parts.specs.Shrinks.{other_slot, handed_over}
use Rattle.paged_blob_parts.specs.declared.flush.DurableSlot.{DurableSlot}
use Rattle.paged_blob.specs.declared.shrink.LastPage.{LastPage}

-- a slot of a page says so many bytes with this checksum, and the other one is zero
pub record StandsAlone (size : ℕ) (page : List ℕ) (slot : Slot) (len crc : ℕ) : Type 0 where
  pub says : slot_in size slot page ≡ slot_bytes len crc
  pub cleared : slot_in size (other_slot slot) page ≡ slot_bytes 0 0

-- the slot that counted stood alone, or the other one took over
abbrev pub IsLeftAlone : ℕ → ℕ → Slot → ℕ → ℕ → List Call → List Call → Slot → Type 0
IsLeftAlone size page counted len crc old new slot =
    ((slot ≡ counted) × (new ≡ old) × StandsAlone size (page_at size page (file_of old).base) counted len crc)
    ⊎ ((slot ≡ other_slot counted) × (new ≡ handed_over size page counted len crc old))

-- the last page of a file, which the content does not fill
pub record IsLast (size : ℕ) (content file : List ℕ) (last : LastPage) : Type 0 where
  pub some : 0 < length last.bytes.items
  pub bytes : last.bytes.items ≡ from_page size (length content / content_size size) content
  pub alone : StandsAlone size (page_at size (length content / content_size size) file) last.slot
      (length last.bytes.items) last.crc

-- such a page, or the content fills its pages
abbrev pub EndsWith : ℕ → List ℕ → List ℕ → Option LastPage → Type 0
EndsWith size content file None = length content % content_size size ≡ 0
EndsWith size content file (Some last) = IsLast size content file last

-- all is durable, and what was there is there
pub record IsSettled (old new : List Call) : Type 0 where
  pub sound : IsFalse (file_of new).failed
  pub settled : (file_of new).changes ≡ []
  pub base : (file_of new).base ≡ content old

-- where the content ends in memory: what the last page has, if that is not whole
abbrev pub tip_of : ℕ → List ℕ → ℕ → Tip
tip_of size content capacity =
    let offset = length content / content_size size * content_size size in
    record { offset = offset; bytes = drop offset content; capacity = capacity }

-- the slot that vouches for the last page
abbrev pub slot_of : Option LastPage → Option DurableSlot
slot_of None = None
slot_of (Some last) = Some (record { slot = last.slot; len = length last.bytes.items; crc = last.crc })

-- the bytes that the last page has
abbrev pub bytes_of : Option LastPage → List ℕ
bytes_of None = []
bytes_of (Some last) = last.bytes.items
