-- What holds between a writer of pages and its blob, over plain values, and what is then recovered of each image.
use Rattle.std.specs.Prelude.{◌≡◌, ℕ, ◌+◌, ◌-◌, ◌*◌, ◌/◌, ◌%◌}
use Rattle.std.specs.Prelude.{◌<◌, ◌≤◌, ◌^◌, min, IsTrue, IsFalse, Option, None, Some}
use Rattle.std.specs.Prelude.{List, [], ◌∷◌, ◌++◌, length, get_or, take, drop}
use Rattle.paged_format.specs.declared.footer.Slot.{Slot}
use Rattle.paged_format.specs.Footers.{content_size, slot_bytes, slot_start, slot_len}
use Rattle.paged_format.specs.Pages.{verifies, recovered}
use Rattle.paged_format.specs.Tips.{Tip}
use Rattle.paged_blob_parts.specs.Calls.{Call, Change, whole, File, file_of}
use Rattle.paged_blob_parts.specs.Images.{may_hold, least_length, IsImage}
use Rattle.paged_blob_parts.specs.Chance.{page_at, slot_in, IsBeginning, is_by_chance}
use Rattle.paged_blob_parts.specs.Flushes.{physical_size}
use Rattle.paged_blob_parts.specs.declared.flush.DurableSlot.{DurableSlot}

-- the content from a page on
abbrev pub from_page : ℕ → ℕ → List ℕ → List ℕ
from_page size page content = drop (page * content_size size) content

-- a slot of a page of the file vouches for the content that belongs there
pub record ShowsContent (size : ℕ) (content file : List ℕ) (page : ℕ) (slot : Slot) : Type 0 where
  pub within : slot_len size slot (page_at size page file) ≤ length (from_page size page content)
  pub bytes : take (slot_len size slot (page_at size page file)) (page_at size page file)
      ≡ take (slot_len size slot (page_at size page file)) (from_page size page content)

-- each slot that verifies does
abbrev pub HoldsContent : (List ℕ → ℕ) → ℕ → List ℕ → List ℕ → Type 0
HoldsContent sum size content file =
    (page : ℕ) (slot : Slot) → IsTrue (verifies sum size slot (page_at size page file))
    → ShowsContent size content file page slot

-- so do the base and each beginning of the changes, each whole
abbrev pub EachBeginning : (List ℕ → Type 0) → List ℕ → List Change → Type 0
EachBeginning P base [] = P base
EachBeginning P base (change ∷ earlier) = P (whole base (change ∷ earlier)) × EachBeginning P base earlier

-- a byte has no other value than this in any image
abbrev pub OnlyAt : File → ℕ → ℕ → Type 0
OnlyAt file i value = (held : ℕ) → IsTrue (may_hold file.base file.changes i held) → held ≡ value

-- a slot that vouches for so many bytes of a page or more, and the bytes that it vouches for, stand in a beginning and,
-- the same, in each image
pub record IsDurablePage (sum : List ℕ → ℕ) (size len : ℕ) (file : File) (page : ℕ) : Type 0 where
  pub shown : List ℕ
  pub beginning : IsBeginning file.base file.changes shown
  pub slot : Slot
  pub verified : IsTrue (verifies sum size slot (page_at size page shown))
  pub says : len ≤ slot_len size slot (page_at size page shown)
  pub reach : (page + 1) * size ≤ least_length file.base file.changes
  pub bytes : (i : ℕ) → i < slot_len size slot (page_at size page shown)
      → OnlyAt file (page * size + i) (get_or shown (page * size + i) 0)
  pub slot_bytes : (i : ℕ) → i < 6
      → OnlyAt file (page * size + (slot_start size slot + i)) (get_or shown (page * size
      + (slot_start size slot + i)) 0)

-- how many of the first so many bytes of the content a page has
abbrev pub share : ℕ → ℕ → ℕ → ℕ
share size page count = min (content_size size) (count - page * content_size size)

-- so many bytes of the content are durable, page by page
abbrev pub AreDurable : (List ℕ → ℕ) → ℕ → ℕ → File → Type 0
AreDurable sum size count file =
    (page : ℕ) → page * content_size size < count → IsDurablePage sum size (share size page count) file page

-- What holds of a file at each moment, also after a call that failed: so many first bytes of the content are durable,
-- and whatever slot of it verifies, in the base or after any of the changes, vouches for bytes of the content.
pub record IsKeptIn (sum : List ℕ → ℕ) (size : ℕ) (content : List ℕ) (synced : ℕ) (file : File) : Type 0 where
  pub within : synced ≤ length content
  pub beginnings : EachBeginning (HoldsContent sum size content) file.base file.changes
  pub durable : AreDurable sum size synced file

-- a page of a file is there, and a slot of it vouches for so many bytes
pub record ShowsLength (sum : List ℕ → ℕ) (size len : ℕ) (file : List ℕ) (page : ℕ) : Type 0 where
  pub slot : Slot
  pub verified : IsTrue (verifies sum size slot (page_at size page file))
  pub says : slot_len size slot (page_at size page file) ≡ len
  pub reach : (page + 1) * size ≤ length file

-- so many first bytes of the content are on the pages of a file
abbrev pub AreShown : (List ℕ → ℕ) → ℕ → ℕ → List ℕ → Type 0
AreShown sum size count file =
    (page : ℕ) → page * content_size size < count → ShowsLength sum size (share size page count) file page

-- this slot vouches for the durable bytes of a page
pub record IsDurableSlot (sum : List ℕ → ℕ) (size : ℕ) (file : File) (page : ℕ) (slot : DurableSlot) : Type 0 where
  pub durable : IsDurablePage sum size slot.len file page
  pub slot_is : durable.slot ≡ slot.slot
  pub says : slot_len size durable.slot (page_at size page durable.shown) ≡ slot.len
  pub bytes : slot_in size slot.slot (page_at size page durable.shown) ≡ slot_bytes slot.len slot.crc

-- What of a page is on the disk, where the bytes before it are, and so many first bytes of the content are durable:
-- nothing, and no byte of it is durable; or as many bytes as this slot vouches for, all of them durable.
abbrev pub IsBegun : (List ℕ → ℕ) → ℕ → File → ℕ → ℕ → Option DurableSlot → Type 0
IsBegun sum size file synced page None = synced ≤ page * content_size size
IsBegun sum size file synced page (Some slot) =
    (synced ≡ page * content_size size + slot.len) × IsDurableSlot sum size file page slot

-- how many pages are there of it
abbrev pub pages_begun : Option DurableSlot → ℕ
pages_begun None = 0
pages_begun (Some slot) = 1

-- A writer of this content, of which so many first bytes are durable and those from the tip's offset on are in memory;
-- what of the tip's first page is on the disk is durable by a slot.
pub record IsWriterOf
    (sum : List ℕ → ℕ) (size : ℕ) (calls : List Call) (content : List ℕ) (synced : ℕ) (tip : Tip)
    (slot : Option DurableSlot) : Type 0 where
  -- no call has failed since what is durable was
  pub sound : IsFalse (file_of calls).failed
  pub kept : IsKeptIn sum size content synced (file_of calls)
  -- the tip begins a page, and has the content from there on
  pub tip_begins : tip.offset % content_size size ≡ 0
  pub tip_within : tip.offset ≤ length content
  pub tip_bytes : tip.bytes ≡ drop tip.offset content
  -- the content before it is on the disk, in whole pages
  pub shown : AreShown sum size tip.offset (whole (file_of calls).base (file_of calls).changes)
  pub begun : IsBegun sum size (file_of calls) synced (tip.offset / content_size size) slot
  pub ends : length (whole (file_of calls).base (file_of calls).changes)
      ≡ (tip.offset / content_size size + pages_begun slot) * size
  -- no number of the content ends on the disk
  pub numbers : physical_size size (length content) + 4096 < 2 ^ 64

-- A writer as its calls see it: how many bytes its pages have on the disk, its name in the cache, how many bytes of the
-- content are durable, the slot by which those of the tip's first page are, and the tip.
pub record WriterState : Type 0 where
  pub page_size : ℕ
  pub blob_id : ℕ
  pub synced : ℕ
  pub slot : Option DurableSlot
  pub tip : Tip

-- what it has written over these calls: what is recovered of the disk, up to the tip, and the tip
unfoldable pub written : (List ℕ → ℕ) → List Call → WriterState → List ℕ
written sum calls w =
    take w.tip.offset (recovered sum w.page_size (whole (file_of calls).base (file_of calls).changes)) ++ w.tip.bytes

-- it is a writer of that
abbrev pub IsWriter : (List ℕ → ℕ) → List Call → WriterState → Type 0
IsWriter sum calls w = IsWriterOf sum w.page_size calls (written sum calls w) w.synced w.tip w.slot

-- bytes were taken into memory, and this is how many there were before
pub record IsTaken (old new : WriterState) (size : ℕ) (bytes : List ℕ) : Type 0 where
  pub size_before : size ≡ old.tip.offset + length old.tip.bytes
  pub after : new ≡ record old { tip = record old.tip { bytes = old.tip.bytes ++ bytes } }

-- a slot of a page of the file vouches for as many bytes as it says
pub record StandsIn (sum : List ℕ → ℕ) (size : ℕ) (file : List ℕ) (page : ℕ) (slot : DurableSlot) : Type 0 where
  pub verified : IsTrue (verifies sum size slot.slot (page_at size page file))
  pub says : slot_len size slot.slot (page_at size page file) ≡ slot.len
  pub bytes : slot_in size slot.slot (page_at size page file) ≡ slot_bytes slot.len slot.crc

-- so many bytes of content fill so many pages, or these and as much of one more as a slot of it vouches for
abbrev pub EndsBy : (List ℕ → ℕ) → ℕ → List ℕ → ℕ → ℕ → Option DurableSlot → Type 0
EndsBy sum size file len pages None = len ≡ pages * content_size size
EndsBy sum size file len pages (Some slot) =
    (len ≡ pages * content_size size + slot.len) × StandsIn sum size file pages slot

-- All of the content is on the disk, in so many whole pages and what a slot vouches for: a sync makes it durable.
pub record IsFlushed
    (sum : List ℕ → ℕ) (size : ℕ) (calls : List Call) (content : List ℕ) (synced pages : ℕ)
    (slot : Option DurableSlot) : Type 0 where
  pub sound : IsFalse (file_of calls).failed
  pub kept : IsKeptIn sum size content synced (file_of calls)
  pub shown : AreShown sum size (length content) (whole (file_of calls).base (file_of calls).changes)
  pub last : EndsBy sum size (whole (file_of calls).base (file_of calls).changes) (length content) pages slot
  pub ends : length (whole (file_of calls).base (file_of calls).changes) ≡ (pages + pages_begun slot) * size

-- What is recovered of an image keeps the durable bytes of the content, and is a beginning of it unless by chance.
pub record Recovers
    (sum : List ℕ → ℕ) (size : ℕ) (content : List ℕ) (synced : ℕ) (file : File) (image : List ℕ) : Type 0 where
  pub keeps : take synced (recovered sum size image) ≡ take synced content
  pub prefix : IsFalse (is_by_chance sum size file image)
      → (len : ℕ) × (synced ≤ len) × (len ≤ length content) × (recovered sum size image ≡ take len content)

-- so of each image of the calls
abbrev pub Keeps : (List ℕ → ℕ) → ℕ → List ℕ → ℕ → List Call → Type 0
Keeps sum size content synced calls =
    (image : List ℕ) → IsImage (file_of calls) image → Recovers sum size content synced (file_of calls) image
