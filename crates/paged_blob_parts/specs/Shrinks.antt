-- A blob whose pages hold a content up to where it ends, whatever stands behind, and how it is cut.
use Rattle.std.specs.Prelude.{◌≡◌, ◌⊎◌, ℕ, ◌+◌, ◌*◌, ◌<◌, ◌-◌}
use Rattle.std.specs.Prelude.{◌/◌, ◌≤◌, ⊤, true, IsTrue, IsFalse, List, [], ◌∷◌}
use Rattle.std.specs.Prelude.{length, take}
use Rattle.std.specs.Int.{w16, to_be_bytes}
use Rattle.paged_format.specs.declared.footer.Slot.{Slot}
use Rattle.paged_format.specs.declared.footer.Slot.TheVariants.{First, Second}
use Rattle.paged_format.specs.Footers.{content_size, slot_bytes, slot_start, slot_len}
use Rattle.paged_format.specs.Pages.{verifies, recovered}
use Rattle.paged_blob_parts.specs.Calls.{Call, wrote, synced, resize, File, file_of}
use Rattle.paged_blob_parts.specs.Images.{greatest_length}
use Rattle.paged_blob_parts.specs.Chance.{page_at}
use Rattle.paged_blob_parts.specs.Writers.{ShowsContent, HoldsContent, EachBeginning, AreDurable}
use Rattle.paged_blob_parts.specs.Answers.{Failures, HaveEnded, IsPastNumbers}
use Rattle.paged_blob_parts.specs.declared.error.Error.{Error}
use Rattle.paged_blob_parts.specs.declared.error.Error.TheVariants.{Injected, BlobMissing, NumberEnded, Memory}
use Rattle.paged_blob_parts.specs.declared.error.Error.TheVariants.{PowerCut}

-- In the pages that the content reaches, and in that in which it ends, each slot that verifies vouches for it. Pages
-- further on are open, and so is a page that no file of so many bytes has whole.
abbrev pub HoldsPrefix : (List ℕ → ℕ) → ℕ → List ℕ → ℕ → List ℕ → Type 0
HoldsPrefix sum size content most file =
    (page : ℕ) (slot : Slot) → page * content_size size ≤ length content → (page + 1) * size ≤ most
    → IsTrue (verifies sum size slot (page_at size page file)) → ShowsContent size content file page slot

-- so do the base and each beginning of the changes, and so many bytes of the content are durable
pub record Withstands (sum : List ℕ → ℕ) (size : ℕ) (content : List ℕ) (count : ℕ) (file : File) : Type 0 where
  pub within : count ≤ length content
  pub beginnings : EachBeginning
      (HoldsPrefix sum size content (greatest_length file.base file.changes)) file.base file.changes
  pub durable : AreDurable sum size count file

-- the slot beside a slot
abbrev pub other_slot : Slot → Slot
other_slot First = Second
other_slot Second = First

-- The content ends within a page, or is to be cut there: of a file of pages that many bytes of this one are content,
-- which this slot vouches for, perhaps with more, and this is their checksum.
pub record IsLastPage
    (sum : List ℕ → ℕ) (size : ℕ) (live : List ℕ) (page : ℕ) (counted : Slot) (len crc : ℕ) : Type 0 where
  pub some : 0 < len
  pub part : len < content_size size
  pub there : (page + 1) * size ≤ length live
  pub reached : page * content_size size + len ≤ length (recovered sum size live)
  pub counts : IsTrue (verifies sum size counted (page_at size page live))
  pub says : len ≤ slot_len size counted (page_at size page live)
  pub sums : crc ≡ sum (take len (page_at size page live))

-- all was durable, and since then the file was cut behind that page
pub record IsTrimmed
    (sum : List ℕ → ℕ) (size : ℕ) (calls : List Call) (page : ℕ) (counted : Slot) (len crc : ℕ) : Type 0 where
  pub sound : IsFalse (file_of calls).failed
  pub trimmed : (file_of calls).changes ≡ resize ((page + 1) * size) ∷ []
  pub last : IsLastPage sum size (file_of calls).base page counted len crc

-- where a slot of a page begins
abbrev pub slot_at : ℕ → ℕ → Slot → ℕ
slot_at size page slot = page * size + slot_start size slot

-- the calls by which the other slot takes over: no length with the new checksum, then the length, then the old slot
-- cleared
abbrev pub handed_over : ℕ → ℕ → Slot → ℕ → ℕ → List Call → List Call
handed_over size page counted len crc calls =
    wrote (slot_at size page counted) (slot_bytes 0 0) true true
    ∷ (wrote (slot_at size page (other_slot counted)) (to_be_bytes w16 len) true true
    ∷ (wrote (slot_at size page (other_slot counted)) (slot_bytes 0 crc) true true ∷ calls))

-- why a cut of a blob of so many bytes may be refused
abbrev pub IsCutCause : Failures → ℕ → Error → Type 0
IsCutCause failures reach (Injected kind) = ⊤
IsCutCause failures reach NumberEnded = IsPastNumbers reach ⊎ HaveEnded failures
IsCutCause failures reach Memory = ⊤
IsCutCause failures reach PowerCut = ⊤
IsCutCause failures reach BlobMissing = IsFalse failures.is_open
IsCutCause failures reach _ = ⊥

-- the last call is a sync that succeeded
abbrev pub EndsWithSync : List Call → Type 0
EndsWithSync calls = (bytes : List ℕ) × (earlier : List Call) × (calls ≡ synced bytes true ∷ earlier)

-- how many bytes the pages of so much content have
abbrev pub cut_length : ℕ → ℕ → ℕ
cut_length size count = (count + (content_size size - 1)) / content_size size * size

-- The blob is exactly the pages of this content, all of it durable.
pub record IsCut (sum : List ℕ → ℕ) (size : ℕ) (content : List ℕ) (calls : List Call) : Type 0 where
  pub sound : IsFalse (file_of calls).failed
  pub settled : (file_of calls).changes ≡ []
  pub long : length (file_of calls).base ≡ cut_length size (length content)
  pub holds : HoldsContent sum size content (file_of calls).base
  pub durable : AreDurable sum size (length content) (file_of calls)
  pub shown : recovered sum size (file_of calls).base ≡ content
