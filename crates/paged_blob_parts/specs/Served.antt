-- Reading many slices of a list at once, and what of them is served from memory.
use Rattle.std.specs.Prelude.{◌≡◌, ◌⊎◌, ℕ, ◌+◌, ◌*◌, ◌/◌, ◌%◌}
use Rattle.std.specs.Prelude.{◌<◌, ◌≤◌, nat_le, Bool, IsFalse, List, [], ◌∷◌, length}
use Rattle.std.specs.Prelude.{take, drop, map, sum_by, Contains}
use Rattle.std.specs.List.{list_all, flat_map}
use Rattle.paged_format.specs.Footers.{content_size}
use Rattle.paged_blob_parts.specs.Answers.{Failures, IsCause}
use Rattle.paged_blob_parts.specs.Caches.{Cache}
use Rattle.paged_blob_parts.specs.Reads.{ServesPages}
use Rattle.paged_blob_parts.specs.declared.error.CallKind.TheVariants.{Read}
use Rattle.paged_blob_parts.specs.declared.error.Error.{Error}
use Rattle.paged_blob_parts.specs.declared.error.Error.TheVariants.{BlobInsufficientLength}
use Rattle.paged_blob_parts.specs.declared.read.FlushedPages.{FlushedPages}

-- the slice of a range, an offset and a length
abbrev pub slice_at : List ℕ → ℕ × ℕ → List ℕ
slice_at list range = take range.1 (drop range.0 list)

-- the slices of ranges, one behind the other
abbrev pub slices : List ℕ → List (ℕ × ℕ) → List ℕ
slices list ranges = flat_map (slice_at list) ranges

-- how many bytes they have
abbrev pub total : List (ℕ × ℕ) → ℕ
total ranges = sum_by (λ range. range.1) ranges

-- the ranges of as many bytes from each of these offsets on
abbrev pub items_of : ℕ → List ℕ → List (ℕ × ℕ)
items_of size offsets = map (λ (offset : ℕ). (offset, size)) offsets

-- whether each of them ends within so many bytes
abbrev pub are_within : ℕ → List (ℕ × ℕ) → Bool
are_within size ranges = list_all (λ range. nat_le (range.0 + range.1) size) ranges

-- why reads of these ranges, in a list of so many bytes of which so many are on the blob, may be refused
abbrev pub IsRangesCause : Failures → ℕ → ℕ → ℕ → List (ℕ × ℕ) → Error → Type 0
IsRangesCause failures size count len ranges BlobInsufficientLength = IsFalse (are_within len ranges)
IsRangesCause failures size count len ranges error = IsCause failures Read (count / content_size size * size) error

-- a page is kept
abbrev pub IsKept : Cache → ℕ → ℕ → Type 0
IsKept cache blob_id number =
    (bytes : List ℕ) × Contains cache.pages (record { blob_id = blob_id; number = number; bytes = bytes })

-- so many bytes from an offset on stand in pages that are kept
abbrev pub AreKept : Cache → FlushedPages → ℕ → ℕ → Type 0
AreKept cache pages offset count =
    (i : ℕ) → offset ≤ i → i < offset + count → IsKept cache pages.blob_id (i / content_size pages.physical_page_size)

-- A slice is in memory: it ends within a list of so many bytes, and each byte of it that is on the blob stands in a
-- page that is kept.
pub record IsServed (cache : Cache) (pages : FlushedPages) (size offset count : ℕ) : Type 0 where
  pub within : offset + count ≤ size
  pub kept : (i : ℕ) → offset ≤ i → i < offset + count → i < pages.len
      → IsKept cache pages.blob_id (i / content_size pages.physical_page_size)

-- the pages that are kept under the name of these are those of a content that begins with theirs, which is this
pub record Serves (front : List ℕ) (cache : Cache) (pages : FlushedPages) : Type 0 where
  pub whole : pages.len % content_size pages.physical_page_size ≡ 0
  pub long : length front ≡ pages.len
  pub sizes : cache.page_size ≡ content_size pages.physical_page_size
  pub kept : ServesPages front cache pages.blob_id

-- Of each range in turn: it is in memory and its slice stands in its place; or it is not, and its index is named.
abbrev pub AreServed : Cache → FlushedPages → List ℕ → ℕ → List (ℕ × ℕ) → List ℕ → List ℕ → Type 0
AreServed cache pages list index [] out missing = missing ≡ []
AreServed cache pages list index (range ∷ ranges) out missing =
    (IsServed cache pages (length list) range.0 range.1 × (take range.1 out ≡ slice_at list range)
    × AreServed cache pages list (index + 1) ranges (drop range.1 out) missing)
    ⊎ ((IsServed cache pages (length list) range.0 range.1 → ⊥) × ((rest : List ℕ) × (missing ≡ index ∷ rest)
    × AreServed cache pages list (index + 1) ranges (drop range.1 out) rest))
