-- Reading a slice of a content whose first bytes are on a blob, in whole pages of which some are kept, and whose end is
-- in memory.
use Rattle.std.specs.Prelude.{ℕ, ◌*◌, ◌/◌, ◌<◌, List, ◌++◌, take}
use Rattle.paged_format.specs.Footers.{content_size}
use Rattle.paged_format.specs.Pages.{recovered}
use Rattle.paged_blob_parts.specs.Calls.{Call, content}
use Rattle.paged_blob_parts.specs.Caches.{Cache}
use Rattle.paged_blob_parts.specs.CachedContent.{HoldsPagesOf}
use Rattle.paged_blob_parts.specs.Answers.{Failures, IsCause}
use Rattle.paged_blob_parts.specs.declared.error.CallKind.TheVariants.{Read}
use Rattle.paged_blob_parts.specs.declared.error.Error.{Error}
use Rattle.paged_blob_parts.specs.declared.error.Error.TheVariants.{BlobInsufficientLength}

-- so many bytes of content on the blob
abbrev pub flushed : (List ℕ → ℕ) → ℕ → List Call → ℕ → List ℕ
flushed sum size calls count = take count (recovered sum size (content calls))

-- the pages that are kept under this name are those of a content that goes on from these bytes
abbrev pub ServesPages : List ℕ → Cache → ℕ → Type 0
ServesPages bytes cache blob_id = (more : List ℕ) × HoldsPagesOf (bytes ++ more) cache blob_id

-- whatever content goes on from these bytes, where its pages were kept they still are
abbrev pub StaysKept : List ℕ → Cache → Cache → ℕ → Type 0
StaysKept bytes old new blob_id =
    (more : List ℕ) → HoldsPagesOf (bytes ++ more) old blob_id → HoldsPagesOf (bytes ++ more) new blob_id

-- why a read that ends there, in a content of so many bytes of which so many are on the blob, may be refused
abbrev pub IsReadingCause : Failures → ℕ → ℕ → ℕ → ℕ → Error → Type 0
IsReadingCause failures size count len end BlobInsufficientLength = len < end
IsReadingCause failures size count len end error = IsCause failures Read (count / content_size size * size) error

-- all of the content: what is on the blob, and the tip in memory
abbrev pub readable : (List ℕ → ℕ) → ℕ → List Call → ℕ → List ℕ → List ℕ
readable sum size calls count tip = flushed sum size calls count ++ tip
