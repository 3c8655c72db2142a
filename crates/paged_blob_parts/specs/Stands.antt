-- Content on whole pages of a blob that stands there, whatever became of the blob's other calls, and lists of it.
use Rattle.std.specs.Prelude.{◌≡◌, ℕ, ◌*◌, ◌/◌, ◌%◌, ◌<◌, ◌≤◌, ◌^◌, List, ◌++◌, length, take}
use Rattle.paged_format.specs.Footers.{content_size}
use Rattle.paged_format.specs.Pages.{recovered}
use Rattle.paged_blob_parts.specs.Calls.{Call, content, file_of}
use Rattle.paged_blob_parts.specs.Images.{IsLive}
use Rattle.paged_blob_parts.specs.Reads.{flushed}
use Rattle.paged_blob_parts.specs.Writers.{WriterState}
use Rattle.paged_blob_parts.specs.declared.read.FlushedPages.{FlushedPages}

-- the content of these pages
abbrev pub on_blob : (List ℕ → ℕ) → List Call → FlushedPages → List ℕ
on_blob sum calls pages = flushed sum pages.physical_page_size calls pages.len

-- the content is on whole pages, and whatever a read may find has it
pub record Stand (sum : List ℕ → ℕ) (calls : List Call) (pages : FlushedPages) : Type 0 where
  pub whole : pages.len % content_size pages.physical_page_size ≡ 0
  pub shown : pages.len ≤ length (recovered sum pages.physical_page_size (content calls))
  pub found : (live : List ℕ) → IsLive (file_of calls) live
      → take pages.len (recovered sum pages.physical_page_size live) ≡ on_blob sum calls pages
  -- no number of a page's place ends
  pub numbers : pages.len / content_size pages.physical_page_size * pages.physical_page_size < 2 ^ 64

-- a list of that content and of what stands behind it in memory
abbrev pub listed : (List ℕ → ℕ) → List Call → FlushedPages → List ℕ → List ℕ
listed sum calls pages tail = on_blob sum calls pages ++ tail

-- these pages and this end in memory are the list, and the pages stand
pub record IsSealed
    (sum : List ℕ → ℕ) (calls : List Call) (list : List ℕ) (pages : FlushedPages) (tail : List ℕ) : Type 0 where
  pub stand : Stand sum calls pages
  pub is : listed sum calls pages tail ≡ list

-- the pages of a writer: what stands before its tip
abbrev pub pages_of : WriterState → FlushedPages
pages_of w = record { physical_page_size = w.page_size; blob_id = w.blob_id; len = w.tip.offset }
