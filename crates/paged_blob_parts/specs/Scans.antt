-- What is recovered of a blob, while nothing has failed.
use Rattle.std.specs.Prelude.{ℕ, ◌≤◌, IsFalse, List, length, take}
use Rattle.paged_format.specs.Pages.{recovered}
use Rattle.paged_blob_parts.specs.Calls.{Call, content, file_of}

-- how many bytes of content are recovered of the first so many bytes of a blob
abbrev pub recoverable : (List ℕ → ℕ) → ℕ → List Call → ℕ → ℕ
recoverable sum size calls blob_size = length (recovered sum size (take blob_size (content calls)))

-- where nothing has failed, so many bytes of content are recovered of these, or more
abbrev pub AreProven : (List ℕ → ℕ) → ℕ → List Call → ℕ → ℕ → Type 0
AreProven sum size calls blob_size proven =
    IsFalse (file_of calls).failed → proven ≤ recoverable sum size calls blob_size
