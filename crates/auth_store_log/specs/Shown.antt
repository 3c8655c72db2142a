-- What may be shown of a log, whatever a crash leaves.
use Rattle.std.specs.Prelude.{◌≡◌, ◌⊎◌, ℕ, IsFalse, List, [], ◌∷◌, length, take, Option, None, Some}
use Rattle.auth_store_parts.specs.History.{History, Commit}
use Rattle.paged_format.specs.Pages.{recovered}
use Rattle.paged_blob_parts.specs.Calls.{Call, file_of}
use Rattle.paged_blob_parts.specs.Images.{IsImage}
use Rattle.paged_blob_parts.specs.Chance.{is_by_chance}
use Rattle.auth_store_log.specs.Records.{Format, history_bytes, recovered_log}

-- the log of a history, perhaps with the commit that is pending
abbrev pub IsLog : Format → History → Option Commit → List ℕ → Type 0
IsLog format history None bytes = bytes ≡ history_bytes format history
IsLog format history (Some commit) bytes =
    (bytes ≡ history_bytes format history) ⊎ (bytes ≡ history_bytes format (commit ∷ history))

-- or, where there is no history yet, no commit at all
abbrev pub IsShown : Format → History → Option Commit → List ℕ → Type 0
IsShown format history pending bytes = IsLog format history pending bytes ⊎ ((history ≡ []) × (bytes ≡ []))

-- each opening of each image of the calls shows that, unless it is by chance
abbrev pub MayShow : Format → (List ℕ → ℕ) → ℕ → History → Option Commit → List Call → Type 0
MayShow format sum size history pending calls =
    (image : List ℕ) → IsImage (file_of calls) image → IsFalse (is_by_chance sum size (file_of calls) image)
    → IsShown format history pending (recovered_log format sum size image)

-- by chance or not, what is recovered of each image begins with these bytes
abbrev pub KeepsBytes : (List ℕ → ℕ) → ℕ → List ℕ → List Call → Type 0
KeepsBytes sum size bytes calls =
    (image : List ℕ) → IsImage (file_of calls) image → take (length bytes) (recovered sum size image) ≡ bytes

-- with the log of a history
abbrev pub KeepsLog : Format → (List ℕ → ℕ) → ℕ → History → List Call → Type 0
KeepsLog format sum size history calls = KeepsBytes sum size (history_bytes format history) calls

-- What an opening makes of bytes that a log is recovered of: they stay, or, where there is no commit, the log begins.
abbrev pub IsReopened : Format → List ℕ → List ℕ → Type 0
IsReopened format log shown = (shown ≡ log) ⊎ ((log ≡ []) × (shown ≡ history_bytes format []))

-- each opening of each image of the calls shows that, unless it is by chance
abbrev pub Reopens : Format → (List ℕ → ℕ) → ℕ → List ℕ → List Call → Type 0
Reopens format sum size log calls =
    (image : List ℕ) → IsImage (file_of calls) image → IsFalse (is_by_chance sum size (file_of calls) image)
    → IsReopened format log (recovered_log format sum size image)

-- at a moment of an opening both hold: openings show that, and what is recovered begins with the log
abbrev pub IsKeptThrough : Format → (List ℕ → ℕ) → ℕ → List ℕ → List Call → Type 0
IsKeptThrough format sum size log calls = Reopens format sum size log calls × KeepsBytes sum size log calls
