-- Why a log is refused, and how the pages that are kept in memory are named.
use Rattle.std.specs.Prelude.{◌⊎◌, ℕ, ◌<◌, ◌≤◌, ◌^◌, ⊤, max, IsFalse, List, length, Contains, Result, Ok, Err}
use Rattle.paged_blob_parts.specs.Answers.{Failures, failures_after, HaveEnded, IsPastNumbers}
use Rattle.paged_blob_parts.specs.Caches.{Cache, Page}
use Rattle.paged_blob_parts.specs.Flushes.{physical_size}
use Rattle.paged_blob_parts.specs.Reads.{IsReadingCause}
use Rattle.paged_blob_parts.specs.declared.error.Error.{Error}
use Rattle.paged_blob_parts.specs.declared.error.Error.TheVariants.{Injected, BlobMissing, NumberEnded, Memory}
use Rattle.paged_blob_parts.specs.declared.error.Error.TheVariants.{PowerCut}
use Rattle.auth_store_log.specs.declared.error.LogError.{LogError}
use Rattle.auth_store_log.specs.declared.error.LogError.TheVariants.{Corrupt, Refused}
use Rattle.auth_store_log.specs.Records.{Format, record_size, IsNoLog}

-- Why a log is refused that reaches so far on its blob, and takes names in the cache up to this one, after such
-- failures: a fault was injected, a cut stands, memory is wanted, no opening stands, or a number ends. Never because
-- the blob is too short or does not verify.
abbrev pub IsLogCause : Failures → ℕ → ℕ → Error → Type 0
IsLogCause failures last_id reach (Injected kind) = ⊤
IsLogCause failures last_id reach NumberEnded = IsPastNumbers reach ⊎ (HaveEnded failures ⊎ (2 ^ 64 ≤ last_id))
IsLogCause failures last_id reach Memory = ⊤
IsLogCause failures last_id reach PowerCut = ⊤
IsLogCause failures last_id reach BlobMissing = IsFalse failures.is_open
IsLogCause failures last_id reach _ = ⊥

-- how far the recovery of a log reaches: over what the blob has, and over the pages of the first record
abbrev pub log_reach : Format → ℕ → List ℕ → ℕ
log_reach format size file = max (length file) (physical_size size (record_size format))

-- Why the reading of an operation is refused whose record ends there, in a list of bytes of which so many are on pages
-- of a blob: the reading of its bytes is, or no log has this list.
abbrev pub IsRecordCause : Format → Failures → ℕ → ℕ → List ℕ → ℕ → LogError → Type 0
IsRecordCause format failures size count list end (Refused e) = IsReadingCause failures size count (length list) end e
IsRecordCause format failures size count list end Corrupt = IsNoLog format list

-- what has refused calls of the blob, after such a reading
abbrev pub failures_after_reading : {T : Type 0} → Result T LogError → Failures → Failures
failures_after_reading (Ok operation) failures = failures
failures_after_reading (Err Corrupt) failures = failures
failures_after_reading (Err (Refused e)) failures = failures_after {T = Unit {0}} (Err e) failures

-- each page that is kept has a name that the cache has given
pub record AreNamed (cache : Cache) : Type 0 where
  pub each : (page : Page) → Contains cache.pages page → page.blob_id < cache.next_id
