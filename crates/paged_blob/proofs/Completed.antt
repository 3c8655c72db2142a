-- Which calls complete no sync.
use Rattle.std.proofs.Common.{◌≡◌, ℕ, List, Bool, Result, Ok, Err, OnErr, ap}
use Rattle.paged_blob_parts.specs.Answers.{Records, RecordsSync}
use Rattle.paged_blob_parts.specs.Calls.{Call, wrote}
use Rattle.paged_blob_parts.specs.declared.error.Error.{Error}
use Rattle.paged_blob_parts.specs.declared.error.Error.TheVariants.{Injected, BlobMissing, BlobInsufficientLength}
use Rattle.paged_blob_parts.specs.declared.error.Error.TheVariants.{NumberEnded, Memory, PowerCut, ChecksumMismatch}
use Rattle.paged_blob.specs.Completed.{completed_syncs}

-- a write, however it is answered
pub write_completes_none : {T : Type 0} (answer : Result T Error) (offset : ℕ) (bytes : List ℕ) (is_sync : Bool) (old new : List Call)
    → Records answer (wrote offset bytes is_sync) old new → completed_syncs new ≡ completed_syncs old
write_completes_none (Ok _) offset bytes is_sync old new is = ap completed_syncs is
write_completes_none (Err (Injected kind)) offset bytes is_sync old new is = ap completed_syncs is
write_completes_none (Err BlobMissing) offset bytes is_sync old new is = ap completed_syncs is
write_completes_none (Err BlobInsufficientLength) offset bytes is_sync old new is = ap completed_syncs is
write_completes_none (Err NumberEnded) offset bytes is_sync old new is = ap completed_syncs is
write_completes_none (Err Memory) offset bytes is_sync old new is = ap completed_syncs is
write_completes_none (Err PowerCut) offset bytes is_sync old new is = ap completed_syncs is
write_completes_none (Err ChecksumMismatch) offset bytes is_sync old new is = ap completed_syncs is

-- a sync that is refused
pub refused_completes_none : (e : Error) (old new : List Call) → RecordsSync {T = Unit} (Err e) old new
    → completed_syncs new ≡ completed_syncs old
refused_completes_none (Injected kind) old new is = ap completed_syncs is
refused_completes_none BlobMissing old new is = ap completed_syncs is
refused_completes_none BlobInsufficientLength old new is = ap completed_syncs is
refused_completes_none NumberEnded old new is = ap completed_syncs is
refused_completes_none Memory old new is = ap completed_syncs is
refused_completes_none PowerCut old new is = ap completed_syncs is
refused_completes_none ChecksumMismatch old new is = ap completed_syncs is

-- what holds in any case holds of a refusal
pub refused_too : {T E P : Type 0} (result : Result T E) → P → OnErr result P
refused_too (Ok _) holds = tt
refused_too (Err _) holds = holds
