-- What stands at the beginning: a device of which nothing was called yet.
use Rattle.std.proofs.Common.{◌≡◌, ◌<◌, ◌≤◌, ◌+◌, ℕ, List, [], ◌∷◌, length, None, Some, refl, sym, subst, ◌∙◌, ap, inr, arith}
use Rattle.std.specs.Prelude.{true, false}
use Rattle.fault_storage_parts.specs.Crc32.{crc32}
use Rattle.paged_format.specs.Pages.{recovered}
use Rattle.paged_format.specs.Laws.Pages.{recovered-none}
use Rattle.paged_blob_parts.specs.Caches.{Cache}
use Rattle.paged_blob_parts.specs.Calls.{synced}
use Rattle.state_ops.specs.Operation.{Operation, commit_floor}
use Rattle.state_ops.specs.Reading.{HasEncoding}
use Rattle.auth_store_device.specs.Devices.{DeviceState}
use Rattle.auth_store_device.specs.Logs.{has_log}
use Rattle.auth_store_device.specs.Settings.{IsNew}
use Rattle.auth_store_log.specs.Records.{Format, IsRecorded, committed, recovered_log}
use Rattle.auth_store_log.proofs.Found.{committed_short}
use Rattle.auth_store_machine.specs.Machine.{closed}
use Rattle.auth_store_machine.specs.Stores.{IsWritten, OpeningsShow}
use Rattle.auth_store_machine.specs.Standing.{StandsFor}

-- an operation that has an encoding is recorded
abbrev pub Recording : Type 0
Recording = (format : Format) (operation : Operation)
    → HasEncoding format.key format.value format.key_size format.value_size operation → IsRecorded format operation

-- the empty history is written, whatever keys and values are
pub none_written : Recording → (format : Format) → IsWritten format []
none_written records format = record {
  states = tt;
  recorded = (records format (commit_floor None 0) (tt, omega arith), tt);
  few = omega arith;
}

no_bytes : (bytes : List ℕ) → length bytes ≤ 0 → bytes ≡ []
no_bytes [] few = refl
no_bytes (byte ∷ bytes) few = absurd (omega (arith, few))

-- no log is recovered of no bytes
pub nothing_recovered : (format : Format) (size : ℕ) → 0 < size → recovered_log format crc32 size [] ≡ []
nothing_recovered format size some =
    let none : recovered crc32 size [] ≡ [] = recovered-none crc32 size [] some in
    ap (committed format) none ∙ sym (committed_short format [] (omega arith))

-- openings show that there is no history yet
pub nothing_shown : Recording → (format : Format) (size : ℕ) → 0 < size → OpeningsShow format size [] None (synced [] true ∷ [])
nothing_shown records format size some = record {
  written = none_written records format;
  next = tt;
  shown = λ image is never.
      inr (refl, ap (recovered_log format crc32 size) (no_bytes image is.no_longer) ∙ nothing_recovered format size some);
  kept = tt;
}

-- a new device stands for the empty history
pub stands_for_none : {R : Type 0} → Recording → (rng : R) (device : DeviceState R) (cache : Cache) (format : Format) → IsNew rng device
    → StandsFor format (Some (device, cache)) None (closed [] None)
stands_for_none records rng device cache format new = (
  subst (OpeningsShow format (cache.page_size + 12) [] None) (sym new.calls)
      (nothing_shown records format (cache.page_size + 12) (omega arith)),
  λ there. absurd (let e : false ≡ true = ap has_log (sym new.files) ∙ there in cc),
)
