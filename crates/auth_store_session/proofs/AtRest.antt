-- Steps of a closed device.
use Rattle.std.proofs.Common.{◌≡◌, ℕ, None, refl, sym, subst, ap}
use Rattle.fault_storage_parts.specs.declared.config.Config.{Config}
use Rattle.paged_blob_parts.specs.Caches.{Cache}
use Rattle.auth_store_device.specs.Devices.{DeviceState, after_asking}
use Rattle.auth_store_device.specs.Logs.{HasOwnHeader}
use Rattle.auth_store_log.specs.Records.{Format}
use Rattle.auth_store_machine.specs.Machine.{Machine, Request, Answer, ask_crash, ask_config, ask_cut, has_crashed}
use Rattle.auth_store_machine.specs.Machine.{is_set, not_open, asked_to_cut, openings_in, Leaves}
use Rattle.auth_store_machine.specs.Standing.{Steps, closed_at, power_of}
use Rattle.auth_store_machine.proofs.Powers.{passes_crash, is_crash, leaves_same, passes_asking, stays}
use Rattle.auth_store_session.proofs.Rests.{rests_in, header_same, IsRefusedClosed}

-- it crashes
pub crash_rests : {R : Type 0} (m : Machine) (format : Format) (device new : DeviceState R) (cache : Cache) → new.calls ≡ device.calls
    → (HasOwnHeader device.storage.inner → HasOwnHeader new.storage.inner) → new.storage.injections ≡ device.storage.injections
    → new.refused ≡ 0 → new.left ≡ None → new.storage.inner.next ≡ device.storage.inner.next
    → Steps m format (closed_at device cache) ask_crash has_crashed (closed_at new cache)
crash_rests m format device new cache calls header injected refused left files =
    let crash = is_crash device new cache injected refused left files calls in (
      passes_crash device new cache injected refused left files calls,
      rests_in m format device new cache ask_crash has_crashed calls header (λ history pending. (refl, refl, crash))
          (λ history. (refl, refl, crash)),
    )

-- it has other settings
pub config_rests : {R : Type 0} (m : Machine) (format : Format) (device new : DeviceState R) (cache : Cache) (config : Config)
    → new ≡ record device { storage = record device.storage { config = config } }
    → Steps m format (closed_at device cache) ask_config is_set (closed_at new cache)
config_rests {R = R} m format device new cache config is =
    let same : power_of new cache ≡ power_of device cache = ap (λ (d : DeviceState R). power_of d cache) is in (
      leaves_same device new cache cache same,
      rests_in m format device new cache ask_config is_set (ap (λ (d : DeviceState R). d.calls) is)
          (header_same _ _ (ap (λ (d : DeviceState R). d.storage.inner) is)) (λ history pending. (refl, refl, same))
          (λ history. (refl, refl, same)),
    )

-- a cut of its power is asked for
pub cut_rests : {R : Type 0} (m : Machine) (format : Format) (device new : DeviceState R) (cache : Cache) (calls : ℕ)
    → new ≡ record device { left = after_asking calls device.left }
    → Steps m format (closed_at device cache) (ask_cut calls) is_set (closed_at new cache)
cut_rests {R = R} m format device new cache calls is =
    let same : power_of new cache ≡ asked_to_cut calls (power_of device cache) = ap (λ (d : DeviceState R). power_of d cache) is in (
      passes_asking device new cache cache calls same,
      rests_in m format device new cache (ask_cut calls) is_set (ap (λ (d : DeviceState R). d.calls) is)
          (header_same _ _ (ap (λ (d : DeviceState R). d.storage.inner) is)) (λ history pending. (refl, refl, same))
          (λ history. (refl, refl, same)),
    )

-- it does nothing
pub refused_rests : {R : Type 0} (m : Machine) (format : Format) (device : DeviceState R) (cache : Cache) (request : Request)
    → IsRefusedClosed request → Steps m format (closed_at device cache) request not_open (closed_at device cache)
refused_rests m format device cache request is = (
  subst (λ p. Leaves (openings_in request) None p (power_of device cache)) (sym (is.turned (power_of device cache)))
      (stays (openings_in request) None (power_of device cache) refl refl),
  rests_in m format device device cache request not_open refl (λ own. own)
      (λ history pending. is.steps m (power_of device cache) history pending)
      (λ history. is.doubts m (power_of device cache) history),
)

-- steps between what is equal
pub rests_as : {R : Type 0} (m : Machine) (format : Format) (was now end : DeviceState R) (cache : Cache) (request asked : Request)
    (answer said : Answer) → request ≡ asked → answer ≡ said → end ≡ now
    → Steps m format (closed_at was cache) asked said (closed_at now cache)
    → Steps m format (closed_at was cache) request answer (closed_at end cache)
rests_as m format was now end cache request asked answer said r a d steps =
    subst (λ q. Steps m format (closed_at was cache) q answer (closed_at end cache)) (sym r)
    (subst (λ x. Steps m format (closed_at was cache) asked x (closed_at end cache)) (sym a)
    (subst (λ n. Steps m format (closed_at was cache) asked said (closed_at n cache)) (sym d) steps))
