use Rattle.std.proofs.Common.{rules, None, refl, subst}
use Rattle.auth_store_device.specs.Devices.{DeviceState}
use Rattle.auth_store_device.specs.Logs.{HasOwnHeader}
use Rattle.auth_store_device.specs.Records.{calls_of}
use Rattle.auth_store_device.proofs.Steps.{crashed, own_crashed}
use Rattle.auth_store_device.proofs.device.Device.crash.Goals as goal

pub invariant_of-self : goal.invariant_of-self
invariant_of-self g c =
    let at = c.self.inside in
    let old : DeviceState g.row.R.Denot =
    record { storage = at.storage; log = at.log; calls = calls_of at.record_kept; left = at.left; refused = at.refused } in
    let new : DeviceState g.row.R.Denot =
    record { storage = c.crash.new.self; log = at.log; calls = calls_of at.record_kept; left = None; refused = 0 } in
    crashed old new _ _ c.crash.ensures.store (search rules) refl refl refl c.self.invariant

pub returns-clause-header : goal.returns-clause-header
returns-clause-header g c =
    let at = c.self.inside in
    let P : DeviceState g.row.R.Denot → Type 0 = λ s. HasOwnHeader s.storage.inner → HasOwnHeader c.crash.new.self.inner in
    subst P c.self.view_is (own_crashed at.storage.inner c.crash.new.self.inner _ _ c.crash.ensures.store c.self.invariant.orderly)
