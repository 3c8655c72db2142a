use Rattle.std.proofs.Common.{rules, ◌≡◌, Some, inr}
use Rattle.auth_store_device.specs.Devices.{failures_of}
use Rattle.auth_store_device.proofs.device.DeviceBlob.sync.Goals as goal

pub returns-clause-cause : goal.returns-clause-cause
returns-clause-cause g c = c.sync_log-answer.ensures.cause (failures_of c.args.self.now)

pub returns-clause-device : goal.returns-clause-device
returns-clause-device g c =
    let log : c.args.self.now.log ≡ Some c.in-Some.log = search rules in
    inr (inr (search rules, search rules, search rules, (c.in-Some.log, c.in-Some.log, log, search rules, search rules)))
