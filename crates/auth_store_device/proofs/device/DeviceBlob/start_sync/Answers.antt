use Rattle.std.proofs.Common.{rules, ◌≡◌, Result, subst, sym}
use Rattle.fault_storage_parts.specs.declared.error.Call.{Call}
use Rattle.fault_storage.specs.Directory.{MemorySyncs}
use Rattle.fault_storage.specs.Faults.{IsFaultyCall}
use Rattle.paged_blob_parts.specs.declared.error.CallKind.{CallKind}
use Rattle.paged_blob_parts.specs.declared.error.Error.{Error}
use Rattle.auth_store_device.specs.Devices.{IsDeviceCall}
use Rattle.auth_store_device.proofs.device.DeviceBlob.start_sync.Goals as goal

pub returns-clause-device : goal.returns-clause-device
returns-clause-device g c =
    let is : c.new.result.answer ≡ c.sync.result = search rules in
    subst (λ (told : Result Unit Error). IsDeviceCall CallKind.Sync
    (λ blob below answer changed left. (changed ≡ blob)
    × IsFaultyCall g.R.Rng.stream Call.Sync below.config.sync (MemorySyncs blob.inner) below answer left) c.args.self.now told c.sync.new.self)
    (sym is) c.sync.ensures.device
