use Rattle.std.proofs.Common.{◌≡◌, length, take}
use Rattle.paged_blob_parts.specs.Calls.{whole}
use Rattle.paged_blob_parts.specs.Chance.{was_written}
use Rattle.auth_store_device.specs.Devices.{shown_file}
use Rattle.auth_store_device.specs.OpeningsCode.{file_from}
use Rattle.auth_store_device.proofs.chance.was_written.Given as goal

abbrev pub invariant-loop-place : goal.invariant-loop-place
invariant-loop-place l = let sofar = file_from (shown_file l.since.base.now) (take l.place l.since.calls) in
    (l.file.items ≡ whole sofar.base sofar.changes)
    × (l.is_found ≡ was_written (length l.shown) l.page l.slot l.shown sofar.base sofar.changes)
