use Rattle.std.proofs.Common.{◌≡◌}
use Rattle.paged_blob_parts.specs.Chance.{has_chance_slot}
use Rattle.auth_store_device.specs.Devices.{shown_file}
use Rattle.auth_store_device.specs.OpeningsCode.{file_from}
use Rattle.auth_store_device.proofs.chance.has_chance_slot.Given as goal

abbrev pub invariant-loop-page : goal.invariant-loop-page
invariant-loop-page g l =
    l.is_found ≡ has_chance_slot g.C.Checksum.checksum_of l.size (file_from (shown_file l.since.base.now) l.since.calls) l.shown l.page
