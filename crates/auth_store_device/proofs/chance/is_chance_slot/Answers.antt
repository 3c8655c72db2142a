use Rattle.std.proofs.Common.{rules, arith, ◌≡◌, ◌<◌, length, ap, ◌∙◌}
use Rattle.paged_blob_parts.specs.Calls.{File}
use Rattle.auth_store_device.specs.Devices.{shown_file}
use Rattle.auth_store_device.specs.OpeningsCode.{file_from}
use Rattle.auth_store_device.proofs.Chances.{chance-none, chance-some, page-long}
use Rattle.auth_store_device.proofs.chance.is_chance_slot.Goals as goal

pub returns-then-not-verifies : goal.returns-then-not-verifies
returns-then-not-verifies g c =
    let file : File = file_from (shown_file c.args.since.now.base.now) c.args.since.now.calls in
    let some : 0 < c.args.size = omega (arith, c.requires.size) in
    let here = c.page_at-here.ensures in
    let long : length c.page_at-here.result.now ≡ c.args.size = ap length here ∙ page-long c.args.size c.args.page c.args.shown.now some c.requires.page in
    chance-none g.C.Checksum.checksum_of c.args.size c.args.page c.args.slot file c.args.shown.now c.page_at-here.result.now here long (search rules)

pub returns : goal.returns
returns g c =
    let file : File = file_from (shown_file c.args.since.now.base.now) c.args.since.now.calls in
    let some : 0 < c.args.size = omega (arith, c.requires.size) in
    let here = c.page_at-here.ensures in
    let long : length c.page_at-here.result.now ≡ c.args.size = ap length here ∙ page-long c.args.size c.args.page c.args.shown.now some c.requires.page in
    chance-some g.C.Checksum.checksum_of c.args.size c.args.page c.args.slot file c.args.shown.now c.page_at-here.result.now here long (search rules)
    c.in_ok-is_written.is_written (search rules)
