use Rattle.std.proofs.Common.{◌+◌, ap, ◌∙◌}
use Rattle.auth_store_device.proofs.Chances.{slot_crc-bytes}
use Rattle.auth_store_device.proofs.chance.slot_crc.Goals as goal

pub returns : goal.returns
returns c =
    c.from_be_bytes.ensures
    ∙ slot_crc-bytes c.args.slot c.args.page.now (c.slot_start-at.result + 2) (ap (λ n. n + 2) c.slot_start-at.ensures) c.requires
