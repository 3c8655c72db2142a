use Rattle.std.proofs.Common.{◌∙◌}
use Rattle.auth_store_device.proofs.Chances.{slot_len-bytes}
use Rattle.auth_store_device.proofs.chance.slot_len.Goals as goal

pub returns : goal.returns
returns c = c.from_be_bytes.ensures ∙ slot_len-bytes c.args.slot c.args.page.now c.slot_start-at.result c.slot_start-at.ensures c.requires
