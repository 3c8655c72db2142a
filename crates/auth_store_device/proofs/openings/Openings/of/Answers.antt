use Rattle.auth_store_device.proofs.Replays.{openings-all}
use Rattle.auth_store_device.proofs.openings.Openings.of.Goals as goal

pub returns : goal.returns
returns c = openings-all c.args.record_kept.now.in_order
