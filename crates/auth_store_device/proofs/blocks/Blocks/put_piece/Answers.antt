use Rattle.auth_store_device.proofs.Helds.{gains-both}
use Rattle.auth_store_device.proofs.blocks.Blocks.put_piece.Goals as goal

pub returns-clause-gains : goal.returns-clause-gains
returns-clause-gains c = gains-both c.args.self.now c.make_room.new.self c.put.new.self c.make_room.ensures.gains c.put.ensures.gains
