use Rattle.std.proofs.Common.{rules, ◌-◌, subst}
use Rattle.std.specs.Vec.{vec_len, vec_capacity}
use Rattle.auth_store_device.specs.BlocksCode.{Held, Gains}
use Rattle.auth_store_device.proofs.Helds.{gains-begun, held-of}
use Rattle.auth_store_device.proofs.blocks.Blocks.make_room.Goals as goal

pub returns-in_ok-begin_block-clause-gains : goal.returns-in_ok-begin_block-clause-gains
returns-in_ok-begin_block-clause-gains c =
    let at = c.self.inside in
    let now = c.begin_block.new in
    let room = vec_capacity at.last - vec_len at.last in
    let left = vec_capacity now.last - vec_len now.last in
    subst (λ (h : Held). Gains h (held-of now.full.items now.last at.images.items left)) c.self.view_is
    (gains-begun at.full.items at.last now.last at.images.items room left c.self.invariant.0 now.full.items (search rules) (search rules))
