use Rattle.std.proofs.Common.{rules, ◌-◌, subst}
use Rattle.std.specs.Vec.{vec_len, vec_capacity}
use Rattle.auth_store_device.specs.BlocksCode.{Held, Gains}
use Rattle.auth_store_device.proofs.Helds.{gains-put, held-of}
use Rattle.auth_store_device.proofs.blocks.Blocks.put.Goals as goal

pub returns-clause-gains : goal.returns-clause-gains
returns-clause-gains c =
    let at = c.self.inside in
    let next = c.extend_from_slice.new.self in
    let room = vec_capacity at.last - vec_len at.last in
    let left = vec_capacity next - vec_len next in
    subst (λ (h : Held). Gains h (held-of at.full.items next at.images.items left)) c.self.view_is
    (gains-put at.full.items at.last next at.images.items room left c.self.invariant.0 c.args.bytes.now (search rules))
