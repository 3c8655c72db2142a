use Rattle.std.proofs.Common.{rules, ◌-◌, subst}
use Rattle.std.specs.Vec.{vec_len, vec_capacity}
use Rattle.auth_store_device.specs.BlocksCode.{Held, Gains}
use Rattle.auth_store_device.proofs.Helds.{gains-image, held-of}
use Rattle.auth_store_device.proofs.blocks.Blocks.note_image.Goals as goal

pub returns-clause-gains : goal.returns-clause-gains
returns-clause-gains c =
    let at = c.self.inside in
    let room = vec_capacity at.last - vec_len at.last in
    subst (λ (h : Held). Gains h (held-of at.full.items at.last c.push.new.self.items room)) c.self.view_is
    (gains-image at.full.items at.last at.last at.images.items room room c.self.invariant.0 c.push.new.self.items c.args.parts (search rules))
