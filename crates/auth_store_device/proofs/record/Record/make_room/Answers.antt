use Rattle.std.proofs.Common.{ap, ◌∙◌}
use Rattle.auth_store_device.specs.Records.{Recording}
use Rattle.auth_store_device.proofs.Recorded.{well-gains}
use Rattle.auth_store_device.proofs.record.Record.make_room.Goals as goal

pub invariant_of-self-2 : goal.invariant_of-self-2
invariant_of-self-2 c =
    let at = c.self.inside in
    (well-gains at.blocks c.make_room.new.self at.calls.items c.make_place.new.self.items at.base at.ready c.make_room.ensures.gains
    c.make_place.ensures.items c.self.invariant).1

pub returns-clause-calls : goal.returns-clause-calls
returns-clause-calls c =
    let at = c.self.inside in
    (well-gains at.blocks c.make_room.new.self at.calls.items c.make_place.new.self.items at.base at.ready c.make_room.ensures.gains
    c.make_place.ensures.items c.self.invariant).0
    ∙ ap (λ (r : Recording). r.in_order) c.self.view_is
