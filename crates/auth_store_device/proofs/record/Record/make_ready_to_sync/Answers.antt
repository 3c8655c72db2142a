use Rattle.std.proofs.Common.{rules, ◌<◌, length, ap, ◌∙◌}
use Rattle.auth_store_device.specs.Records.{Recording}
use Rattle.auth_store_device.proofs.Recorded.{IsWell, well-gains, well-ready}
use Rattle.auth_store_device.proofs.record.Record.make_ready_to_sync.Goals as goal

pub put_image-requires-clause-untouched : goal.put_image-requires-clause-untouched
put_image-requires-clause-untouched c = λ i below out. absurd (c.all.ensures i out)

pub invariant_of-self-in_err-self-inside : goal.invariant_of-self-in_err-self-inside
invariant_of-self-in_err-self-inside c =
    let at = c.self.inside in
    let well : IsWell at.blocks at.calls.items c.bring_file.new.self at.ready = search rules in
    (well-gains at.blocks c.put_image.new.self at.calls.items c.make_place.new.self.items c.bring_file.new.self at.ready c.put_image.ensures.gains
    c.make_place.ensures.items well).1

pub returns-in_err-self-inside-clause-calls : goal.returns-in_err-self-inside-clause-calls
returns-in_err-self-inside-clause-calls c =
    let at = c.self.inside in
    (well-gains at.blocks c.put_image.new.self at.calls.items c.make_place.new.self.items at.base at.ready c.put_image.ensures.gains
    c.make_place.ensures.items c.self.invariant).0
    ∙ ap (λ (r : Recording). r.in_order) c.self.view_is

pub invariant_of-self-then-self : goal.invariant_of-self-then-self
invariant_of-self-then-self c =
    let at = c.self.inside in
    let well : IsWell at.blocks at.calls.items c.bring_file.new.self at.ready = search rules in
    let below : c.in_ok-self-inside.field-0 < length c.put_image.new.self.images = search rules in
    well-ready c.put_image.new.self c.make_place.new.self.items c.bring_file.new.self at.ready c.in_ok-self-inside.field-0 below
    (well-gains at.blocks c.put_image.new.self at.calls.items c.make_place.new.self.items c.bring_file.new.self at.ready c.put_image.ensures.gains
    c.make_place.ensures.items well).1

pub returns-in_ok-self-inside-clause-calls : goal.returns-in_ok-self-inside-clause-calls
returns-in_ok-self-inside-clause-calls c =
    let at = c.self.inside in
    (well-gains at.blocks c.put_image.new.self at.calls.items c.make_place.new.self.items at.base at.ready c.put_image.ensures.gains
    c.make_place.ensures.items c.self.invariant).0
    ∙ ap (λ (r : Recording). r.in_order) c.self.view_is
