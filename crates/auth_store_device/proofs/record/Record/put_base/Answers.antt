use Rattle.std.proofs.Common.{rules, ◌≡◌, ◌<◌, [], length, get_or, refl, ap, ◌∙◌}
use Rattle.auth_store_device.specs.Records.{Recording}
use Rattle.auth_store_device.proofs.Recorded.{well-gains, well-put}
use Rattle.auth_store_device.proofs.record.Record.put_base.Goals as goal

pub invariant_of-self-in_err-self-inside : goal.invariant_of-self-in_err-self-inside
invariant_of-self-in_err-self-inside c =
    let at = c.self.inside in
    (well-gains at.blocks c.put_image.new.self at.calls.items at.calls.items c.bring_file.new.self at.ready c.put_image.ensures.gains refl
    (c.self.invariant.0, c.bring_file.ensures.base, c.self.invariant.2)).1

pub returns-in_err-self-inside-clause-calls : goal.returns-in_err-self-inside-clause-calls
returns-in_err-self-inside-clause-calls c =
    let at = c.self.inside in
    (well-gains at.blocks c.put_image.new.self at.calls.items at.calls.items at.base at.ready c.put_image.ensures.gains refl c.self.invariant).0
    ∙ ap (λ (r : Recording). r.in_order) c.self.view_is

pub invariant_of-self-2 : goal.invariant_of-self-2
invariant_of-self-2 c =
    let at = c.self.inside in
    let image = c.in_ok-self-inside.field-0 in
    let brought : c.bring_file.new.self.file_at ≡ c.bring_file.new.self.base_at = search rules in
    let below : image < length c.put_image.new.self.images = search rules in
    let these : get_or c.put_image.new.self.images image [] ≡ c.bring_file.new.self.file.items = search rules in
    well-put c.put_image.new.self at.calls.items c.bring_file.new.self at.ready image brought below these
    (well-gains at.blocks c.put_image.new.self at.calls.items at.calls.items c.bring_file.new.self at.ready c.put_image.ensures.gains refl
    (c.self.invariant.0, c.bring_file.ensures.base, c.self.invariant.2)).1

pub returns-clause-calls : goal.returns-clause-calls
returns-clause-calls c =
    let at = c.self.inside in
    (well-gains at.blocks c.put_image.new.self at.calls.items at.calls.items at.base at.ready c.put_image.ensures.gains refl c.self.invariant).0
    ∙ ap (λ (r : Recording). r.in_order) c.self.view_is
