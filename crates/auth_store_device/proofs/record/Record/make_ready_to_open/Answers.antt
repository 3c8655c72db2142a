use Rattle.std.proofs.Common.{rules, ◌≡◌, ◌==◌, ◌<◌, List, [], true, length, reverse, sym, subst, refl, ◌∙◌}
use Rattle.std.proofs.lemmas.Bool.{eqb-true}
use Rattle.paged_blob_parts.specs.Calls.{Call, file_of}
use Rattle.auth_store_device.specs.RecordsCode.{calls_in}
use Rattle.auth_store_device.proofs.Bases.{base-in-image, nothing-since}
use Rattle.paged_blob_parts.specs.Images.{IsImage}
use Rattle.auth_store_device.proofs.Reached.{image_settled}
use Rattle.auth_store_device.proofs.Untouched.{untouched-image}
use Rattle.auth_store_device.proofs.KeptCalls.{length-in}
use Rattle.auth_store_device.proofs.Recorded.{well-gains, well-ready}
use Rattle.auth_store_device.proofs.record.Record.make_ready_to_open.Goals as goal

pub returns-then-self-len-clause-ready : goal.returns-then-self-len-clause-ready
returns-then-self-len-clause-ready c =
    let at = c.self-2.inside in
    let all = calls_in at.blocks [] at.calls.items in
    let same : all ≡ c.args.self.now.in_order = search rules in
    let has : (at.base.image_at == at.base.base_at) ≡ true = search rules in
    let last : at.base.base_at ≡ length at.calls.items = search rules in
    let none = nothing-since at.blocks all at.base c.self-2.invariant.1 (last ∙ sym (length-in at.blocks [] at.calls.items)) in
    let image : IsImage (file_of (reverse all)) c.args.shown.now = subst
    (λ (l : List Call). IsImage (file_of (reverse l)) c.args.shown.now) (sym same) c.requires in
    base-in-image at.blocks all at.base c.self-2.invariant.1 (eqb-true at.base.image_at at.base.base_at has)
    ∙ sym (image_settled (file_of (reverse all)) c.args.shown.now none image)

pub put_image-requires-clause-untouched : goal.put_image-requires-clause-untouched
put_image-requires-clause-untouched c = λ i below out.
    let at = c.self-2.inside in
    let all = calls_in at.blocks [] at.calls.items in
    let same : all ≡ c.args.self.now.in_order = search rules in
    let image : IsImage (file_of (reverse all)) c.args.shown.now = subst
    (λ (l : List Call). IsImage (file_of (reverse l)) c.args.shown.now) (sym same) c.requires in
    let t = c.self-2.invariant.1.touched i out in
    untouched-image (file_of (reverse all)) c.args.shown.now i image below t.0 ∙ t.1

pub invariant_of-self-in_err-self-inside : goal.invariant_of-self-in_err-self-inside
invariant_of-self-in_err-self-inside c =
    let at = c.self-2.inside in
    (well-gains at.blocks c.put_image.new.self at.calls.items at.calls.items at.base at.ready c.put_image.ensures.gains refl c.self-2.invariant).1

pub returns-in_err-self-inside-clause-calls : goal.returns-in_err-self-inside-clause-calls
returns-in_err-self-inside-clause-calls c =
    let at = c.self-2.inside in
    let same : calls_in at.blocks [] at.calls.items ≡ c.args.self.now.in_order = search rules in
    (well-gains at.blocks c.put_image.new.self at.calls.items at.calls.items at.base at.ready c.put_image.ensures.gains refl c.self-2.invariant).0 ∙ same

pub invariant_of-self-3 : goal.invariant_of-self-3
invariant_of-self-3 c =
    let at = c.self-2.inside in
    let below : c.in_ok-self-inside.field-0 < length c.put_image.new.self.images = search rules in
    well-ready c.put_image.new.self at.calls.items at.base at.ready c.in_ok-self-inside.field-0 below
    (well-gains at.blocks c.put_image.new.self at.calls.items at.calls.items at.base at.ready c.put_image.ensures.gains refl c.self-2.invariant).1

pub returns-clause-calls : goal.returns-clause-calls
returns-clause-calls c =
    let at = c.self-2.inside in
    let same : calls_in at.blocks [] at.calls.items ≡ c.args.self.now.in_order = search rules in
    (well-gains at.blocks c.put_image.new.self at.calls.items at.calls.items at.base at.ready c.put_image.ensures.gains refl c.self-2.invariant).0 ∙ same
