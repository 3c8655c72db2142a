use Rattle.std.proofs.Common.{sym, ◌∙◌, ap}
use Rattle.std.specs.Option.{option_map}
use Rattle.merkle_core_parts.specs.Layers.{new_at, replacement_at}
use Rattle.merkle_core_parts.specs.Mem.{Layer, encoded}
use Rattle.merkle_core_parts.specs.Laws.Waiting.{there-replaced, there-kept}
use Rattle.merkle_memory.proofs.layer.node_with.Goals as goal

pub returns-in-Some : goal.returns-in-Some
returns-in-Some g c =
    let encoding = g.D.Write.encoding in
    let p = c.args.position in
    there-replaced c.args.layer.now.changed p (option_map encoding c.args.there)
    (new_at g.F.Family.merge_rule c.args.layer.now p) (encoding c.in_ok-digest.digest) (encoding c.in-Some.changed)
    (sym c.in_ok-digest.ensures)
    (sym (c.in-Some.ensures ∙ ap (λ cs. replacement_at (encoded encoding cs) p) c.deref.ensures.value
    ∙ ap (λ (l : Layer). replacement_at l.changed p) c.layer.view_is))

pub returns-in-None : goal.returns-in-None
returns-in-None g c =
    let encoding = g.D.Write.encoding in
    let p = c.args.position in
    there-kept c.args.layer.now.changed p (option_map encoding c.args.there)
    (new_at g.F.Family.merge_rule c.args.layer.now p) (encoding c.in_ok-digest.digest)
    (sym c.in_ok-digest.ensures)
    (sym (c.in-None.ensures ∙ ap (λ cs. replacement_at (encoded encoding cs) p) c.deref.ensures.value
    ∙ ap (λ (l : Layer). replacement_at l.changed p) c.layer.view_is))
