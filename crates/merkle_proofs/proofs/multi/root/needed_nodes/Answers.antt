use Rattle.std.proofs.Common.{◌≡◌, ◌<◌, false, length, map, sym, ◌∙◌, ap, subst, arith}
use Rattle.std.proofs.lemmas.List.{length-map, take_all}
use Rattle.merkle_theory.specs.MultiReads.{can_be_shown, AreNeeded}
use Rattle.merkle_theory.proofs.PlanFolds.{if_ok}
use Rattle.merkle_theory.proofs.ShownRefusals.{needed_of, not_empty, where_none}
use Rattle.merkle_proofs.proofs.multi.root.needed_nodes.Goals as goal

pub returns-in-Ok : goal.returns-in-Ok
returns-in-Ok g c =
    let rule = g.F.Family.merge_rule in
    let elements = c.args.elements.now in
    let some : 0 < length elements =
    not_empty (length elements) (sym c.is_empty.ensures ∙ c.if-is_empty.false) in
    let same : c.deref.result.now ≡ map (λ e. e.1) elements =
    c.deref.ensures.value ∙ c.loop-location.invariant
    ∙ ap (map (λ e. e.1)) (take_all c.loop-location.location-index elements (omega
    (arith, c.loop-location-test.false, c.loop-location.auto.location-index-end))) in
    let long : 0 < length c.deref.result.now = omega (arith, ap length same, length-map elements (λ e. e.1), some) in
    subst (λ ls. AreNeeded rule c.args.leaves ls c.in-Ok.positions.items) same
    (needed_of rule c.args.leaves c.deref.result.now c.in-Ok.positions.items long c.in-Ok.ensures.good
    c.in-Ok.ensures.few c.in-Ok.ensures.positions)

pub returns : goal.returns
returns g c =
    let rule = g.F.Family.merge_rule in
    let elements = c.args.elements.now in
    let some : 0 < length elements =
    not_empty (length elements) (sym c.is_empty.ensures ∙ c.if-is_empty.false) in
    let same : c.deref.result.now ≡ map (λ e. e.1) elements =
    c.deref.ensures.value ∙ c.loop-location.invariant
    ∙ ap (map (λ e. e.1)) (take_all c.loop-location.location-index elements (omega
    (arith, c.loop-location-test.false, c.loop-location.auto.location-index-end))) in
    let long : 0 < length c.deref.result.now = omega (arith, ap length same, length-map elements (λ e. e.1), some) in
    if_ok c.none_if_refused.result
    (λ found is. where_none (can_be_shown c.args.leaves (map (λ e. e.1) elements)
    ≡ false) (λ positions. AreNeeded rule c.args.leaves (map (λ e. e.1) elements) positions.items) found is.0
    (ap (can_be_shown c.args.leaves) (sym same) ∙ is.1))
    (c.none_if_refused.ensures c.args.leaves c.deref.result.now long c.in-Err.ensures.refused)
