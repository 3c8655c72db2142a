use Rattle.std.proofs.Common.{◌≡◌, ◌+◌, true, false, List, [], ◌∷◌, ◌++◌, filter, refl, sym, ◌∙◌, ap, arith}
use Rattle.merkle_forest.specs.Forest.{leaf_count, forest_of}
use Rattle.merkle_forest.specs.Peaks.{located_from}
use Rattle.merkle_forest.specs.Trees.{Located}
use Rattle.merkle_theory.specs.Plans.{positions_of}
use Rattle.merkle_proofs.specs.RangesCode.{stands}
use Rattle.merkle_theory.proofs.PlanNodes.{after_none, side_step, on_ok}
use Rattle.merkle_theory.proofs.RangePeaks.{none_from}
use Rattle.merkle_theory.proofs.Walks.{walk_from}
use Rattle.merkle_proofs.proofs.plan.positions.+append_side.Goals.{then-is_on_side+in_ok-push, else-is_on_side}
use Rattle.merkle_proofs.proofs.plan.positions.+append_side.Goals as goal

pub returns-then-first-leaves : goal.returns-then-first-leaves
returns-then-first-leaves g t c =
    let none = none_from g.F.Family.merge_rule g.met.F.Family.merges_equals c.args.leaves c.args.first (omega (arith, c.if-first-leaves.true)) in
    after_none c.args.found.now.items c.args.found.now.items refl
    ∙ ap (λ ps. c.args.found.now.items ++ positions_of (filter (stands c.args.side) ps)) (sym none)

pub returns : goal.returns
returns g t c =
    let rule = g.F.Family.merge_rule in
    let at = c.peak_at-next.result in
    let it = c.peak_at-next.ensures.peak in
    let old = c.args.found.now.items in
    let new = c.append_side.new.found.items in
    let end : at.1 ≡ at.0.first + leaf_count it.node = omega (arith, it.same, it.next) in
    let step = walk_from rule c.args.leaves c.args.first at.0.first at.0.position at.0.height at.1 it in
    let rest : List Located = located_from at.1 (forest_of rule c.args.leaves) in
    let on = c.is_on_side.ensures it.node end in
    let peak : Located = (at.0.first, it.node) in
    on_ok {P = new ≡ c.if-is_on_side.found.items ++ positions_of (filter (stands c.args.side) rest)} c.append_side.result
    (λ grown. elim c.if-is_on_side.branch [
      | then-is_on_side+in_ok-push w ↦
          side_step (stands c.args.side) peak rest true old c.if-is_on_side.found.items new (sym on ∙ w.if-is_on_side.true)
          (ap (λ v. v.items) w.found-is ∙ w.in_ok-push.ensures.items ∙ ap (λ p. old ++ p ∷ []) (w.new.ensures ∙ it.tree.subtree)) grown
      | else-is_on_side w ↦
          side_step (stands c.args.side) peak rest false old c.if-is_on_side.found.items new (sym on ∙ w.if-is_on_side.false)
          (after_none old c.if-is_on_side.found.items (ap (λ v. v.items) w.found-is)) grown
    ] ∙ ap (λ ps. old ++ positions_of (filter (stands c.args.side) ps)) (sym step)) c.append_side.ensures
