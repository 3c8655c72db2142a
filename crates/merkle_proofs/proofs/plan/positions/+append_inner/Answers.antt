use Rattle.std.proofs.Common.{◌≡◌, true, false, List, ◌++◌, refl, sym, ◌∙◌, ap, arith}
use Rattle.merkle_forest.specs.Forest.{forest_of}
use Rattle.merkle_forest.specs.Peaks.{located_from}
use Rattle.merkle_forest.specs.Trees.{Located}
use Rattle.merkle_theory.specs.Plans.{inner_nodes, positions_of}
use Rattle.merkle_theory.proofs.PlanNodes.{after_none, inner_step, on_ok}
use Rattle.merkle_theory.proofs.RangePeaks.{none_from}
use Rattle.merkle_theory.proofs.Walks.{walk_from}
use Rattle.merkle_proofs.proofs.plan.positions.+append_inner.Goals.{then-meets_range+in_ok-append_siblings, else-meets_range}
use Rattle.merkle_proofs.proofs.plan.positions.+append_inner.Goals as goal

pub returns-then-first-leaves : goal.returns-then-first-leaves
returns-then-first-leaves g t c =
    let none = none_from g.F.Family.merge_rule g.met.F.Family.merges_equals c.args.leaves c.args.first (omega (arith, c.if-first-leaves.true)) in
    after_none c.args.found.now.items c.args.found.now.items refl
    ∙ ap (λ ps. c.args.found.now.items ++ positions_of (inner_nodes c.args.start c.args.stop ps)) (sym none)

pub returns : goal.returns
returns g t c =
    let rule = g.F.Family.merge_rule in
    let at = c.peak_at-next.result in
    let it = c.peak_at-next.ensures.peak in
    let old = c.args.found.now.items in
    let new = c.append_inner.new.found.items in
    let step = walk_from rule c.args.leaves c.args.first at.0.first at.0.position at.0.height at.1 it in
    let rest : List Located = located_from at.1 (forest_of rule c.args.leaves) in
    let peak : Located = (at.0.first, it.node) in
    let met = c.meets_range.ensures it.node it.tree in
    on_ok {P = new ≡ c.if-meets_range.found.items ++ positions_of (inner_nodes c.args.start c.args.stop rest)} c.append_inner.result
    (λ grown. elim c.if-meets_range.branch [
      | then-meets_range+in_ok-append_siblings w ↦
          inner_step c.args.start c.args.stop peak rest true old c.if-meets_range.found.items new (sym met ∙ w.if-meets_range.true)
          (ap (λ v. v.items) w.found-is ∙ w.in_ok-append_siblings.ensures it.node it.tree) grown
      | else-meets_range w ↦
          inner_step c.args.start c.args.stop peak rest false old c.if-meets_range.found.items new (sym met ∙ w.if-meets_range.false)
          (after_none old c.if-meets_range.found.items (ap (λ v. v.items) w.found-is)) grown
    ] ∙ ap (λ ps. old ++ positions_of (inner_nodes c.args.start c.args.stop ps)) (sym step)) c.append_inner.ensures
