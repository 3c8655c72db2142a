use Rattle.std.proofs.Common.{◌≡◌, ◌+◌, List, ◌++◌, refl, sym, ◌∙◌, ap, arith}
use Rattle.merkle_forest.specs.Forest.{leaf_count, forest_of}
use Rattle.merkle_forest.specs.Peaks.{located_from}
use Rattle.merkle_forest.specs.Trees.{Located}
use Rattle.merkle_theory.specs.Multi.{multi_nodes}
use Rattle.merkle_theory.specs.Plans.{positions_of}
use Rattle.merkle_theory.proofs.PlanNodes.{after_none, on_ok}
use Rattle.merkle_theory.proofs.RangePeaks.{none_from}
use Rattle.merkle_theory.proofs.Unnamed.{found_peak}
use Rattle.merkle_theory.proofs.Walks.{walk_from, located_from-all}
use Rattle.merkle_proofs.proofs.multi.+append_unnamed_peaks.Goals as goal

pub returns-then-first-leaves : goal.returns-then-first-leaves
returns-then-first-leaves g t c =
    let old = c.args.found.now.items in
    let none = none_from g.F.Family.merge_rule g.met.F.Family.merges_equals c.args.leaves c.args.first (omega (arith, c.if-first-leaves.true)) in
    after_none old old refl ∙ ap (λ ps. old ++ positions_of (multi_nodes c.args.locations.now ps)) (sym none)

pub returns : goal.returns
returns g t c =
    let rule = g.F.Family.merge_rule in
    let at = c.peak_at-next.result in
    let it = c.peak_at-next.ensures.peak in
    let old = c.args.found.now.items in
    let mid = c.append_unnamed.new.found.items in
    let new = c.append_unnamed_peaks.new.found.items in
    let locations = c.args.locations.now in
    let rest = c.in_ok-rest.rest.now in
    let end : at.1 ≡ at.0.first + leaf_count it.node = omega (arith, it.same, it.next) in
    let step = walk_from rule c.args.leaves c.args.first at.0.first at.0.position at.0.height at.1 it in
    let later : List Located = located_from at.1 (forest_of rule c.args.leaves) in
    on_ok {P = new ≡ mid ++ positions_of (multi_nodes rest later)} c.append_unnamed_peaks.result
    (λ grown. found_peak locations rest at.0.first at.1 it.node later old mid new end (located_from-all at.1 (forest_of rule c.args.leaves))
    (c.in_ok-rest.ensures it.node it.tree) grown ∙ ap (λ ps. old ++ positions_of (multi_nodes locations ps)) (sym step))
    c.append_unnamed_peaks.ensures
