use Rattle.std.proofs.Common.{◌≡◌, map, take, drop, Some, sym, ◌∙◌, ap, subst, arith}
use Rattle.merkle_forest.specs.Forest.{forest_of}
use Rattle.merkle_forest.specs.Laws.Peaks.{located_from-zero}
use Rattle.merkle_theory.specs.Assembled.{assembled}
use Rattle.merkle_theory.specs.MadeRoots.{peaks_of}
use Rattle.merkle_theory.specs.Plans.{Asked, range_positions, looked_up, honest_digests}
use Rattle.merkle_theory.specs.Ranges.{is_before, is_after}
use Rattle.merkle_theory.specs.RangeCounts.{passing}
use Rattle.merkle_theory.proofs.Places.{first_of}
use Rattle.merkle_theory.proofs.PlanFolds.{folded_is, side_fits, parts_mapped, if_ok}
use Rattle.merkle_proofs.proofs.plan.RangePlan.fold.Goals as goal

pub sides_of-sides-requires-clause-begins : goal.sides_of-sides-requires-clause-begins
sides_of-sides-requires-clause-begins g c some = first_of g.F.Family.merge_rule g.met.F.Family.merges_equals c.self.inside.leaves some

pub assemble-requires-clause-before : goal.assemble-requires-clause-before
assemble-requires-clause-before g c =
    let peaks = peaks_of g.F.Family.merge_rule c.self.inside.leaves in
    let front = c.sides_of-sides.ensures.before
    ∙ ap (λ ps. passing (is_before c.self.inside.start) (take c.args.inactive ps)) (located_from-zero
    (forest_of g.F.Family.merge_rule c.self.inside.leaves)) in
    omega (arith, front, side_fits (is_before c.self.inside.start) c.args.inactive peaks, c.self.invariant.1, c.split_at.ensures.front_len)

pub assemble-requires-clause-after : goal.assemble-requires-clause-after
assemble-requires-clause-after g c =
    let peaks = peaks_of g.F.Family.merge_rule c.self.inside.leaves in
    let back = c.sides_of-sides.ensures.after
    ∙ ap (λ ps. passing (is_after c.self.inside.stop) (take c.args.inactive ps)) (located_from-zero
    (forest_of g.F.Family.merge_rule c.self.inside.leaves)) in
    omega (arith, back, side_fits (is_after c.self.inside.stop) c.args.inactive peaks, c.self.invariant.2, c.split_at-2.ensures.front_len)

pub returns : goal.returns
returns g c known is =
    let rule = g.F.Family.merge_rule in
    let hash = g.H.Hasher.hash_of in
    let bagging = g.H.Hasher.bagging_of c.args.hasher.now in
    let enc = g.H.Digest.Write.encoding in
    let plan = c.self.inside in
    let peaks = peaks_of rule plan.leaves in
    let k = c.args.inactive in
    let n = c.sides_of-sides.result.before in
    let m = c.sides_of-sides.result.after in
    let all = located_from-zero (forest_of rule plan.leaves) in
    let front : n ≡ passing (is_before plan.start) (take k peaks) =
    c.sides_of-sides.ensures.before ∙ ap (λ ps. passing (is_before plan.start) (take k ps)) all in
    let back : m ≡ passing (is_after plan.stop) (take k peaks) =
    c.sides_of-sides.ensures.after ∙ ap (λ ps. passing (is_after plan.stop) (take k ps)) all in
    let before = c.split_at.result.0.now in
    let after = c.split_at-2.result.0.now in
    let inner = c.split_at-2.result.1.now in
    let by = parts_mapped enc plan.before plan.after c.args.nodes.now before c.split_at.result.1.now after inner c.split_at.ensures.front
    c.split_at.ensures.back c.split_at-2.ensures.front c.split_at-2.ensures.back in
    let Looked : Asked → Type 0 = λ a. map (λ d. Some d) (map enc c.args.nodes.now) ≡ map known (range_positions rule a.leaves a.start a.stop) in
    let whole = folded_is hash bagging known plan.start plan.stop k plan.before plan.after n m peaks (map enc c.args.nodes.now)
    (subst Looked (sym c.self.view_is) is) c.self.invariant.1 c.self.invariant.2 front back in
    let same = ap (λ ds. assembled hash bagging n ds m (map enc after) (map enc inner)) by.front
    ∙ ap (λ ds. assembled hash bagging n (take plan.before (map enc c.args.nodes.now)) m ds (map enc inner)) by.back
    ∙ ap (λ ds. assembled hash bagging n (take plan.before (map enc c.args.nodes.now)) m (take plan.after
    (drop plan.before (map enc c.args.nodes.now))) ds) by.rest
    ∙ whole in
    if_ok c.assemble.result (λ found made. made ∙ same
    ∙ ap (λ (a : Asked). honest_digests hash
    (looked_up known) bagging rule a.leaves k a.start a.stop) c.self.view_is)
    c.assemble.ensures
