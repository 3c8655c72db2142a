use Rattle.std.proofs.Common.{◌≡◌, ◌<◌, ◌≤◌, map, length, None, sym, ◌∙◌, ap, subst, arith}
use Rattle.std.specs.Prelude.{IfErr}
use Rattle.std.proofs.lemmas.Result.{err_from_is_err_and}
use Rattle.merkle_forest.specs.Forest.{forest_of}
use Rattle.merkle_forest.specs.Laws.Peaks.{located_from-zero}
use Rattle.merkle_theory.specs.MadeRoots.{peaks_of}
use Rattle.merkle_theory.specs.Plans.{Asked, first_missing, range_positions, IsRefusalToBuild}
use Rattle.merkle_theory.proofs.Places.{first_of}
use Rattle.merkle_theory.proofs.PlanDigests.{all_known, refused_too}
use Rattle.merkle_proofs.proofs.plan.RangePlan.build.Goals as goal

pub peaks_from-requires-clause-begins : goal.peaks_from-requires-clause-begins
peaks_from-requires-clause-begins g c some = first_of g.F.Family.merge_rule g.met.F.Family.merges_equals c.self.inside.leaves some

pub returns-then-inactive-peaks_from-clause-refused : goal.returns-then-inactive-peaks_from-clause-refused
returns-then-inactive-peaks_from-clause-refused g c known answers =
    let rule = g.F.Family.merge_rule in
    let counted = c.peaks_from.ensures.count ∙ ap length (located_from-zero (forest_of rule c.self.inside.leaves)) in
    subst (λ (a : Asked). length (peaks_of rule a.leaves) < c.args.inactive_peaks) c.self.view_is (omega (arith, counted, c.if-inactive-peaks_from.true))

pub returns-in_err-nodes-clause-refused : goal.returns-in_err-nodes-clause-refused
returns-in_err-nodes-clause-refused g c known answers =
    let rule = g.F.Family.merge_rule in
    let counted = c.peaks_from.ensures.count ∙ ap length (located_from-zero (forest_of rule c.self.inside.leaves)) in
    let enough : c.args.inactive_peaks ≤ length (peaks_of rule c.args.self.now.leaves) =
    subst (λ (a : Asked). c.args.inactive_peaks ≤ length (peaks_of rule a.leaves)) c.self.view_is (omega (arith, counted, c.if-inactive-peaks_from.false)) in
    let at : c.deref.result.now ≡ range_positions rule c.args.self.now.leaves c.args.self.now.start c.args.self.now.stop =
    c.deref.ensures.value ∙ c.self.invariant.3 ∙ ap (λ (a : Asked). range_positions rule a.leaves a.start a.stop) c.self.view_is in
    let p = err_from_is_err_and c.from_residual.result c.from_residual.ensures.1 in
    subst (λ r. IfErr r (λ e. IsRefusalToBuild rule c.args.self.now c.args.inactive_peaks known e)) (sym p.1)
    (subst (λ e. IsRefusalToBuild rule c.args.self.now c.args.inactive_peaks known e) (sym p.2)
    (refused_too rule c.args.self.now c.args.inactive_peaks known c.deref.result.now c.in_err-nodes.field-0.0 enough at
    (c.in_err-nodes.ensures.refused known answers)))

pub returns-clause-enough : goal.returns-clause-enough
returns-clause-enough g c =
    let rule = g.F.Family.merge_rule in
    let counted = c.peaks_from.ensures.count ∙ ap length (located_from-zero (forest_of rule c.self.inside.leaves)) in
    subst (λ (a : Asked). c.args.inactive_peaks ≤ length (peaks_of rule a.leaves)) c.self.view_is (omega (arith, counted, c.if-inactive-peaks_from.false))

pub returns-clause-known : goal.returns-clause-known
returns-clause-known g c known answers =
    let rule = g.F.Family.merge_rule in
    let at : c.deref.result.now ≡ range_positions rule c.args.self.now.leaves c.args.self.now.start c.args.self.now.stop =
    c.deref.ensures.value ∙ c.self.invariant.3 ∙ ap (λ (a : Asked). range_positions rule a.leaves a.start a.stop) c.self.view_is in
    subst (λ ps. first_missing known ps ≡ None) at
    (all_known known (map g.D.Write.encoding c.in_ok-nodes.nodes.items) c.deref.result.now (c.in_ok-nodes.ensures.found known answers))
