use Rattle.std.proofs.Common.{rules, of_calls, ◌≡◌, ℕ, length, List, None, sym, ◌∙◌, ap, subst, arith}
use Rattle.std.specs.Prelude.{IfErr}
use Rattle.std.proofs.lemmas.Result.{err_from_is_err_and}
use Rattle.merkle_forest.specs.Forest.{forest_of}
use Rattle.merkle_forest.specs.Laws.Peaks.{located_from-zero}
use Rattle.merkle_theory.specs.MadeRoots.{peaks_of}
use Rattle.merkle_theory.specs.Multi.{AreMultiPositions, first_bad, IsRefusalToProveMany}
use Rattle.merkle_theory.proofs.ManyDigests.{refused_many}
use Rattle.merkle_theory.proofs.Places.{first_of}
use Rattle.merkle_proofs.proofs.building.multi_proof.Goals as goal

pub peaks_from-requires-clause-begins : goal.peaks_from-requires-clause-begins
peaks_from-requires-clause-begins g c some = first_of g.F.Family.merge_rule g.met.F.Family.merges_equals c.as_u64.result some

pub returns-then-inactive-peaks_from-clause-refused : goal.returns-then-inactive-peaks_from-clause-refused
returns-then-inactive-peaks_from-clause-refused g c =
    let rule = g.F.Family.merge_rule in
    let total = g.R.Readable.leaf_total c.args.nodes.now in
    let leaves_is : c.new-leaves.result ≡ total = c.new-leaves.ensures ∙ c.leaf_count.ensures.count in
    let counted : c.peaks_from.result ≡ length (peaks_of rule total) = c.peaks_from.ensures.count
    ∙ ap length (located_from-zero (forest_of rule c.as_u64.result))
    ∙ ap (λ n. length (peaks_of rule n)) (c.as_u64.ensures ∙ leaves_is) in
    (subst (λ n. first_bad n 0 c.args.locations.now ≡ None) leaves_is c.in_ok-positions.ensures.good, omega (arith, counted, c.if-inactive-peaks_from.true))

pub returns-in_err-digests-clause-refused : goal.returns-in_err-digests-clause-refused
returns-in_err-digests-clause-refused g c =
    let rule = g.F.Family.merge_rule in
    let known = g.R.Readable.digest_at c.args.nodes.now in
    let total = g.R.Readable.leaf_total c.args.nodes.now in
    let leaves_is : c.new-leaves.result ≡ total = c.new-leaves.ensures ∙ c.leaf_count.ensures.count in
    let counted : c.peaks_from.result ≡ length (peaks_of rule total) = c.peaks_from.ensures.count
    ∙ ap length (located_from-zero (forest_of rule c.as_u64.result))
    ∙ ap (λ n. length (peaks_of rule n)) (c.as_u64.ensures ∙ leaves_is) in
    let positions : List ℕ = c.in_ok-positions.positions.items in
    let there = subst (λ n. AreMultiPositions rule n c.args.locations.now positions) leaves_is c.in_ok-positions.ensures.positions in
    let p = err_from_is_err_and c.from_residual-in_err-digests.result c.from_residual-in_err-digests.ensures.1 in
    let why = c.in_err-digests.ensures.refused known (λ p answer low post. search (rules, of_calls)) in
    subst (λ r. IfErr r (λ e. IsRefusalToProveMany rule total c.args.locations.now c.args.inactive_peaks known e)) (sym p.1)
    (subst (λ e. IsRefusalToProveMany rule total c.args.locations.now c.args.inactive_peaks known e) (sym p.2)
    (refused_many rule total c.args.locations.now c.args.inactive_peaks known c.deref.result.now positions c.in_err-digests.field-0.0
    (omega (arith, counted, c.if-inactive-peaks_from.false)) there c.deref.ensures.value why))

pub returns-clause-enough : goal.returns-clause-enough
returns-clause-enough g c =
    let rule = g.F.Family.merge_rule in
    let total = g.R.Readable.leaf_total c.args.nodes.now in
    let counted : c.peaks_from.result ≡ length (peaks_of rule total) = c.peaks_from.ensures.count
    ∙ ap length (located_from-zero (forest_of rule c.as_u64.result))
    ∙ ap (λ n. length (peaks_of rule n)) (c.as_u64.ensures ∙ c.new-leaves.ensures ∙ c.leaf_count.ensures.count) in
    omega (arith, counted, c.if-inactive-peaks_from.false)
