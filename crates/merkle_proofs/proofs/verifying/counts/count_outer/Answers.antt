use Rattle.std.proofs.Common.{◌≡◌, take, drop, ◌∙◌, ap, arith}
use Rattle.merkle_forest.specs.Forest.{forest_of}
use Rattle.merkle_forest.specs.Peaks.{located_from}
use Rattle.merkle_forest.specs.Laws.Peaks.{located_from-zero}
use Rattle.merkle_theory.specs.MadeRoots.{peaks_of}
use Rattle.merkle_theory.specs.Ranges.{is_before, is_after}
use Rattle.merkle_theory.specs.RangeCounts.{passing, digests_for_before, digests_for_after}
use Rattle.merkle_theory.proofs.RangePeaks.{all_taken, rest_fits}
use Rattle.merkle_theory.proofs.Places.{first_of}
use Rattle.merkle_proofs.proofs.verifying.counts.count_outer.Goals as goal

pub sides_of-one-requires-clause-begins : goal.sides_of-one-requires-clause-begins
sides_of-one-requires-clause-begins g c some = first_of g.F.Family.merge_rule g.met.F.Family.merges_equals c.args.leaves some

pub returns : goal.returns
returns g c =
    let rule = g.F.Family.merge_rule in
    let forest = forest_of rule c.args.leaves in
    let all : located_from 0 forest ≡ peaks_of rule c.args.leaves = located_from-zero forest in
    let next = c.sides_of-one.result.next in
    let later : located_from next forest ≡ drop c.args.inactive (peaks_of rule c.args.leaves) = c.sides_of-one.ensures.next
    ∙ ap (drop c.args.inactive) all in
    let taken : take c.args.peaks (located_from next forest) ≡ drop c.args.inactive (peaks_of rule c.args.leaves) =
    ap (take c.args.peaks) later ∙ all_taken c.args.peaks (drop c.args.inactive (peaks_of rule c.args.leaves))
    (omega (arith, c.requires.peaks, rest_fits c.args.inactive (peaks_of rule c.args.leaves))) in
    let one_before = c.sides_of-one.ensures.before ∙ ap (λ ps. passing (is_before c.args.start) (take c.args.inactive ps)) all in
    let one_after = c.sides_of-one.ensures.after ∙ ap (λ ps. passing (is_after c.args.stop) (take c.args.inactive ps)) all in
    let other_before = c.sides_of-other.ensures.before ∙ ap (passing (is_before c.args.start)) taken in
    let other_after = c.sides_of-other.ensures.after ∙ ap (passing (is_after c.args.stop)) taken in
    let first = c.count_before.ensures.count ∙ ap (λ n. digests_for_before c.args.bagging n c.sides_of-other.result.before) one_before
    ∙ ap (digests_for_before c.args.bagging (passing (is_before c.args.start) (take c.args.inactive (peaks_of rule c.args.leaves)))) other_before in
    let last = c.count_after.ensures.count ∙ ap (λ n. digests_for_after c.args.bagging n c.sides_of-other.result.after) one_after
    ∙ ap (digests_for_after c.args.bagging (passing (is_after c.args.stop) (take c.args.inactive (peaks_of rule c.args.leaves)))) other_after in
    omega (arith, first, last)
