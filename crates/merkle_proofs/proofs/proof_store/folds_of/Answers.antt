use Rattle.std.proofs.Common.{◌≡◌, ◌+◌, ◌++◌, take, drop, min, ◌∙◌, ap, ap₂, arith}
use Rattle.std.proofs.lemmas.List.{length-drop}
use Rattle.merkle_forest.specs.Forest.{forest_of}
use Rattle.merkle_forest.specs.Laws.Peaks.{located_from-zero}
use Rattle.merkle_forest.specs.Peaks.{located_from}
use Rattle.merkle_theory.specs.MadeRoots.{peaks_of}
use Rattle.merkle_theory.specs.RangeCounts.{passing}
use Rattle.merkle_theory.specs.Ranges.{is_before, is_after}
use Rattle.merkle_theory.proofs.Places.{first_of}
use Rattle.merkle_theory.proofs.RangePeaks.{all_taken}
use Rattle.merkle_proofs.proofs.proof_store.folds_of.Goals as goal

pub sides_of-first-requires-clause-begins : goal.sides_of-first-requires-clause-begins
sides_of-first-requires-clause-begins g c some = first_of g.F.Family.merge_rule g.met.F.Family.merges_equals c.args.leaves some

pub returns-clause-front : goal.returns-clause-front
returns-clause-front g c =
    let forest = forest_of g.F.Family.merge_rule c.args.leaves in
    let peaks = peaks_of g.F.Family.merge_rule c.args.leaves in
    let k = c.args.singles in
    let all = located_from-zero forest in
    let count : c.min.result ≡ min 1 (passing (is_before c.args.start) (take k peaks)) =
    omega (arith, c.min.ensures, c.sides_of-first.ensures.before, ap (λ ps. passing (is_before c.args.start) (take k ps)) all) in
    c.in_ok-extend_from_slice.ensures.items ∙ ap (λ old. old ++ c.split_digests.result.0.now) c.new-front.ensures.items
    ∙ c.split_digests.ensures.0 ∙ ap (λ n. take n c.args.digests.now) count

pub returns-clause-back : goal.returns-clause-back
returns-clause-back g c =
    let forest = forest_of g.F.Family.merge_rule c.args.leaves in
    let peaks = peaks_of g.F.Family.merge_rule c.args.leaves in
    let start = c.args.start in
    let stop = c.args.stop in
    let k = c.args.singles in
    let all = located_from-zero forest in
    let others : located_from c.sides_of-first.result.next forest ≡ drop k peaks =
    c.sides_of-first.ensures.next ∙ ap (drop k) all in
    let others_all : take c.args.peaks (located_from c.sides_of-first.result.next forest) ≡ drop k peaks =
    ap (take c.args.peaks) others ∙ all_taken c.args.peaks (drop k peaks) (omega (arith, c.requires.counted, length-drop k peaks)) in
    let one = ap (λ ps. passing (is_before start) (take k ps)) all in
    let two = ap (λ ps. passing (is_after stop) (take k ps)) all in
    let three = ap (passing (is_before start)) others_all in
    let at : c.min-2.result + c.sides_of-first.result.after + c.sides_of-others.result.before
    ≡ min 1 (passing (is_before start) (take k peaks)) + passing (is_after stop) (take k peaks) + passing (is_before start) (drop k peaks) =
    omega (
      arith,
      c.min-2.ensures,
      c.sides_of-first.ensures.before,
      c.sides_of-first.ensures.after,
      c.sides_of-others.ensures.before,
      one,
      two,
      three,
    ) in
    let count : c.min-3.result ≡ min 1 (passing (is_after stop) (drop k peaks)) =
    omega (arith, c.min-3.ensures, c.sides_of-others.ensures.after, ap (passing (is_after stop)) others_all) in
    c.in_ok-extend_from_slice-2.ensures.items ∙ ap (λ old. old ++ c.split_digests-3.result.0.now) c.new-back.ensures.items
    ∙ c.split_digests-3.ensures.0
    ∙ ap₂ take count (c.split_digests-2.ensures.1 ∙ ap (λ n. drop n c.args.digests.now) at)
