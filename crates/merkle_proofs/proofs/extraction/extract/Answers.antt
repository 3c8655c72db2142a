use Rattle.std.proofs.Common.{rules, ◌≡◌, ◌+◌, ◌++◌, length, map, filter, take, drop, min, sym, ◌∙◌, ap, arith}
use Rattle.std.proofs.lemmas.List.{length-drop}
use Rattle.std.proofs.lemmas.List.Sorted.{IsNonDecreasingBy-from_sort_by_key}
use Rattle.merkle_forest.specs.Forest.{forest_of}
use Rattle.merkle_forest.specs.Laws.Peaks.{located_from-zero}
use Rattle.merkle_forest.specs.Peaks.{located_from}
use Rattle.merkle_core_parts.specs.Mem.{encoded}
use Rattle.merkle_proofs.specs.Extracted.{inner_told, node_digests, extracted_nodes}
use Rattle.merkle_theory.specs.MadeRoots.{from_left, peaks_of}
use Rattle.merkle_theory.specs.RangeCounts.{passing}
use Rattle.merkle_theory.specs.Ranges.{is_before, is_after, singly, inner_digests}
use Rattle.merkle_proofs.proofs.Extractions.{after_front, grown_both}
use Rattle.merkle_theory.proofs.Places.{first_of}
use Rattle.merkle_theory.proofs.RangePeaks.{all_taken}
use Rattle.merkle_theory.proofs.RangeRoots.{drop-map}
use Rattle.merkle_proofs.proofs.extraction.extract.Goals as goal

pub peaks_from-peaks-requires-clause-begins : goal.peaks_from-peaks-requires-clause-begins
peaks_from-peaks-requires-clause-begins g c some = first_of g.F.Family.merge_rule g.met.F.Family.merges_equals c.args.reader.now.leaves some

pub sides_of-first-requires-clause-begins : goal.sides_of-first-requires-clause-begins
sides_of-first-requires-clause-begins g c some = first_of g.F.Family.merge_rule g.met.F.Family.merges_equals c.args.reader.now.leaves some

pub append_singles-requires-2-clause-begins : goal.append_singles-requires-2-clause-begins
append_singles-requires-2-clause-begins g c some = first_of g.F.Family.merge_rule g.met.F.Family.merges_equals c.args.reader.now.leaves some

pub append_told_peaks-requires-clause-begins : goal.append_told_peaks-requires-clause-begins
append_told_peaks-requires-clause-begins g c some = first_of g.F.Family.merge_rule g.met.F.Family.merges_equals c.args.reader.now.leaves some

pub returns : goal.returns
returns g c digest made given =
    let rule = g.F.Family.merge_rule in
    let enc = g.H.Digest.Write.encoding in
    let start = c.args.reader.now.start in
    let stop = start + length c.args.reader.now.elements.now in
    let leaves = c.args.reader.now.leaves in
    let forest = forest_of rule leaves in
    let peaks = peaks_of rule leaves in
    let bagging = g.H.Hasher.bagging_of c.args.reader.now.hasher.now in
    let k = from_left bagging c.args.inactive (length peaks) in
    let all = located_from-zero forest in
    let total : c.peaks_from-peaks.result ≡ length peaks = c.peaks_from-peaks.ensures.count ∙ ap length all in
    let k_is : c.folded_singly-singles.result ≡ k =
    c.folded_singly-singles.ensures ∙ ap (λ b. from_left b c.args.inactive c.peaks_from-peaks.result) c.root_bagging.ensures
    ∙ ap (from_left bagging c.args.inactive) total in
    let first_part : take c.folded_singly-singles.result (located_from 0 forest)
    ≡ take k peaks = ap (take c.folded_singly-singles.result) all ∙ ap (λ n. take n peaks) k_is in
    let others : located_from c.sides_of-first.result.next forest ≡ drop k peaks =
    c.sides_of-first.ensures.next ∙ ap (drop c.folded_singly-singles.result) all ∙ ap (λ n. drop n peaks) k_is in
    let others_all : take c.peaks_from-peaks.result (located_from c.sides_of-first.result.next forest) ≡ drop k peaks =
    ap (take c.peaks_from-peaks.result) others ∙ all_taken c.peaks_from-peaks.result (drop k peaks) (omega (arith, total, length-drop k peaks)) in
    let a = singly digest (filter (is_after stop) (take k peaks)) in
    let i = inner_digests digest start stop peaks in
    let ds = map enc c.args.digests.now in
    let before = filter (is_before start) (drop k peaks) in
    let after = filter (is_after stop) (take k peaks) in
    let front_is : c.min.result ≡ min 1 (passing (is_before start) (take k peaks)) =
    omega (arith, c.min.ensures, c.sides_of-first.ensures.before, ap (passing (is_before start)) first_part) in
    let back_is : c.min-2.result ≡ min 1 (passing (is_after stop) (drop k peaks)) =
    omega (arith, c.min-2.ensures, c.sides_of-others.ensures.after, ap (passing (is_after stop)) others_all) in
    let rest_is : map enc c.split_digests.result.1.now ≡ singly digest before ++ (a ++ (given.back ++ i)) =
    ap (map enc) c.split_digests.ensures.1 ∙ drop-map enc _ c.args.digests.now
    ∙ after_front c.min.result given.front (singly digest before ++ (a ++ (given.back ++ i))) ds given.is (given.fronts ∙ sym front_is) in
    let one = c.in_ok-index.ensures digest (a ++ (given.back ++ i))
    (rest_is ∙ ap (λ ns. singly digest (filter (is_before start) ns) ++ (a ++ (given.back ++ i))) (sym others_all)) in
    let two = c.in_ok-index-2.ensures digest (given.back ++ i)
    (one.0 ∙ ap (λ ns. singly digest (filter (is_after stop) ns) ++ (given.back ++ i)) (sym first_part)) in
    let back_rest : map enc c.split_digests-2.result.1.now ≡ given.back ++ i =
    ap (map enc) c.split_digests-2.ensures.1 ∙ drop-map enc c.in_ok-index-2.index c.split_digests.result.1.now ∙ two.0 in
    let inner_is : map enc c.split_digests-3.result.1.now ≡ i =
    ap (map enc) c.split_digests-3.ensures.1 ∙ drop-map enc c.min-2.result c.split_digests-2.result.1.now
    ∙ after_front c.min-2.result given.back i _ back_rest (given.backs ∙ sym back_is) in
    let three = c.in_ok-append_told_peaks.ensures digest made (inner_is ∙ ap (inner_digests digest start stop) (sym all)) in
    let e0 = encoded enc c.new-found.result.items in
    let e1 = encoded enc c.append_singles.new.found.items in
    let e2 = encoded enc c.append_singles-2.new.found.items in
    let e3 = encoded enc c.append_told_peaks.new.found.items in
    let g1 : e1 ≡ e0 ++ node_digests digest before = one.1 ∙ ap (λ ns. e0 ++ node_digests digest (filter (is_before start) ns)) others_all in
    let g2 : e2 ≡ e1 ++ node_digests digest after = two.1 ∙ ap (λ ns. e1 ++ node_digests digest (filter (is_after stop) ns)) first_part in
    let g3 : e3 ≡ e2 ++ node_digests digest (inner_told start stop peaks) = three ∙ ap (λ ps. e2 ++ node_digests digest (inner_told start stop ps)) all in
    let told : e3 ≡ e0 ++ node_digests digest (before ++ (after ++ inner_told start stop peaks)) =
    grown_both digest e0 e1 e3 before (after ++ inner_told start stop peaks) g1 (grown_both digest e1 e2 e3 after (inner_told start stop peaks) g2 g3) in
    record {
      told = c.append_told_peaks.new.found.items;
      is = told ∙ ap (λ xs. encoded enc xs ++ node_digests digest (extracted_nodes k start stop peaks)) c.new-found.ensures.items;
      all = c.in_ok-sort_by_key.ensures.permutation;
      ascending = IsNonDecreasingBy-from_sort_by_key (λ n. n.0) _ c.in_ok-sort_by_key.ensures.sorted (λ x r q n. search rules);
    }
