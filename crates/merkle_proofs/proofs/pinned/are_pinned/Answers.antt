use Rattle.std.proofs.Common.{◌≡◌, false, ◌++◌, length, map, filter, take, drop, replicate, refl, sym, ◌∙◌, ap, subst, arith}
use Rattle.std.proofs.lemmas.Bool.{both_ways}
use Rattle.std.proofs.lemmas.List.{length-drop, length-map}
use Rattle.merkle_forest.specs.Forest.{forest_of}
use Rattle.merkle_forest.specs.Hashing.{folded_forward}
use Rattle.merkle_forest.specs.Laws.Peaks.{located_from-zero}
use Rattle.merkle_forest.specs.Peaks.{located_from}
use Rattle.merkle_theory.specs.MadeRoots.{from_left, peaks_of}
use Rattle.merkle_theory.specs.Pinned.{at_peak, pinned_digest, outer_before, inner_before, Begins}
use Rattle.merkle_theory.specs.RangeCounts.{range_outer}
use Rattle.merkle_theory.specs.Ranges.{Digests, is_before, as_one, singly}
use Rattle.merkle_theory.proofs.Places.{first_of}
use Rattle.merkle_theory.proofs.RangePeaks.{all_taken}
use Rattle.merkle_theory.proofs.RangeRoots.{drop-map}
use Rattle.merkle_proofs.proofs.pinned.are_pinned.Goals as goal

pub peaks_from-requires-clause-begins : goal.peaks_from-requires-clause-begins
peaks_from-requires-clause-begins g c some = first_of g.F.Family.merge_rule g.met.F.Family.merges_equals c.args.pins.now.start some

pub peaks_from-peaks-requires-clause-begins : goal.peaks_from-peaks-requires-clause-begins
peaks_from-peaks-requires-clause-begins g c some = first_of g.F.Family.merge_rule g.met.F.Family.merges_equals c.args.leaves some

pub sides_of-sides-requires-clause-begins : goal.sides_of-sides-requires-clause-begins
sides_of-sides-requires-clause-begins g c some = first_of g.F.Family.merge_rule g.met.F.Family.merges_equals c.args.leaves some

pub append_peaks_before-requires-clause-begins : goal.append_peaks_before-requires-clause-begins
append_peaks_before-requires-clause-begins g c some = first_of g.F.Family.merge_rule g.met.F.Family.merges_equals c.args.leaves some

pub append_inner_before-requires-clause-begins : goal.append_inner_before-requires-clause-begins
append_inner_before-requires-clause-begins g c some = first_of g.F.Family.merge_rule g.met.F.Family.merges_equals c.args.leaves some

pub count_outer-outer_count-requires-clause-peaks : goal.count_outer-outer_count-requires-clause-peaks
count_outer-outer_count-requires-clause-peaks g c =
    c.peaks_from-peaks.ensures.count ∙ ap length (located_from-zero (forest_of g.F.Family.merge_rule c.args.leaves))

pub returns-then-pins-peaks_from : goal.returns-then-pins-peaks_from
returns-then-pins-peaks_from g c =
    let rule = g.F.Family.merge_rule in
    let enc = g.H.Digest.Write.encoding in
    let total : c.peaks_from.result ≡ length (peaks_of rule c.args.pins.now.start) =
    c.peaks_from.ensures.count ∙ ap length (located_from-zero (forest_of rule c.args.pins.now.start)) in
    let count = length-map c.args.pins.now.digests.now enc in
    (λ yes. absurd (both_ways false refl yes), λ pinned. absurd (c.if-pins-peaks_from.true (sym count ∙ pinned.counted ∙ sym total)))

pub returns-then-not-begins_with : goal.returns-then-not-begins_with
returns-then-not-begins_with g c =
    let rule = g.F.Family.merge_rule in
    let hash = g.H.Hasher.hash_of in
    let enc = g.H.Digest.Write.encoding in
    let start = c.args.pins.now.start in
    let stop = c.args.stop in
    let leaves = c.args.leaves in
    let forest = forest_of rule leaves in
    let peaks = peaks_of rule leaves in
    let bagging = g.H.Hasher.bagging_of c.args.pins.now.hasher.now in
    let k = from_left bagging c.args.inactive (length peaks) in
    let digest : Digests = pinned_digest (g.H.Hasher.node_of c.args.pins.now.hasher.now) (replicate g.H.Digest.FixedSize.SIZE 0)
    (at_peak (peaks_of rule start) (map enc c.args.pins.now.digests.now)) in
    let digests = map enc c.args.digests.now in
    let all = located_from-zero forest in
    let total : c.peaks_from-peaks.result ≡ length peaks = c.peaks_from-peaks.ensures.count ∙ ap length all in
    let k_is : c.folded_singly-singles.result ≡ k =
    c.folded_singly-singles.ensures ∙ ap (λ b. from_left b c.args.inactive c.peaks_from-peaks.result) c.root_bagging-bagging.ensures
    ∙ ap (from_left bagging c.args.inactive) total in
    let first_part : take c.folded_singly-singles.result (located_from 0 forest) ≡ take k peaks =
    ap (take c.folded_singly-singles.result) all ∙ ap (λ n. take n peaks) k_is in
    let others : located_from c.sides_of-sides.result.next forest ≡ drop k peaks =
    c.sides_of-sides.ensures.next ∙ ap (drop c.folded_singly-singles.result) all ∙ ap (λ n. drop n peaks) k_is in
    let others_all : take c.peaks_from-peaks.result (located_from c.sides_of-sides.result.next forest) ≡ drop k peaks =
    ap (take c.peaks_from-peaks.result) others ∙ all_taken c.peaks_from-peaks.result (drop k peaks) (omega (arith, total, length-drop k peaks)) in
    let fronts = singly digest (filter (is_before start) (take k peaks)) in
    let backs = singly digest (filter (is_before start) (drop k peaks)) in
    let front_is : map enc c.append_peaks_before.new.found.items ≡ fronts =
    c.in_ok-append_peaks_before.ensures
    ∙ ap (λ xs. map enc xs ++ singly digest (filter (is_before start) (take c.folded_singly-singles.result (located_from 0 forest))))
    c.new-front.ensures.items
    ∙ ap (λ ps. singly digest (filter (is_before start) ps)) first_part in
    let one_is : map enc c.append_folded_forward.new.found.items ≡ as_one (folded_forward hash) fronts =
    c.in_ok-append_folded_forward.ensures
    ∙ ap (λ xs. map enc xs ++ as_one (folded_forward hash) (map enc c.deref.result.now)) c.new-outer.ensures.items
    ∙ ap (λ xs. as_one (folded_forward hash) (map enc xs)) c.deref.ensures.value ∙ ap (as_one (folded_forward hash)) front_is in
    let outer_is : map enc c.append_peaks_before-2.new.found.items ≡ outer_before hash digest k start peaks =
    c.in_ok-append_peaks_before-2.ensures
    ∙ ap (λ xs. xs ++ singly digest (filter (is_before start) (take c.peaks_from-peaks.result (located_from c.sides_of-sides.result.next forest)))) one_is
    ∙ ap (λ ps. as_one (folded_forward hash) fronts ++ singly digest (filter (is_before start) ps)) others_all in
    let outer_deref : map enc c.deref-2.result.now ≡ outer_before hash digest k start peaks = ap (map enc) c.deref-2.ensures.value ∙ outer_is in (
      λ yes. absurd (both_ways false refl yes),
      λ pinned. absurd (both_ways c.begins_with.result c.if-not-begins_with.true
          (c.begins_with.ensures.1 (subst (λ ds. Begins ds digests) (sym outer_deref) pinned.peaks))),
    )

pub returns : goal.returns
returns g c =
    let rule = g.F.Family.merge_rule in
    let hash = g.H.Hasher.hash_of in
    let enc = g.H.Digest.Write.encoding in
    let start = c.args.pins.now.start in
    let stop = c.args.stop in
    let leaves = c.args.leaves in
    let forest = forest_of rule leaves in
    let peaks = peaks_of rule leaves in
    let bagging = g.H.Hasher.bagging_of c.args.pins.now.hasher.now in
    let k = from_left bagging c.args.inactive (length peaks) in
    let digest : Digests = pinned_digest (g.H.Hasher.node_of c.args.pins.now.hasher.now) (replicate g.H.Digest.FixedSize.SIZE 0)
    (at_peak (peaks_of rule start) (map enc c.args.pins.now.digests.now)) in
    let digests = map enc c.args.digests.now in
    let all = located_from-zero forest in
    let total : c.peaks_from-peaks.result ≡ length peaks = c.peaks_from-peaks.ensures.count ∙ ap length all in
    let k_is : c.folded_singly-singles.result ≡ k =
    c.folded_singly-singles.ensures ∙ ap (λ b. from_left b c.args.inactive c.peaks_from-peaks.result) c.root_bagging-bagging.ensures
    ∙ ap (from_left bagging c.args.inactive) total in
    let first_part : take c.folded_singly-singles.result (located_from 0 forest) ≡ take k peaks =
    ap (take c.folded_singly-singles.result) all ∙ ap (λ n. take n peaks) k_is in
    let others : located_from c.sides_of-sides.result.next forest ≡ drop k peaks =
    c.sides_of-sides.ensures.next ∙ ap (drop c.folded_singly-singles.result) all ∙ ap (λ n. drop n peaks) k_is in
    let others_all : take c.peaks_from-peaks.result (located_from c.sides_of-sides.result.next forest) ≡ drop k peaks =
    ap (take c.peaks_from-peaks.result) others ∙ all_taken c.peaks_from-peaks.result (drop k peaks) (omega (arith, total, length-drop k peaks)) in
    let fronts = singly digest (filter (is_before start) (take k peaks)) in
    let backs = singly digest (filter (is_before start) (drop k peaks)) in
    let front_is : map enc c.append_peaks_before.new.found.items ≡ fronts =
    c.in_ok-append_peaks_before.ensures
    ∙ ap (λ xs. map enc xs ++ singly digest (filter (is_before start) (take c.folded_singly-singles.result (located_from 0 forest))))
    c.new-front.ensures.items
    ∙ ap (λ ps. singly digest (filter (is_before start) ps)) first_part in
    let one_is : map enc c.append_folded_forward.new.found.items ≡ as_one (folded_forward hash) fronts =
    c.in_ok-append_folded_forward.ensures
    ∙ ap (λ xs. map enc xs ++ as_one (folded_forward hash) (map enc c.deref.result.now)) c.new-outer.ensures.items
    ∙ ap (λ xs. as_one (folded_forward hash) (map enc xs)) c.deref.ensures.value ∙ ap (as_one (folded_forward hash)) front_is in
    let outer_is : map enc c.append_peaks_before-2.new.found.items ≡ outer_before hash digest k start peaks =
    c.in_ok-append_peaks_before-2.ensures
    ∙ ap (λ xs. xs ++ singly digest (filter (is_before start) (take c.peaks_from-peaks.result (located_from c.sides_of-sides.result.next forest)))) one_is
    ∙ ap (λ ps. as_one (folded_forward hash) fronts ++ singly digest (filter (is_before start) ps)) others_all in
    let outer_deref : map enc c.deref-2.result.now ≡ outer_before hash digest k start peaks = ap (map enc) c.deref-2.ensures.value ∙ outer_is in
    let inner_is : map enc c.append_inner_before.new.found.items ≡ inner_before digest start stop peaks =
    c.in_ok-append_inner_before.ensures
    ∙ ap (λ xs. map enc xs ++ inner_before digest start stop (located_from 0 forest)) c.new-inner.ensures.items
    ∙ ap (inner_before digest start stop) all in
    let inner_deref : map enc c.deref-3.result.now ≡ inner_before digest start stop peaks = ap (map enc) c.deref-3.ensures.value ∙ inner_is in
    let outer = range_outer bagging start stop c.args.inactive peaks in
    let count : c.count_outer-outer_count.result ≡ outer =
    c.count_outer-outer_count.ensures ∙ ap (λ b. range_outer b start stop c.args.inactive peaks) c.root_bagging-bagging.ensures in
    let rest : map enc c.split_digests.result.1.now ≡ drop outer digests =
    ap (map enc) c.split_digests.ensures.1 ∙ drop-map enc _ c.args.digests.now ∙ ap (λ n. drop n digests) count in
    let pins_total : c.peaks_from.result ≡ length (peaks_of rule start) =
    c.peaks_from.ensures.count ∙ ap length (located_from-zero (forest_of rule start)) in
    let counted : length (map enc c.args.pins.now.digests.now) ≡ length (peaks_of rule start) =
    length-map c.args.pins.now.digests.now enc ∙ c.if-pins-peaks_from.false ∙ pins_total in
    let outer_begins : Begins (outer_before hash digest k start peaks) digests =
    subst (λ ds. Begins ds digests) outer_deref (c.begins_with.ensures.0 c.if-not-begins_with.false) in (
      λ yes. record {
        counted = counted;
        peaks = outer_begins;
        nodes = subst (λ ds. Begins ds (drop outer digests)) inner_deref
            (subst (λ ds. Begins (map enc c.deref-3.result.now) ds) rest (c.begins_with-2.ensures.0 yes));
      },
      λ pinned. c.begins_with-2.ensures.1 (subst (λ ds. Begins (map enc c.deref-3.result.now) ds) (sym rest)
          (subst (λ ds. Begins ds (drop outer digests)) (sym inner_deref) pinned.nodes)),
    )
