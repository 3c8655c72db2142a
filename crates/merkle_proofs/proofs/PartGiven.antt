-- What the honest proof of a range gives for several peaks in one.
use Rattle.std.proofs.Common.{◌≡◌, ℕ, ◌+◌, ◌<◌, min, List, ◌++◌, length, filter, take, drop, sym, ◌∙◌, ap, arith}
use Rattle.std.proofs.lemmas.List.{append_assoc, length-append, length-map, take_at, drop_at}
use Rattle.merkle_forest.specs.declared.bagging.Bagging.{Bagging}
use Rattle.merkle_forest.specs.Hashing.{Hash, folded_forward, folded_backward}
use Rattle.merkle_forest.specs.Trees.{Located}
use Rattle.merkle_theory.specs.MadeRoots.{from_left}
use Rattle.merkle_theory.specs.RangeCounts.{passing}
use Rattle.merkle_theory.specs.Ranges.{Digests, is_before, is_after, as_one, singly, inner_digests, range_digests}
use Rattle.merkle_theory.proofs.HonestRanges.{Ascend}
use Rattle.merkle_theory.proofs.HonestRoots.{length-as_one}
use Rattle.merkle_proofs.proofs.HonestTold.{honest_is}

pub record AreFoldsIn (hash : Hash) (digest : Digests) (k start stop : ℕ) (peaks : List Located) (digests : List (List ℕ)) : Type 0 where
  pub front : take (min 1 (passing (is_before start) (take k peaks))) digests
      ≡ as_one (folded_forward hash) (singly digest (filter (is_before start) (take k peaks)))
  pub back : take (min 1 (passing (is_after stop) (drop k peaks))) (drop (min 1 (passing (is_before start) (take k peaks))
      + passing (is_after stop) (take k peaks) + passing (is_before start) (drop k peaks)) digests)
      ≡ as_one (folded_backward hash) (singly digest (filter (is_after stop) (drop k peaks)))

pub folds_given : (hash : Hash) (digest : Digests) (bagging : Bagging) (inactive start stop : ℕ) → start < stop → (peaks : List Located)
    → Ascend 0 peaks → (digests : List (List ℕ))
    → digests ≡ range_digests hash digest bagging start stop (take inactive peaks) (drop inactive peaks)
    → AreFoldsIn hash digest (from_left bagging inactive (length peaks)) start stop peaks digests
folds_given hash digest bagging inactive start stop some peaks up digests is =
    let k = from_left bagging inactive (length peaks) in
    let D : List Located → List (List ℕ) = singly digest in
    let fronts = filter (is_before start) (take k peaks) in
    let befores = filter (is_before start) (drop k peaks) in
    let afters = filter (is_after stop) (take k peaks) in
    let backs = filter (is_after stop) (drop k peaks) in
    let front = as_one (folded_forward hash) (D fronts) in
    let back = as_one (folded_backward hash) (D backs) in
    let inner = inner_digests digest start stop peaks in
    let all : digests ≡ front ++ (D befores ++ (D afters ++ (back ++ inner))) =
    is ∙ honest_is hash digest bagging inactive start stop some peaks up in
    let count : (ps : List Located) → length (D ps) ≡ length ps = λ ps. length-map ps (λ (p : Located). digest p.0 p.1) in
    let one : length front ≡ min 1 (length fronts) = length-as_one (folded_forward hash) (D fronts) ∙ ap (min 1) (count fronts) in
    let other : length back ≡ min 1 (length backs) = length-as_one (folded_backward hash) (D backs) ∙ ap (min 1) (count backs) in
    let at = min 1 (length fronts) + length afters + length befores in
    let skipped = front ++ (D befores ++ D afters) in
    let as_two : digests ≡ skipped ++ (back ++ inner) =
    all ∙ ap (λ ds. front ++ ds) (sym (append_assoc (D befores) (D afters) (back ++ inner)))
    ∙ sym (append_assoc front (D befores ++ D afters) (back ++ inner)) in
    let reach : length skipped ≡ at =
    omega (
      arith,
      length-append front (D befores ++ D afters),
      length-append (D befores) (D afters),
      one,
      count befores,
      count afters,
    ) in
    record {
      front = ap (take (min 1 (length fronts))) all ∙ take_at front (D befores ++ (D afters ++ (back ++ inner))) (min 1 (length fronts)) one;
      back = ap (take (min 1 (length backs))) (ap (drop at) as_two ∙ drop_at skipped (back ++ inner) at reach)
          ∙ take_at back inner (min 1 (length backs)) other;
    }
