-- The honest proof of a range gives the digests of the nodes that it tells.
use Rattle.std.proofs.Common.{◌≡◌, ◌⊎◌, inl, inr, ⊎_elim, ℕ, ◌+◌, ◌<◌, ◌≤◌}
use Rattle.std.proofs.Common.{min, Bool, List, [], ◌++◌, length, filter, take, drop, refl, sym, ◌∙◌, ap}
use Rattle.std.proofs.Common.{true, arith, append_assoc, ◌||◌}
use Rattle.std.proofs.lemmas.Bool.{or_parts, not-true, leb-false}
use Rattle.std.proofs.lemmas.List.{length-map}
use Rattle.merkle_forest.specs.declared.bagging.Bagging.{Bagging}
use Rattle.merkle_forest.specs.Forest.{leaf}
use Rattle.merkle_forest.specs.Hashing.{Hash, folded_forward, folded_backward, leaf_string, node_string}
use Rattle.merkle_forest.specs.Trees.{Located, plain_digest}
use Rattle.merkle_proofs.specs.Extracted.{AreMadeOf, AreGiven}
use Rattle.merkle_theory.specs.MadeRoots.{from_left}
use Rattle.merkle_theory.specs.MadeTrees.{from}
use Rattle.merkle_theory.specs.RangeCounts.{passing}
use Rattle.merkle_theory.specs.Ranges.{Digests, is_before, is_after, meets, as_one, singly, inner_digests, range_digests}
use Rattle.merkle_theory.proofs.HonestRanges.{Ascend}
use Rattle.merkle_theory.proofs.HonestRoots.{sides, outer_same, proof_parts, length-as_one, part_element}

-- either of two stands first where one is empty
turned : {A : Type 0} (xs ys zs : List A) → (ys ≡ []) ⊎ (xs ≡ []) → ys ++ (xs ++ zs) ≡ xs ++ (ys ++ zs)
turned xs ys zs (inl none) = ap (λ zz. zz ++ (xs ++ zs)) none ∙ sym (ap (λ zz. xs ++ (zz ++ zs)) none)
turned xs ys zs (inr none) = ap (λ zz. ys ++ (zz ++ zs)) none ∙ sym (ap (λ zz. zz ++ (ys ++ zs)) none)

module _ (hash : Hash) (digest : Digests) (bagging : Bagging) (inactive start stop : ℕ) (some : start < stop) (peaks : List Located)
    (up : Ascend 0 peaks) where
  abbrev k : ℕ
  k = from_left bagging inactive (length peaks)

  abbrev before : List (List ℕ)
  before = singly digest (filter (is_before start) (drop k peaks))

  abbrev after : List (List ℕ)
  after = singly digest (filter (is_after stop) (take k peaks))

  abbrev front : List (List ℕ)
  front = as_one (folded_forward hash) (singly digest (filter (is_before start) (take k peaks)))

  abbrev back : List (List ℕ)
  back = as_one (folded_backward hash) (singly digest (filter (is_after stop) (drop k peaks)))

  abbrev inner : List (List ℕ)
  inner = inner_digests digest start stop peaks

  one_empty : (after ≡ []) ⊎ (before ≡ [])
  one_empty = ⊎_elim (λ none. inl (ap (singly digest) none)) (λ none. inr (ap (singly digest) none)) (sides hash digest start stop some k 0 peaks up)

  count : (test : Located → Bool) (ps : List Located) → length (singly digest (filter test ps)) ≡ passing test ps
  count test ps = length-map (filter test ps) (λ (p : Located). digest p.0 p.1)

  pub honest_is : range_digests hash digest bagging start stop (take inactive peaks) (drop inactive peaks)
      ≡ front ++ (before ++ (after ++ (back ++ inner)))
  honest_is =
      proof_parts hash digest start stop some bagging inactive peaks
      ∙ ap (λ ds. ds ++ inner) (outer_same hash digest start stop some bagging inactive peaks up)
      ∙ append_assoc front (after ++ (before ++ back)) inner
      ∙ ap (λ ds. front ++ (ds ++ inner)) (turned before after back one_empty)
      ∙ ap (λ ds. front ++ ds) (append_assoc before (after ++ back) inner)
      ∙ ap (λ ds. front ++ (before ++ ds)) (append_assoc after back inner)

  pub honest_given : AreGiven k start stop peaks digest (range_digests hash digest bagging start stop (take inactive peaks) (drop inactive peaks))
  honest_given = record {
    front = front;
    back = back;
    is = honest_is;
    fronts = length-as_one (folded_forward hash) (singly digest (filter (is_before start) (take k peaks)))
        ∙ ap (min 1) (count (is_before start) (take k peaks));
    backs = length-as_one (folded_backward hash) (singly digest (filter (is_after stop) (drop k peaks)))
        ∙ ap (min 1) (count (is_after stop) (drop k peaks));
  }

pub in_range : (start stop at p : ℕ) → meets start stop (at, leaf p) ≡ true → (start ≤ at) × (at < stop)
in_range start stop at p met =
    let both = or_parts (is_before start (at, leaf p)) (is_after stop (at, leaf p))
    (not-true (is_before start (at, leaf p) || is_after stop (at, leaf p)) met) in
    (omega (arith, leb-false (at + 1) start both.0), leb-false stop at both.1)

-- the plain digests of a list are made of a part of it
pub part_made : (hash : Hash) (elements : List (List ℕ)) (start count : ℕ)
    → AreMadeOf (λ p element. hash (leaf_string p element)) (λ p left right. hash (node_string p left right))
    (from start (take count (drop start elements))) start (start + count) (plain_digest hash elements)
part_made hash elements start count = record {
  leaf = λ at p met. let within = in_range start (start + count) at p met in
      sym (ap (λ e. hash (leaf_string p e)) (part_element start count at elements within.0 within.1));
  branch = λ at p left right met. refl;
}
