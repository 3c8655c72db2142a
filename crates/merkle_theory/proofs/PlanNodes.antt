-- The nodes that the proof of a range is made of, as a walk finds them.
use Rattle.std.proofs.Common.{append-nil, ◌≡◌, ℕ, ◌+◌, ◌-◌, length, ◌≤◌, Bool, true, false, not, cond, filter, List, []}
use Rattle.std.proofs.Common.{◌∷◌, ◌++◌, Result, Ok, Err, OnOk, refl, sym, ◌∙◌, ap, arith}
use Rattle.std.proofs.lemmas.Bool.{or_from, lt-leb}
use Rattle.std.proofs.lemmas.List.{map-append, append_assoc, length-map, length-append}
use Rattle.merkle_forest.specs.Forest.{Tree, leaf, branch, position, height, leaf_count}
use Rattle.merkle_forest.specs.Trees.{Located}
use Rattle.merkle_forest.specs.Laws.Peaks.{leaf_count-pos}
use Rattle.merkle_theory.specs.Plans.{sibling_nodes, inner_nodes, range_nodes, positions_of}
use Rattle.merkle_theory.specs.RangeCounts.{passing}
use Rattle.merkle_theory.specs.Ranges.{is_before, is_after, meets}

module _ (start stop : ℕ) where
  -- a tree that holds no leaf of the range
  pub siblings_out : (at : ℕ) (t : Tree) → meets start stop (at, t) ≡ false → sibling_nodes start stop at t ≡ (at, t) ∷ []
  siblings_out at (leaf p) out = rw out refl
  siblings_out at (branch p left right) out = rw out refl

  pub siblings_leaf : (at p : ℕ) → meets start stop (at, leaf p) ≡ true → sibling_nodes start stop at (leaf p) ≡ []
  siblings_leaf at p met = rw met refl

  pub siblings_branch : (at p : ℕ) (left right : Tree) → meets start stop (at, branch p left right) ≡ true
      → sibling_nodes start stop at (branch p left right)
      ≡ sibling_nodes start stop at left ++ sibling_nodes start stop (at + leaf_count left) right
  siblings_branch at p left right met = rw met refl

  -- a tree whose leaves all stand in the range meets it
  pub inside_met : (at : ℕ) (t : Tree) → start ≤ at → at + leaf_count t ≤ stop → meets start stop (at, t) ≡ true
  inside_met at t low high =
      ap not (or_from _ _ (lt-leb (at + leaf_count t) start (omega (arith, low, leaf_count-pos t)))
      (lt-leb stop at (omega (arith, high, leaf_count-pos t))))

  -- and has no siblings
  pub siblings_inside : (at : ℕ) (t : Tree) → start ≤ at → at + leaf_count t ≤ stop → sibling_nodes start stop at t ≡ []
  siblings_inside at (leaf p) low high = siblings_leaf at p (inside_met at (leaf p) low high)
  siblings_inside at (branch p left right) low high =
      siblings_branch at p left right (inside_met at (branch p left right) low high)
      ∙ ap (λ front. front ++ sibling_nodes start stop (at + leaf_count left) right)
      (siblings_inside at left low (omega (arith, high)))
      ∙ siblings_inside (at + leaf_count left) right (omega (arith, low)) (omega (arith, high))

  -- a leaf has no siblings where it meets the range
  pub siblings_low : (at high : ℕ) (t : Tree) → high ≡ 0 → high ≡ height t → meets start stop (at, t) ≡ true
      → sibling_nodes start stop at t ≡ []
  siblings_low at high (leaf p) low level met = siblings_leaf at p met
  siblings_low at high (branch p left right) low level met = absurd (omega (arith, low, level))

  -- peaks of which the first meets the range or does not
  pub inner_met : (peak : Located) (peaks : List Located) → meets start stop peak ≡ true
      → inner_nodes start stop (peak ∷ peaks) ≡ sibling_nodes start stop peak.0 peak.1 ++ inner_nodes start stop peaks
  inner_met peak peaks met = rw met refl

  pub inner_out : (peak : Located) (peaks : List Located) → meets start stop peak ≡ false
      → inner_nodes start stop (peak ∷ peaks) ≡ inner_nodes start stop peaks
  inner_out peak peaks out = rw out refl

-- peaks of which the first passes a test or does not
pub passed : (test : Located → Bool) (peak : Located) (peaks : List Located) → test peak ≡ true
    → filter test (peak ∷ peaks) ≡ peak ∷ filter test peaks
passed test peak peaks is = rw is refl

pub failed : (test : Located → Bool) (peak : Located) (peaks : List Located) → test peak ≡ false
    → filter test (peak ∷ peaks) ≡ filter test peaks
failed test peak peaks is = rw is refl

-- positions of nodes after others
pub after_both : (old front back : List ℕ) (one two : List Located) → front ≡ old ++ positions_of one
    → back ≡ front ++ positions_of two → back ≡ old ++ positions_of (one ++ two)
after_both old front back one two first second =
    second ∙ ap (λ ps. ps ++ positions_of two) first ∙ append_assoc old (positions_of one) (positions_of two)
    ∙ ap (λ ps. old ++ ps) (sym (map-append _ one two))

pub after_none : (old new : List ℕ) → new ≡ old → new ≡ old ++ []
after_none old new same = same ∙ sym (append-nil old)

pub side_step : (test : Located → Bool) (peak : Located) (peaks : List Located) (b : Bool) (old mid new : List ℕ) → test peak ≡ b
    → mid ≡ old ++ positions_of (cond b (peak ∷ []) []) → new ≡ mid ++ positions_of (filter test peaks)
    → new ≡ old ++ positions_of (filter test (peak ∷ peaks))
side_step test peak peaks true old mid new is first second =
    after_both old mid new (peak ∷ []) (filter test peaks) first second ∙ ap (λ ns. old ++ positions_of ns) (sym (passed test peak peaks is))
side_step test peak peaks false old mid new is first second =
    after_both old mid new [] (filter test peaks) first second ∙ ap (λ ns. old ++ positions_of ns) (sym (failed test peak peaks is))

pub inner_step : (start stop : ℕ) (peak : Located) (peaks : List Located) (b : Bool) (old mid new : List ℕ) → meets start stop peak ≡ b
    → mid ≡ old ++ positions_of (cond b (sibling_nodes start stop peak.0 peak.1) []) → new ≡ mid ++ positions_of (inner_nodes start stop peaks)
    → new ≡ old ++ positions_of (inner_nodes start stop (peak ∷ peaks))
inner_step start stop peak peaks true old mid new is first second =
    after_both old mid new (sibling_nodes start stop peak.0 peak.1) (inner_nodes start stop peaks) first second
    ∙ ap (λ ns. old ++ positions_of ns) (sym (inner_met start stop peak peaks is))
inner_step start stop peak peaks false old mid new is first second =
    after_both old mid new [] (inner_nodes start stop peaks) first second ∙ ap (λ ns. old ++ positions_of ns) (sym (inner_out start stop peak peaks is))

pub on_ok : {T E P Q : Type 0} (r : Result T E) → (P → Q) → OnOk r P → OnOk r Q
on_ok (Ok x) f holds = f holds
on_ok (Err e) f holds = tt

-- what is planned where positions were appended in their order
pub planned : (start stop : ℕ) (peaks : List Located) (none first second third : List ℕ) → none ≡ []
    → first ≡ none ++ positions_of (filter (is_before start) peaks) → second ≡ first ++ positions_of (filter (is_after stop) peaks)
    → third ≡ second ++ positions_of (inner_nodes start stop peaks)
    → (length first ≡ passing (is_before start) peaks) × (length second - length first ≡ passing (is_after stop) peaks)
    × (third ≡ positions_of (range_nodes start stop peaks))
planned start stop peaks none first second third empty one two three =
    let fronts = filter (is_before start) peaks in
    let backs = filter (is_after stop) peaks in
    let one_is : first ≡ positions_of fronts = one ∙ ap (λ ps. ps ++ positions_of fronts) empty in
    let front : length first ≡ length fronts = ap length one_is ∙ length-map fronts (λ node. position node.1) in
    let back : length second ≡ length first + length backs =
    ap length two ∙ length-append first (positions_of backs) ∙ ap (λ n. length first + n) (length-map backs (λ node. position node.1)) in (
      front,
      omega (arith, front, back),
      three ∙ ap (λ ps. ps ++ positions_of (inner_nodes start stop peaks)) (two ∙ ap (λ ps. ps ++ positions_of backs) one_is)
          ∙ append_assoc (positions_of fronts) (positions_of backs) (positions_of (inner_nodes start stop peaks))
          ∙ ap (λ ps. positions_of fronts ++ ps) (sym (map-append _ backs (inner_nodes start stop peaks)))
          ∙ sym (map-append _ fronts (backs ++ inner_nodes start stop peaks)),
    )
