-- Of distinct positions in ascending order each stands where as many are less.
use Rattle.std.proofs.Common.{◌≡◌, ◌<◌, ◌≤◌, ⊎_elim, ℕ, zero, suc, Bool, true, false}
use Rattle.std.proofs.Common.{cond, List, [], ◌∷◌, length, filter, Some, sym, ◌∙◌, ap, arith}
use Rattle.std.specs.List.{AllByRecursion}
use Rattle.std.specs.List.Sorted.{IsNonDecreasingBy, IsPermutation}
use Rattle.std.specs.Prelude.{◌==◌, slice_get}
use Rattle.std.proofs.lemmas.Bool.{cases_Bool, cases_lt, eq-eqb, eqb-true}
use Rattle.std.proofs.lemmas.List.Sorted.{sum_by-IsPermutation}
use Rattle.std.proofs.lemmas.List.Sums.{length-filter}
use Rattle.std.proofs.lemmas.Option.{slice_get_within, get_or_from_slice_get}
use Rattle.merkle_forest.specs.Forest.{position}
use Rattle.merkle_forest.specs.Trees.{Located}
use Rattle.merkle_theory.specs.MultiReads.{rank_among}
use Rattle.merkle_theory.specs.Plans.{positions_of}
use Rattle.merkle_theory.proofs.MultiHonest.{rank_finds}
use Rattle.merkle_proofs.proofs.PinnedMade.{Distinct}
use Rattle.merkle_theory.proofs.ShownRanks.{rank_permuted}

-- how often a position is among these
abbrev often : ℕ → List ℕ → ℕ
often p xs = length (filter (λ q. q == p) xs)

more : (b : Bool) (x : ℕ) (ys : List ℕ) → length ys ≤ length (cond b (x ∷ ys) ys)
more true x ys = omega arith
more false x ys = omega arith

here : (p x : ℕ) (xs : List ℕ) → x ≡ p → often p (x ∷ xs) ≡ suc (often p xs)
here p x xs is = ap (λ b. length (cond b (x ∷ filter (λ q. q == p) xs) (filter (λ q. q == p) xs))) (eq-eqb x p is)

away : (p x : ℕ) (xs : List ℕ) → (x == p) ≡ false → often p (x ∷ xs) ≡ often p xs
away p x xs is = ap (λ b. length (cond b (x ∷ filter (λ q. q == p) xs) (filter (λ q. q == p) xs))) is

same_some : (x y : ℕ) → Some x ≡ Some y → x ≡ y
same_some x y is = cc

once_in : (p : ℕ) (xs : List ℕ) (i : ℕ) → slice_get xs i ≡ Some p → 1 ≤ often p xs
once_in p [] i is = absurd cc
once_in p (x ∷ xs) zero is = omega (arith, here p x xs (same_some x p is))
once_in p (x ∷ xs) (suc i) is = omega (arith, once_in p xs i is, more (x == p) x (filter (λ q. q == p) xs))

twice_in : (p : ℕ) (xs : List ℕ) (r i : ℕ) → r < i → slice_get xs r ≡ Some p → slice_get xs i ≡ Some p → 2 ≤ often p xs
twice_in p [] r i lt one other = absurd cc
twice_in p (x ∷ xs) r zero lt one other = absurd (omega (arith, lt))
twice_in p (x ∷ xs) zero (suc i) lt one other = omega (arith, here p x xs (same_some x p one), once_in p xs i other)
twice_in p (x ∷ xs) (suc r) (suc i) lt one other =
    omega (arith, twice_in p xs r i (omega (arith, lt)) one other, more (x == p) x (filter (λ q. q == p) xs))

none_in : (p : ℕ) (n : Located) (ns : List Located) → position n.1 ≡ p → AllByRecursion (λ m. position n.1 ≡ position m.1 → ⊥) ns
    → often p (positions_of ns) ≡ 0
none_in p n [] is all = omega arith
none_in p n (m ∷ ns) is all =
    ⊎_elim (λ same. absurd (all.0 (is ∙ sym (eqb-true (position m.1) p same))))
    (λ other. away p (position m.1) (positions_of ns) other ∙ none_in p n ns is all.1) (cases_Bool (position m.1 == p))

-- of distinct nodes at most one stands there
pub at_most_once : (p : ℕ) (ns : List Located) → Distinct ns → often p (positions_of ns) ≤ 1
at_most_once p [] all = omega arith
at_most_once p (n ∷ ns) all =
    ⊎_elim
    (λ same. let is : position n.1 ≡ p = eqb-true (position n.1) p same in
    omega (arith, here p (position n.1) (positions_of ns) is, none_in p n ns is all.0))
    (λ other. omega (arith, away p (position n.1) (positions_of ns) other, at_most_once p ns all.1)) (cases_Bool (position n.1 == p))

often_permuted : (p : ℕ) (xs ys : List ℕ) → IsPermutation xs ys → often p xs ≡ often p ys
often_permuted p xs ys is =
    length-filter (λ q. q == p) xs ∙ sym (sum_by-IsPermutation (λ q. cond (q == p) 1 0) xs ys is) ∙ sym (length-filter (λ q. q == p) ys)

pub rank_is : (needed positions : List ℕ) (i p : ℕ) → IsPermutation needed positions → IsNonDecreasingBy (λ q. q) positions
    → often p needed ≤ 1 → slice_get positions i ≡ Some p → rank_among needed p ≡ i
rank_is needed positions i p all up once is =
    let r : ℕ = rank_among positions p in
    let found : slice_get positions r ≡ Some p =
    rank_finds p positions up i (slice_get_within positions i p is) (get_or_from_slice_get positions i p p is) in
    let few : often p positions ≤ 1 = omega (arith, once, often_permuted p needed positions all) in
    rank_permuted p needed positions all
    ∙ ⊎_elim (λ less. absurd (omega (arith, few, twice_in p positions r i less found is)))
    (λ le. ⊎_elim (λ more. absurd (omega (arith, few, twice_in p positions i r more is found))) (λ ge. omega (arith, le, ge)) (cases_lt i r))
    (cases_lt r i)
