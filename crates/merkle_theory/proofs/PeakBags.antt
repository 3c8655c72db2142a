-- Peaks as one, whatever they are made of.
use Rattle.std.proofs.Common.{◌≡◌, ℕ, zero, suc, cond, List, [], ◌∷◌, length, map, take, drop, Option, Some, None, refl}
use Rattle.std.proofs.Common.{sym, ◌∙◌, ap}
use Rattle.merkle_forest.specs.declared.bagging.Bagging.{Bagging}
use Rattle.merkle_forest.specs.declared.bagging.Bagging.TheVariants.{ForwardFold, BackwardFold}
use Rattle.merkle_forest.specs.Hashing.{Hash, fold_string, folded_onto, folded_forward, folded_backward, items, bagged}
use Rattle.merkle_forest.specs.Hashing.{root_string, root_of}
use Rattle.merkle_forest.specs.Made.{Made, value}
use Rattle.merkle_forest.specs.Trees.{Located}
use Rattle.merkle_theory.specs.Laws.MadeRoots.{not_zero}
use Rattle.merkle_theory.specs.Laws.Values.{forward-items}
use Rattle.merkle_theory.specs.MadeRoots.{Naming, folded, from_left}
use Rattle.merkle_theory.specs.MadeTrees.{Over, Elements}
use Rattle.merkle_theory.specs.MultiReads.{both_there, read_shown, read_peaks, back_of, onto_of, as_bag, root_over_peaks}
use Rattle.merkle_theory.specs.Plans.{Lookup}

module _ (hash : Hash) (names : Naming) (last : ℕ) where
  value_back : (n : ℕ) (x : Made) (xs : List Made)
      → value hash (back_of names last n x xs) ≡ folded_backward hash (map (value hash) (x ∷ xs))
  value_back n x [] = refl
  value_back n x (y ∷ xs) = ap (λ d. hash (fold_string (value hash x) d)) (value_back (suc n) y xs)

  value_onto : (inactive n : ℕ) (first : Made) (f : List ℕ) (xs : List Made) → value hash first ≡ f
      → value hash (onto_of names last inactive n first xs)
      ≡ folded_backward hash (folded_onto hash f (take inactive (map (value hash) xs)) ∷ drop inactive (map
      (value hash) xs))
  value_onto zero n first f [] same = same
  value_onto (suc inactive) n first f [] same = same
  value_onto zero n first f (x ∷ xs) same = rw (same, value_back n x xs) refl
  value_onto (suc inactive) n first f (x ∷ xs) same =
      value_onto inactive (suc n) (folded names 1 n first x) (hash (fold_string f (value hash x))) xs (rw same refl)

  value_bag : (inactive : ℕ) (xs : List Made)
      → value hash (as_bag names last inactive xs) ≡ folded_backward hash (items hash inactive (map (value hash) xs))
  value_bag zero [] = refl
  value_bag (suc inactive) [] = sym (ap (λ b. folded_backward hash (cond b [] ([] ∷ []))) (not_zero inactive))
  value_bag zero (x ∷ xs) = value_back 1 x xs
  value_bag (suc inactive) (x ∷ xs) =
      let ds = map (value hash) (x ∷ xs) in
      value_onto inactive 2 x (value hash x) xs refl
      ∙ sym (ap (λ b. folded_backward hash (cond b ds (folded_forward hash (take (suc inactive) ds) ∷ drop
      (suc inactive) ds))) (not_zero inactive))

  -- all are folded from the left
  value_all : (n : ℕ) (first : Made) (f : List ℕ) (xs : List Made) → value hash first ≡ f
      → value hash (onto_of names last (length xs) n first xs) ≡ folded_onto hash f (map (value hash) xs)
  value_all n first f [] same = same
  value_all n first f (x ∷ xs) same = value_all (suc n) (folded names 1 n first x) (hash (fold_string f
      (value hash x))) xs (rw same refl)

value_bagged : (hash : Hash) (names : Naming) (bagging : Bagging) (inactive : ℕ) (xs : List Made)
    → value hash (as_bag names (length xs) (from_left bagging inactive (length xs)) xs)
    ≡ bagged hash bagging (items hash inactive (map (value hash) xs))
value_bagged hash names BackwardFold inactive xs = value_bag hash names (length xs) inactive xs
value_bagged hash names ForwardFold inactive [] = sym (forward-items hash inactive [])
value_bagged hash names ForwardFold inactive (x ∷ xs) =
    value_all hash names (length (x ∷ xs)) 2 x (value hash x) xs refl
    ∙ sym (forward-items hash inactive (map (value hash) (x ∷ xs)))

-- the root over peaks is that of their digests
pub value_over_peaks : (hash : Hash) (names : Naming) (bagging : Bagging) (leaves inactive : ℕ) (xs : List Made)
    → value hash (root_over_peaks names bagging leaves inactive xs)
    ≡ root_of hash bagging leaves inactive (map (value hash) xs)
unfolding root_of root_string
value_over_peaks hash names bagging leaves inactive xs =
    ap (λ bag. hash (root_string bagging leaves inactive bag)) (value_bagged hash names bagging inactive xs)

some_same : {A : Type 0} (x y : A) → Some x ≡ Some y → x ≡ y
some_same x y is = cc

one_more : (n : ℕ) (one : Option Made) (others : Option (List Made)) (xs : List Made)
    → ((more : List Made) → others ≡ Some more → length more ≡ n)
    → both_there (λ x more. x ∷ more) one others ≡ Some xs → length xs ≡ suc n
one_more n None others xs count is = absurd cc
one_more n (Some x) None xs count is = absurd cc
one_more n (Some x) (Some more) xs count is = ap length (sym (some_same (x ∷ more) xs is)) ∙ ap suc (count more refl)

-- as many are read as there are
pub read_count : (over : Over) (elements : Elements) (locations : List ℕ) (known : Lookup) (peaks : List Located)
    (xs : List Made)
    → read_peaks over elements locations known peaks ≡ Some xs → length xs ≡ length peaks
read_count over elements locations known [] xs is = ap length (sym (some_same [] xs is))
read_count over elements locations known (peak ∷ peaks) xs is =
    one_more (length peaks) (read_shown over elements locations known peak.0 peak.1)
    (read_peaks over elements locations known peaks) xs
    (λ more there. read_count over elements locations known peaks more there) is
