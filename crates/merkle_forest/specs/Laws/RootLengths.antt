-- With digests of 32 bytes a root's string has 9, 41 or 49 bytes.
use Rattle.std.proofs.Common.{◌≡◌, ◌≤◌, inl, inr, ℕ, ◌+◌, zero, suc, true, false, cond, List, [], ◌∷◌, ◌++◌, length}
use Rattle.std.proofs.Common.{take, drop, refl, ap, ◌∙◌, arith, ⊎_elim}
use Rattle.std.specs.Prelude.{◌==◌}
use Rattle.std.proofs.lemmas.Bool.{cases_Bool}
use Rattle.std.proofs.lemmas.List.{length-append}
use Rattle.std.proofs.lemmas.List.Elements.{All-head}
use Rattle.std.specs.List.{All}
use Rattle.merkle_forest.specs.declared.bagging.Bagging.{Bagging}
use Rattle.merkle_forest.specs.declared.bagging.Bagging.TheVariants.{ForwardFold, BackwardFold}
use Rattle.merkle_forest.specs.Hashing.{Hash, number, fold_string, folded_onto, folded_forward, folded_backward, items}
use Rattle.merkle_forest.specs.Hashing.{bagged, inactive_count, domain_of, root_string, IsRootLength}

abbrev Sized : Hash → Type 0
Sized hash = (bytes : List ℕ) → length (hash bytes) ≡ 32

onto_sized : (hash : Hash) → Sized hash → (d : List ℕ) (ds : List (List ℕ)) → length d ≡ 32
    → length (folded_onto hash d ds) ≡ 32
onto_sized hash sized d [] h = h
onto_sized hash sized d (e ∷ ds) h = onto_sized hash sized (hash (fold_string d e)) ds (sized (fold_string d e))

bagged_sized : (hash : Hash) → Sized hash → (bagging : Bagging) (d : List ℕ) (ds : List (List ℕ)) → length d ≡ 32
    → length (bagged hash bagging (d ∷ ds)) ≡ 32
bagged_sized hash sized ForwardFold d ds h = onto_sized hash sized d ds h
bagged_sized hash sized BackwardFold d [] h = h
bagged_sized hash sized BackwardFold d (e ∷ ds) h = sized (fold_string d (folded_backward hash (e ∷ ds)))

length_of : (bagging : Bagging) (leaves inactive : ℕ) (digest : List ℕ)
    → length (root_string bagging leaves inactive digest) ≡ 9 + (length (inactive_count inactive) + length digest)
unfolding root_string
length_of bagging leaves inactive digest =
    omega (
      arith,
      length-append (number leaves) (domain_of bagging ∷ (inactive_count inactive ++ digest)),
      length-append (inactive_count inactive) digest,
    )

no_inactive : (hash : Hash) → Sized hash → (bagging : Bagging) (leaves inactive : ℕ) (peaks : List (List ℕ))
    → All (λ d. length d ≡ 32) peaks → (inactive == 0) ≡ true
    → IsRootLength (length (root_string bagging leaves inactive (bagged hash bagging (items hash inactive peaks))))
no_inactive hash sized bagging leaves inactive [] all none =
    let rest : length (inactive_count inactive) ≡ 0 = ap (λ b. length (cond b [] (number inactive))) none in
    let bag : length (bagged hash bagging (items hash inactive [])) ≡ 0 =
    ap (λ b. length (bagged hash bagging (cond b [] (folded_forward hash (take inactive []) ∷ drop inactive []))))
    none ∙ empty bagging in
    inl (omega (arith, length_of bagging leaves inactive (bagged hash bagging (items hash inactive [])), rest, bag))
  where
    empty : (bagging : Bagging) → length (bagged hash bagging []) ≡ 0
    empty ForwardFold = refl
    empty BackwardFold = refl
no_inactive hash sized bagging leaves inactive (d ∷ ds) all none =
    let rest : length (inactive_count inactive) ≡ 0 = ap (λ b. length (cond b [] (number inactive))) none in
    let bag : length (bagged hash bagging (items hash inactive (d ∷ ds))) ≡ 32 =
    ap (λ b. length (bagged hash bagging (cond b (d ∷ ds)
    (folded_forward hash (take inactive (d ∷ ds)) ∷ drop inactive (d ∷ ds))))) none
    ∙ bagged_sized hash sized bagging d ds (All-head (λ x. length x ≡ 32) d ds all) in
    inr (inl (omega (
      arith,
      length_of bagging leaves inactive
          (bagged hash bagging (items hash inactive (d ∷ ds))),
      rest,
      bag,
    )))

some_inactive : (hash : Hash) → Sized hash → (bagging : Bagging) (leaves inactive : ℕ) (peaks : List (List ℕ))
    → All (λ d. length d ≡ 32) peaks → inactive ≤ length peaks → (inactive == 0) ≡ false
    → IsRootLength (length (root_string bagging leaves inactive (bagged hash bagging (items hash inactive peaks))))
some_inactive hash sized bagging leaves inactive peaks all within some =
    let one : length (folded_forward hash (take inactive peaks)) ≡ 32 = folded inactive peaks all within some in
    let rest : length (inactive_count inactive) ≡ 8 = ap (λ b. length (cond b [] (number inactive))) some in
    let bag : length (bagged hash bagging (items hash inactive peaks)) ≡ 32 =
    ap (λ b. length (bagged hash bagging (cond b peaks
    (folded_forward hash (take inactive peaks) ∷ drop inactive peaks)))) some
    ∙ bagged_sized hash sized bagging (folded_forward hash (take inactive peaks)) (drop inactive peaks) one in
    inr (inr (omega (
      arith,
      length_of bagging leaves inactive
          (bagged hash bagging (items hash inactive peaks)),
      rest,
      bag,
    )))
  where
    folded : (count : ℕ) (peaks : List (List ℕ)) → All (λ d. length d ≡ 32) peaks → count ≤ length peaks
        → (count == 0) ≡ false → length (folded_forward hash (take count peaks)) ≡ 32
    folded zero peaks all within some = absurd (cc)
    folded (suc n) [] all within some = absurd (omega (arith, within))
    folded (suc n) (d ∷ ds) all within some =
        onto_sized hash sized d (take n ds) (All-head (λ x. length x ≡ 32) d ds all)

pub root-lengths : (hash : Hash) → Sized hash → (bagging : Bagging) (leaves inactive : ℕ) (peaks : List (List ℕ))
    → All (λ d. length d ≡ 32) peaks → inactive ≤ length peaks
    → IsRootLength (length (root_string bagging leaves inactive (bagged hash bagging (items hash inactive peaks))))
root-lengths hash sized bagging leaves inactive peaks all within =
    ⊎_elim (no_inactive hash sized bagging leaves inactive peaks all)
    (some_inactive hash sized bagging leaves inactive peaks all within) (cases_Bool (inactive == 0))
