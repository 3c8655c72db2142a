-- The root that a proof of several elements leads to, by what its locations and its digests are.
use Rattle.std.proofs.Common.{◌≡◌, ℕ, Bool, true, false, ◌&&◌, cond, length, map, List, [], ◌∷◌, Option, None, refl, ap}
use Rattle.std.proofs.Common.{ap₂, ⊎_elim}
use Rattle.std.specs.Prelude.{◌==◌}
use Rattle.std.proofs.lemmas.Bool.{eq-eqb, eqb-true, cases_Bool}
use Rattle.merkle_forest.specs.declared.bagging.Bagging.{Bagging}
use Rattle.merkle_forest.specs.Forest.{Rule}
use Rattle.merkle_forest.specs.Made.{Made}
use Rattle.merkle_theory.specs.MadeRoots.{Naming}
use Rattle.merkle_theory.specs.MadeTrees.{Over}
use Rattle.merkle_theory.specs.MultiReads.{Shown, locations_of, can_be_shown, needed_positions, ranked, shown_root}
use Rattle.merkle_theory.specs.MultiReads.{multi_root}

pub locations_same : {E : Type 0} (f : E → List ℕ × ℕ) (xs : List E) → locations_of (map f xs) ≡ map (λ e. (f e).1) xs
locations_same f [] = refl
locations_same f (x ∷ xs) = ap (λ ls. (f x).1 ∷ ls) (locations_same f xs)

module _ (names : Naming) (over : Over) (bagging : Bagging) (rule : Rule) (leaves inactive : ℕ) (shown : Shown)
    (digests : List (List ℕ)) where
  abbrev needed : List ℕ
  needed = needed_positions rule leaves (locations_of shown)

  abbrev pub root : Option Made
  root = multi_root names over bagging rule leaves inactive shown digests

  abbrev pub counted_root : Option Made
  counted_root = shown_root names over bagging rule leaves inactive shown (ranked needed digests)

  root_if : (a b : Bool) → can_be_shown leaves (locations_of shown) ≡ a → (length digests == length needed) ≡ b
      → root ≡ cond (a && b) counted_root None
  root_if a b one two = ap₂ (λ x y. cond (x && y) counted_root None) one two

  pub root_cannot : can_be_shown leaves (locations_of shown) ≡ false → root ≡ None
  root_cannot is = root_if false (length digests == length needed) is refl

  pub root_uncounted : can_be_shown leaves (locations_of shown) ≡ true → (length digests ≡ length needed → ⊥)
      → root ≡ None
  root_uncounted can other =
      ⊎_elim (λ is. absurd (other (eqb-true (length digests) (length needed) is))) (λ is. root_if true false can is)
      (cases_Bool (length digests == length needed))

  pub root_counted : can_be_shown leaves (locations_of shown) ≡ true → length digests ≡ length needed
      → root ≡ counted_root
  root_counted can same = root_if true true can (eq-eqb (length digests) (length needed) same)
