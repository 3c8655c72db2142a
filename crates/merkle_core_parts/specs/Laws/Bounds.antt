-- The first update that is refused, as the code finds it.
use Rattle.std.proofs.Common.{◌≡◌, ℕ, ◌⊎◌, inl, inr, Bool, true, false, List, [], ◌∷◌, Some, refl, sym, ◌∙◌, ap}
use Rattle.std.proofs.lemmas.Bool.{cond-true, cond-false}
use Rattle.std.specs.Prelude.{nat_le, nat_lt, ◌||◌}
use Rattle.std.specs.Option.{option_map}
use Rattle.std.specs.List.{find}
use Rattle.merkle_core_parts.specs.Errors.{first_refused}
use Rattle.merkle_core_parts.specs.Mem.{Replacement, encoded}

answers : (b : Bool) → (b ≡ true) ⊎ (b ≡ false)
answers true = inl refl
answers false = inr refl

pub first-refused : {D : Type 0} (encoding : D → List ℕ) (b n : ℕ) (us : List (ℕ × D))
    → option_map (λ u. u.0) (find (λ u. nat_lt u.0 b || nat_le n u.0) us) ≡ first_refused b n (encoded encoding us)
first-refused encoding b n [] = refl
first-refused {D} encoding b n (u ∷ us) =
    elim (answers (nat_lt u.0 b || nat_le n u.0)) [
      | inl holds ↦
          ap (λ o. option_map (λ (v : ℕ × D). v.0) o)
          (cond-true (nat_lt u.0 b || nat_le n u.0) (Some u) (find (λ v. nat_lt v.0 b || nat_le n v.0) us) holds)
          ∙ sym (ap (λ o. option_map (λ (v : Replacement). v.0) o)
          (cond-true (nat_lt u.0 b || nat_le n u.0) (Some (u.0, encoding u.1))
          (find (λ v. nat_lt v.0 b || nat_le n v.0) (encoded encoding us)) holds))
      | inr fails ↦
          ap (λ o. option_map (λ (v : ℕ × D). v.0) o)
          (cond-false (nat_lt u.0 b || nat_le n u.0) (Some u) (find (λ v. nat_lt v.0 b || nat_le n v.0) us) fails)
          ∙ first-refused encoding b n us
          ∙ sym (ap (λ o. option_map (λ (v : Replacement). v.0) o)
          (cond-false (nat_lt u.0 b || nat_le n u.0) (Some (u.0, encoding u.1))
          (find (λ v. nat_lt v.0 b || nat_le n v.0) (encoded encoding us)) fails))
    ]
