-- What the families' rules keep.
use Rattle.std.proofs.Common.{◌≡◌, ℕ, zero, suc, Bool, true, false, cond, eqb, List, [], ◌∷◌, Option, Some, None, refl}
use Rattle.std.proofs.Common.{sym, ap}
use Rattle.std.specs.Prelude.{IfSome}
use Rattle.std.proofs.lemmas.Bool.{eqb-true}
use Rattle.std.specs.Option.{option_map}
use Rattle.merkle_forest.specs.Forest.{mmr_rule, first_pair_from, mmb_rule, IsPairOfEquals}

equals_at_the_end : (a b : ℕ) (heights : List ℕ) (test : Bool) → (test ≡ true → a ≡ b)
    → IfSome (cond test (Some 0) None) (IsPairOfEquals (a ∷ b ∷ heights))
equals_at_the_end a b heights true same = (a, refl, ap (λ h. Some h) (sym (same refl)))
equals_at_the_end a b heights false same = tt

pub mmr_merges_equals : (merges : ℕ) (heights : List ℕ) → IfSome (mmr_rule merges heights) (IsPairOfEquals heights)
mmr_merges_equals merges [] = tt
mmr_merges_equals merges (a ∷ []) = tt
mmr_merges_equals merges (a ∷ b ∷ heights) = equals_at_the_end a b heights (eqb a b) (eqb-true a b)

first_of_equals : (a b : ℕ) (heights : List ℕ) (test : Bool) (rest : Option ℕ) → (test ≡ true → a ≡ b)
    → IfSome rest (IsPairOfEquals (b ∷ heights))
    → IfSome (cond test (Some 0) (option_map (λ index. suc index) rest)) (IsPairOfEquals (a ∷ b ∷ heights))
first_of_equals a b heights true rest same pair = (a, refl, ap (λ h. Some h) (sym (same refl)))
first_of_equals a b heights false None same pair = tt
first_of_equals a b heights false (Some index) same pair = pair

first_pair_from-equals : (a : ℕ) (heights : List ℕ) → IfSome (first_pair_from a heights) (IsPairOfEquals (a ∷ heights))
first_pair_from-equals a [] = tt
first_pair_from-equals a (b ∷ heights) =
    first_of_equals a b heights (eqb a b) (first_pair_from b heights) (eqb-true a b) (first_pair_from-equals b heights)

pub mmb_merges_equals : (merges : ℕ) (heights : List ℕ) → IfSome (mmb_rule merges heights) (IsPairOfEquals heights)
mmb_merges_equals zero [] = tt
mmb_merges_equals zero (a ∷ heights) = first_pair_from-equals a heights
mmb_merges_equals (suc merges) heights = tt
