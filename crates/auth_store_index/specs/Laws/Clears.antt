-- Bits that are cleared.
use Rattle.std.proofs.Common.{◌≡◌, ℕ, zero, suc, ◌&&◌, Bool, true, false, not, List, [], ◌∷◌, length, Some, slice_get}
use Rattle.std.proofs.Common.{refl, ap, sym, ◌∙◌, length-set}
use Rattle.std.specs.Prelude.{◌==◌, ◌||◌, slice_set}
use Rattle.std.specs.List.{list_any}
use Rattle.std.proofs.Math.Dec.{eqb-suc-zero, eqb-zero-suc, eqb-suc-suc}
use Rattle.auth_store_index.specs.Growth.{cleared}

-- whether two places are one, place by place
abbrev same_place : ℕ → ℕ → Bool
same_place zero zero = true
same_place zero (suc b) = false
same_place (suc a) zero = false
same_place (suc a) (suc b) = same_place a b

same_place-is : (a b : ℕ) → (a == b) ≡ same_place a b
same_place-is zero zero = refl
same_place-is zero (suc b) = eqb-zero-suc b
same_place-is (suc a) zero = eqb-suc-zero a
same_place-is (suc a) (suc b) = eqb-suc-suc a b ∙ same_place-is a b

get_set : (bits : List Bool) (place at : ℕ) (bit : Bool) → slice_get bits at ≡ Some bit
    → slice_get (slice_set bits place false) at ≡ Some (bit && not (same_place place at))
get_set [] place at bit is = absurd (cc)
get_set (b ∷ bits) zero zero bit is = ap Some (none bit)
  where
    none : (b : Bool) → false ≡ (b && false)
    none true = refl
    none false = refl
get_set (b ∷ bits) zero (suc at) bit is = is ∙ ap Some (all bit)
  where
    all : (b : Bool) → b ≡ (b && true)
    all true = refl
    all false = refl
get_set (b ∷ bits) (suc place) zero bit is = is ∙ ap Some (all bit)
  where
    all : (b : Bool) → b ≡ (b && true)
    all true = refl
    all false = refl
get_set (b ∷ bits) (suc place) (suc at) bit is = get_set bits place at bit is

pub get_cleared : (bits : List Bool) (places : List ℕ) (at : ℕ) (bit : Bool) → slice_get bits at ≡ Some bit
    → slice_get (cleared bits places) at ≡ Some (bit && not (list_any (λ place. place == at) places))
get_cleared bits [] at bit is = is ∙ ap Some (all bit)
  where
    all : (b : Bool) → b ≡ (b && true)
    all true = refl
    all false = refl
get_cleared bits (p ∷ places) at bit is =
    get_cleared (slice_set bits p false) places at (bit && not (p == at))
    (get_set bits p at bit is ∙ ap (λ s. Some (bit && not s)) (sym (same_place-is p at)))
    ∙ ap Some (joined bit (p == at) (list_any (λ place. place == at) places))
  where
    joined : (a b c : Bool) → ((a && not b) && not c) ≡ (a && not (b || c))
    joined true true c = refl
    joined true false c = refl
    joined false b c = refl

pub length_cleared : (bits : List Bool) (places : List ℕ) → length (cleared bits places) ≡ length bits
length_cleared bits [] = refl
length_cleared bits (p ∷ places) = length_cleared (slice_set bits p false) places ∙ length-set bits p false
