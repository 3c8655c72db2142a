-- Whether elements can be shown where they are said to stand.
use Rattle.std.proofs.Common.{◌≡◌, ℕ, zero, suc, ◌^◌, ◌<◌, ◌≤◌, Bool, true, false, ◌&&◌, length, map, get_or, List, []}
use Rattle.std.proofs.Common.{◌∷◌, Option, Some, None, refl, sym, ap, ap₂, subst, ⊎_elim, arith}
use Rattle.std.specs.List.Sorted.{IsNonDecreasingBy}
use Rattle.std.specs.Prelude.{is_none, nat_le, MatchOption, ◌==◌}
use Rattle.std.proofs.lemmas.Bool.{le-leb, lt-leb, eqb-true, cases_Bool}
use Rattle.std.proofs.lemmas.List.Sorted.{IsPermutation-refl}
use Rattle.merkle_forest.specs.Forest.{Rule, forest_of}
use Rattle.merkle_core_parts.specs.declared.error.Error.{Error}
use Rattle.merkle_core_parts.specs.declared.error.Error.TheVariants.{LocationOverflow, Empty, RangeOutOfBounds}
use Rattle.merkle_core_parts.specs.declared.error.Error.TheVariants.{LeafOutOfBounds}
use Rattle.merkle_core_parts.specs.declared.error.Error.TheVariants.{DuplicateLocation, UnsortedLocation, ElementPruned}
use Rattle.merkle_core_parts.specs.declared.error.Error.TheVariants.{StaleBatch, AncestorDropped}
use Rattle.merkle_core_parts.specs.declared.error.Error.TheVariants.{InvalidInactivePeaks, MissingNode, Memory}
use Rattle.merkle_core_parts.specs.declared.error.Error.TheVariants.{InvalidSize, InvalidPinnedNodes}
use Rattle.merkle_theory.specs.Multi.{AscendFrom, first_bad, AreMultiPositions, IsRefusalOfLocations}
use Rattle.merkle_theory.specs.MultiReads.{can_be_shown, AreNeeded}
use Rattle.merkle_theory.proofs.Unnamed.{good_ascend}

can_if : (leaves : ℕ) (locations : List ℕ) (a : Option (ℕ × ℕ)) (b : Bool) → 0 < length locations
    → first_bad leaves 0 locations ≡ a
    → nat_le leaves (2 ^ 62) ≡ b → can_be_shown leaves locations ≡ is_none a && b
can_if leaves [] a b some bad few = absurd (omega (arith, some))
can_if leaves (l ∷ locations) a b some bad few = ap₂ (λ x y. is_none x && y) bad few

-- a location is bad
cannot : (leaves : ℕ) (locations : List ℕ) (x : ℕ × ℕ) → 0 < length locations → first_bad leaves 0 locations ≡ Some x
    → can_be_shown leaves locations ≡ false
cannot leaves locations x some bad = can_if leaves locations (Some x) (nat_le leaves (2 ^ 62)) some bad refl

pub refused_cannot : {F : Type 0} (leaves : ℕ) (locations : List ℕ) (e : Error F) → 0 < length locations
    → IsRefusalOfLocations leaves locations e → (e ≡ Memory → ⊥) → can_be_shown leaves locations ≡ false
refused_cannot leaves locations Empty some why other = absurd (omega (arith, some, ap length why))
refused_cannot leaves locations (DuplicateLocation l) some why other = cannot leaves locations (suc l, l) some why
refused_cannot leaves locations (UnsortedLocation l) some why other = cannot leaves locations (suc why.0, l) some why.1
refused_cannot leaves locations (LeafOutOfBounds l) some why other = cannot leaves locations (why.0, l) some why.1
refused_cannot leaves locations (LocationOverflow count) some why other =
    can_if leaves locations None false some why.0 (lt-leb leaves (2 ^ 62) why.2)
refused_cannot leaves locations Memory some why other = absurd (other refl)
refused_cannot leaves locations (RangeOutOfBounds l) some why other = absurd why
refused_cannot leaves locations (ElementPruned p) some why other = absurd why
refused_cannot leaves locations InvalidSize some why other = absurd why
refused_cannot leaves locations InvalidPinnedNodes some why other = absurd why
refused_cannot leaves locations StaleBatch some why other = absurd why
refused_cannot leaves locations AncestorDropped some why other = absurd why
refused_cannot leaves locations InvalidInactivePeaks some why other = absurd why
refused_cannot leaves locations (MissingNode p) some why other = absurd why

-- locations that are planned
pub needed_of : (rule : Rule) (leaves : ℕ) (locations positions : List ℕ) → 0 < length locations
    → first_bad leaves 0 locations ≡ None
    → leaves ≤ 2 ^ 62 → AreMultiPositions rule leaves locations positions → AreNeeded rule leaves locations positions
needed_of rule leaves locations positions some good few are = record {
  can = can_if leaves locations None true some good (le-leb leaves (2 ^ 62) few);
  few = few;
  all = are.all;
  ascending = are.ascending;
  up = good_ascend leaves 0 locations good;
}

-- nothing is shown of a tree without leaves
pub needed_none : (rule : Rule) (leaves : ℕ) (positions : List ℕ) → leaves ≡ 0 → positions ≡ []
    → AreNeeded rule leaves [] positions
unfolding forest_of
needed_none rule leaves positions none is =
    subst (λ n. AreNeeded rule n [] positions) (sym none) (subst (AreNeeded rule 0 []) (sym is) record {
      can = refl;
      few = omega arith;
      all = IsPermutation-refl [];
      ascending = λ i j d le below. absurd (omega (arith, below));
      up = tt;
    })

pub none_cannot : (leaves : ℕ) → (leaves ≡ 0 → ⊥) → can_be_shown leaves [] ≡ false
none_cannot leaves some = ⊎_elim (λ is. absurd (some (eqb-true leaves 0 is))) (λ is. is) (cases_Bool (leaves == 0))

pub not_empty : (n : ℕ) → (n == 0) ≡ false → 0 < n
not_empty zero is = absurd cc
not_empty (suc n) is = omega arith

pub where_none : {A : Type 0} (P : Type 0) (Q : A → Type 0) (found : Option A) → found ≡ None → P
    → MatchOption found P Q
where_none P Q found is p = subst (λ o. MatchOption o P Q) (sym is) p

module _ {E : Type 0} (f : E → ℕ) where
  least : (low : ℕ) (xs : List E) → AscendFrom low (map f xs) → (j : ℕ) (d : E) → j < length xs
      → low ≤ f (get_or xs j d)
  least low [] up j d below = absurd (omega (arith, below))
  least low (x ∷ xs) up zero d below = up.0
  least low (x ∷ xs) up (suc j) d below = omega (arith, up.0, least (suc (f x)) xs up.1 j d (omega (arith, below)))

  -- what ascends strictly does not descend
  pub ascending : (low : ℕ) (xs : List E) → AscendFrom low (map f xs) → IsNonDecreasingBy f xs
  ascending low [] up i j d le below = absurd (omega (arith, below))
  ascending low (x ∷ xs) up zero zero d le below = omega arith
  ascending low (x ∷ xs) up zero (suc j) d le below = omega (
    arith,
    least (suc (f x)) xs up.1 j d (omega
        (arith, below)),
  )
  ascending low (x ∷ xs) up (suc i) zero d le below = absurd (omega (arith, le))
  ascending low (x ∷ xs) up (suc i) (suc j) d le below = ascending (suc (f x)) xs up.1 i j d (omega (arith, le))
      (omega (arith, below))
