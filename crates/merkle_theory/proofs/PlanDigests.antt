-- Digests that are looked up one after the other, and those of a proof that they make.
use Rattle.std.proofs.Common.{get_or, ◌≡◌, ℕ, zero, suc, ◌<◌, ◌≤◌, map, take, length}
use Rattle.std.proofs.Common.{List, [], ◌∷◌, Option, Some, None, refl, sym, ◌∙◌, ap, arith}
use Rattle.std.specs.Prelude.{slice_get}
use Rattle.merkle_forest.specs.Forest.{Rule}
use Rattle.merkle_core_parts.specs.declared.error.Error.{Error}
use Rattle.merkle_core_parts.specs.declared.error.Error.TheVariants.{LocationOverflow, Empty, RangeOutOfBounds, LeafOutOfBounds}
use Rattle.merkle_core_parts.specs.declared.error.Error.TheVariants.{DuplicateLocation, UnsortedLocation, ElementPruned, StaleBatch, AncestorDropped}
use Rattle.merkle_core_parts.specs.declared.error.Error.TheVariants.{InvalidInactivePeaks, MissingNode, Memory, InvalidSize, InvalidPinnedNodes}
use Rattle.merkle_theory.specs.MadeRoots.{peaks_of}
use Rattle.merkle_theory.specs.Plans.{Lookup, Asked, first_missing, range_positions, IsRefusalToLookUp, IsRefusalToBuild}

some_not_none : {A : Type 0} (x : A) → ◌≡◌ {A = Option A} (Some x) None → ⊥
some_not_none x is = absurd cc

-- all are known
pub all_known : (known : Lookup) (digests : List (List ℕ)) (positions : List ℕ) → map (λ d. Some d) digests ≡ map known positions
    → first_missing known positions ≡ None
all_known known [] [] is = refl
all_known known [] (p ∷ positions) is = absurd cc
all_known known (d ∷ digests) [] is = absurd cc
all_known known (d ∷ digests) (p ∷ positions) is =
    let heads : Some d ≡ known p = cc in
    let tails : map (λ x. Some x) digests ≡ map known positions = cc in
    rw (sym heads) (all_known known digests positions tails)

-- the first one that is not known
missing_here : (known : Lookup) (digests : List (List ℕ)) (positions : List ℕ) (i p : ℕ)
    → map (λ d. Some d) digests ≡ map known (take i positions) → slice_get positions i ≡ Some p → known p ≡ None
    → first_missing known positions ≡ Some p
missing_here known digests [] i p is there none = absurd cc
missing_here known digests (q ∷ positions) zero p is there none =
    let same : q ≡ p = cc in
    rw (same, none) refl
missing_here known [] (q ∷ positions) (suc i) p is there none = absurd cc
missing_here known (d ∷ digests) (q ∷ positions) (suc i) p is there none =
    let heads : Some d ≡ known q = cc in
    let tails : map (λ x. Some x) digests ≡ map known (take i positions) = cc in
    rw (sym heads) (missing_here known digests positions i p tails there none)

at_index : {A : Type 0} (xs : List A) (i : ℕ) (x none : A) → i < length xs → x ≡ get_or xs i none → slice_get xs i ≡ Some x
at_index [] i x none lt is = absurd (omega (arith, lt))
at_index (y ∷ xs) zero x none lt is = ap (λ z. Some z) (sym is)
at_index (y ∷ xs) (suc i) x none lt is = at_index xs i x none (omega (arith, lt)) is

pub missing_after : (known : Lookup) (digests : List (List ℕ)) (positions : List ℕ) (i p any : ℕ)
    → map (λ d. Some d) digests ≡ map known (take i positions) → i < length positions → p ≡ get_or positions i any → known p ≡ None
    → first_missing known positions ≡ Some p
missing_after known digests positions i p any is lt there none =
    missing_here known digests positions i p is (at_index positions i p any lt there) none

-- what refuses a look-up refuses the proof
pub refused_too : {F : Type 0} (rule : Rule) (asked : Asked) (inactive : ℕ) (known : Lookup) (positions : List ℕ) (e : Error F)
    → inactive ≤ length (peaks_of rule asked.leaves) → positions ≡ range_positions rule asked.leaves asked.start asked.stop
    → IsRefusalToLookUp known positions e → IsRefusalToBuild rule asked inactive known e
refused_too rule asked inactive known positions (ElementPruned p) enough same why = (enough, ap (first_missing known) (sym same) ∙ why)
refused_too rule asked inactive known positions Memory enough same why = tt
refused_too rule asked inactive known positions (LocationOverflow l) enough same why = absurd why
refused_too rule asked inactive known positions Empty enough same why = absurd why
refused_too rule asked inactive known positions (RangeOutOfBounds l) enough same why = absurd why
refused_too rule asked inactive known positions InvalidSize enough same why = absurd why
refused_too rule asked inactive known positions InvalidPinnedNodes enough same why = absurd why
refused_too rule asked inactive known positions (LeafOutOfBounds l) enough same why = absurd why
refused_too rule asked inactive known positions (DuplicateLocation l) enough same why = absurd why
refused_too rule asked inactive known positions (UnsortedLocation l) enough same why = absurd why
refused_too rule asked inactive known positions StaleBatch enough same why = absurd why
refused_too rule asked inactive known positions AncestorDropped enough same why = absurd why
refused_too rule asked inactive known positions InvalidInactivePeaks enough same why = absurd why
refused_too rule asked inactive known positions (MissingNode p) enough same why = absurd why
