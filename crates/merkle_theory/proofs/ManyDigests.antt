-- The digests of the proof of some elements.
use Rattle.std.proofs.Common.{◌≡◌, ℕ, zero, suc, ◌≤◌, List, [], ◌∷◌, map, length, Some, refl, sym, ◌∙◌, ap}
use Rattle.std.specs.Prelude.{slice_get}
use Rattle.merkle_forest.specs.Forest.{Rule, position}
use Rattle.merkle_core_parts.specs.Mem.{NodeHash}
use Rattle.merkle_core_parts.specs.declared.error.Error.{Error}
use Rattle.merkle_core_parts.specs.declared.error.Error.TheVariants.{LocationOverflow, Empty, RangeOutOfBounds, LeafOutOfBounds}
use Rattle.merkle_core_parts.specs.declared.error.Error.TheVariants.{DuplicateLocation, UnsortedLocation, ElementPruned, StaleBatch, AncestorDropped}
use Rattle.merkle_core_parts.specs.declared.error.Error.TheVariants.{InvalidInactivePeaks, MissingNode, Memory, InvalidSize, InvalidPinnedNodes}
use Rattle.merkle_theory.specs.MadeRoots.{peaks_of}
use Rattle.merkle_theory.specs.Multi.{AreMultiPositions, AreDigestsAt, IsRefusalToProveMany}
use Rattle.merkle_theory.specs.Plans.{Lookup, first_missing, IsLookupOf, IsRefusalToLookUp}

pub refused_many : {F : Type 0} (rule : Rule) (leaves : ℕ) (locations : List ℕ) (inactive : ℕ) (known : Lookup) (positions there : List ℕ) (e : Error F)
    → inactive ≤ length (peaks_of rule leaves) → AreMultiPositions rule leaves locations there → positions ≡ there
    → IsRefusalToLookUp known positions e → IsRefusalToProveMany rule leaves locations inactive known e
refused_many rule leaves locations inactive known positions there (ElementPruned p) enough at same why =
    (enough, (there, at, ap (first_missing known) (sym same) ∙ why))
refused_many rule leaves locations inactive known positions there Memory enough at same why = tt
refused_many rule leaves locations inactive known positions there (LocationOverflow l) enough at same why = absurd why
refused_many rule leaves locations inactive known positions there Empty enough at same why = absurd why
refused_many rule leaves locations inactive known positions there (RangeOutOfBounds l) enough at same why = absurd why
refused_many rule leaves locations inactive known positions there InvalidSize enough at same why = absurd why
refused_many rule leaves locations inactive known positions there InvalidPinnedNodes enough at same why = absurd why
refused_many rule leaves locations inactive known positions there (LeafOutOfBounds l) enough at same why = absurd why
refused_many rule leaves locations inactive known positions there (DuplicateLocation l) enough at same why = absurd why
refused_many rule leaves locations inactive known positions there (UnsortedLocation l) enough at same why = absurd why
refused_many rule leaves locations inactive known positions there StaleBatch enough at same why = absurd why
refused_many rule leaves locations inactive known positions there AncestorDropped enough at same why = absurd why
refused_many rule leaves locations inactive known positions there InvalidInactivePeaks enough at same why = absurd why
refused_many rule leaves locations inactive known positions there (MissingNode p) enough at same why = absurd why

some_is : {A : Type 0} (x y : A) → Some x ≡ Some y → x ≡ y
some_is x y is = cc

pub known_at : (known : Lookup) (digests : List (List ℕ)) (positions : List ℕ) (i p : ℕ) → map (λ d. Some d) digests ≡ map known positions
    → slice_get positions i ≡ Some p → slice_get digests i ≡ known p
known_at known digests [] i p is there = absurd cc
known_at known [] (q ∷ positions) i p is there = absurd cc
known_at known (d ∷ digests) (q ∷ positions) zero p is there =
    let heads : Some d ≡ known q = cc in
    let same : q ≡ p = some_is q p there in
    heads ∙ ap known same
known_at known (d ∷ digests) (q ∷ positions) (suc i) p is there =
    let tails : map (λ x. Some x) digests ≡ map known positions = cc in
    known_at known digests positions i p tails there

pub some_there : (digests : List (List ℕ)) (known : Lookup) (positions : List ℕ) (i p : ℕ) → map (λ d. Some d) digests ≡ map known positions
    → slice_get positions i ≡ Some p → (d : List ℕ) × (slice_get digests i ≡ Some d)
some_there digests known [] i p is there = absurd cc
some_there [] known (q ∷ positions) i p is there = absurd cc
some_there (d ∷ digests) known (q ∷ positions) zero p is there = (d, refl)
some_there (d ∷ digests) known (q ∷ positions) (suc i) p is there =
    let tails : map (λ x. Some x) digests ≡ map known positions = cc in
    some_there digests known positions i p tails there

-- what is known of a list's nodes are their digests
pub many_of_list : (node : NodeHash) (rule : Rule) (list : List (List ℕ)) (known : Lookup) (positions : List ℕ) (digests : List (List ℕ))
    → IsLookupOf node rule list known → map (λ d. Some d) digests ≡ map known positions → AreDigestsAt node rule list positions digests
many_of_list node rule list known positions digests of is i first tree stands there =
    let some = some_there digests known positions i (position tree) is there in
    let at : known (position tree) ≡ Some some.0 = sym (known_at known digests positions i (position tree) is there) ∙ some.1 in
    some.1 ∙ ap (λ d. Some d) (of first tree some.0 stands at)
