-- What a store of digests refuses.
use Rattle.std.proofs.Common.{◌≡◌, ℕ, List, refl}
use Rattle.merkle_core_parts.specs.declared.error.Error.{Error}
use Rattle.merkle_core_parts.specs.declared.error.Error.TheVariants.{LocationOverflow, Empty, RangeOutOfBounds, LeafOutOfBounds}
use Rattle.merkle_core_parts.specs.declared.error.Error.TheVariants.{DuplicateLocation, UnsortedLocation, ElementPruned, StaleBatch, AncestorDropped}
use Rattle.merkle_core_parts.specs.declared.error.Error.TheVariants.{InvalidInactivePeaks, MissingNode, Memory, InvalidSize, InvalidPinnedNodes}
use Rattle.merkle_proofs.specs.ProofStores.{IsMissedApart}

-- where no node is missing there is nothing to tell apart
pub missed_apart : {F : Type 0} (suffix : List ℕ) (e : Error F) → ((p : ℕ) → e ≡ ElementPruned p → ⊥) → IsMissedApart suffix e
missed_apart suffix (ElementPruned p) other = absurd (other p refl)
missed_apart suffix (LocationOverflow l) other = tt
missed_apart suffix Empty other = tt
missed_apart suffix (RangeOutOfBounds l) other = tt
missed_apart suffix InvalidSize other = tt
missed_apart suffix (LeafOutOfBounds l) other = tt
missed_apart suffix (DuplicateLocation l) other = tt
missed_apart suffix (UnsortedLocation l) other = tt
missed_apart suffix InvalidPinnedNodes other = tt
missed_apart suffix StaleBatch other = tt
missed_apart suffix AncestorDropped other = tt
missed_apart suffix InvalidInactivePeaks other = tt
missed_apart suffix (MissingNode p) other = tt
missed_apart suffix Memory other = tt
