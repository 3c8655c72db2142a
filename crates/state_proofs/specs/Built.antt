-- Which proofs are built, and why one is not.
use Rattle.std.specs.Prelude.{◌≡◌, ◌≢◌, ◌<◌, ◌^◌, ◌⊎◌, ℕ, length, None, Some, Option}
use Rattle.merkle_core_parts.specs.declared.error.Error.{Error as MerkleError}
use Rattle.merkle_core_parts.specs.declared.error.Error.TheVariants.{ElementPruned, LocationOverflow}
use Rattle.merkle_core_parts.specs.declared.error.Error.TheVariants.{Memory as NoMemory}
use Rattle.merkle_theory.specs.Plans.{Asked as Span, IsRefusalOfElement, IsRefusalOfRange, IsWithinTree, Lookup}
use Rattle.merkle_theory.specs.Plans.{first_missing, range_positions}
use Rattle.merkle_forest.specs.Forest.{Rule}
use Rattle.state_proofs.specs.declared.error.Error.{Error}
use Rattle.state_proofs.specs.declared.error.Error.TheVariants.{DataCorrupted, OperationPruned, Merkle, Memory}
use Rattle.state_proofs.specs.Required.{Measures, Asked, IsCorrupted, IsPruned}
use Rattle.state_theory.specs.Sources.{Source}

-- what the chunks are asked for
abbrev pub chunks_asked : Source → Asked
chunks_asked source = record {
  leaves = source.span.leaves;
  bits = length source.bits;
  pruned = source.pruned;
  location = None;
}

-- the bits and the operations do not belong together: there are not as many of both, or a full chunk that may not lack
-- its node lacks it
abbrev pub AreApart : Measures → Asked → Type 0
AreApart measures asked = (asked.bits ≢ asked.leaves) ⊎ IsCorrupted measures asked

-- the first node of the proof of which no digest is known
abbrev pub unknown_node : Rule → Span → Lookup → Option ℕ
unknown_node rule span known = first_missing known (range_positions rule span.leaves span.start span.stop)

-- a proof is built: every node that it is made of is known, and the bits belong to the operations
pub record IsBuildable (measures : Measures) (source : Source) : Type 0 where
  pub known : unknown_node measures.rule source.span source.known ≡ None
  pub together : AreApart measures (chunks_asked source) → ⊥

-- why one is not: the first of these, in this order, or out of memory. The first two are of the nodes: there are too
-- many leaves, or no digest is known
abbrev pub IsUnknown : {F : Type 0} → Rule → Span → Lookup → MerkleError F → Type 0
IsUnknown rule span known (LocationOverflow most) = (most ≡ span.leaves) × (2 ^ 62 < span.leaves)
IsUnknown rule span known (ElementPruned p) = unknown_node rule span known ≡ Some p
IsUnknown rule span known other = ⊥

abbrev pub IsRefusalOfNodes : {F : Type 0} → Rule → Span → Lookup → Error F → Type 0
IsRefusalOfNodes rule span known (Merkle error) = IsUnknown rule span known error
IsRefusalOfNodes rule span known Memory = Unit {0}
IsRefusalOfNodes rule span known other = ⊥

abbrev pub IsRefusalOfSource : {F : Type 0} → Measures → Source → Error F → Type 0
IsRefusalOfSource measures source DataCorrupted =
    (unknown_node measures.rule source.span source.known ≡ None) × AreApart measures (chunks_asked source)
IsRefusalOfSource measures source error = IsRefusalOfNodes measures.rule source.span source.known error

-- why a proof of the operation at a location is not: its chunk is pruned, or one of the above
abbrev pub IsRefusalOfOperation : {F : Type 0} → Measures → Source → ℕ → Error F → Type 0
IsRefusalOfOperation measures source location (OperationPruned asked) =
    (asked ≡ location) × IsPruned measures (chunks_asked source) location
IsRefusalOfOperation measures source location Memory = Unit {0}
IsRefusalOfOperation measures source location error =
    (IsPruned measures (chunks_asked source) location → ⊥) × IsRefusalOfSource measures source error

-- an error of the Merkle layer as one of this crate: out of memory is the same
abbrev pub lifted : {F : Type 0} → MerkleError F → Error F
lifted NoMemory = Memory
lifted other = Merkle other

-- why a proof of a range of a tree's operations is not built: the range may not be planned, or one of the above
abbrev pub IsRefusalOfPlanned : {F : Type 0} → Measures → Source → Error F → Type 0
IsRefusalOfPlanned measures source (Merkle error) = ((error ≢ NoMemory) × IsRefusalOfRange source.span error)
    ⊎ (IsWithinTree source.span × IsUnknown measures.rule source.span source.known error)
IsRefusalOfPlanned measures source Memory = Unit {0}
IsRefusalOfPlanned measures source error = IsWithinTree source.span × IsRefusalOfSource measures source error

-- why a proof of the operation at a location of a tree is not built: its chunk is pruned; or there is no such leaf, or
-- one of the above
abbrev pub IsRefusalOfLeaf : {F : Type 0} → ℕ → ℕ → Error F → Type 0
IsRefusalOfLeaf leaves location (Merkle error) = (error ≢ NoMemory) × IsRefusalOfElement leaves location error
IsRefusalOfLeaf leaves location other = ⊥

abbrev pub IsRefusalOfLocated : {F : Type 0} → Measures → Source → ℕ → Error F → Type 0
IsRefusalOfLocated measures source location (OperationPruned asked) =
    (asked ≡ location) × IsPruned measures (chunks_asked source) location
IsRefusalOfLocated measures source location Memory = Unit {0}
IsRefusalOfLocated measures source location error = (IsPruned measures (chunks_asked source) location → ⊥)
    × (IsRefusalOfLeaf source.span.leaves location error
    ⊎ ((location < source.span.leaves) × IsRefusalOfSource measures source error))
