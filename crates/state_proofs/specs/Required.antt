-- The chunks that a proof needs, and what is no snapshot.
use Rattle.std.specs.Prelude.{◌≡◌, ◌⊎◌, ℕ, ◌+◌, ◌/◌, ◌%◌, ◌<◌, ◌≤◌, min, Option, Some, IfSome, IsSomeAnd}
use Rattle.merkle_core_parts.specs.declared.error.Error.{Error as MerkleError}
use Rattle.merkle_core_parts.specs.declared.error.Error.TheVariants.{RangeOutOfBounds}
use Rattle.merkle_forest.specs.Forest.{Rule, forest_of}
use Rattle.merkle_forest.specs.Nodes.{nodes_of_height}
use Rattle.state_proofs.specs.declared.error.Error.{Error}
use Rattle.state_proofs.specs.declared.error.Error.TheVariants.{DataCorrupted, OperationPruned, Merkle}

-- how many operations, bits and pruned chunks there are, and the location that is asked for, if any
pub record Asked : Type 0 where
  pub leaves : ℕ
  pub bits : ℕ
  pub pruned : ℕ
  pub location : Option ℕ

-- how a tree grows, how many bits a chunk has, and the height of a tree over as many operations
pub record Measures : Type 0 where
  pub rule : Rule
  pub chunk_bits : ℕ
  pub grafting_height : ℕ

-- how many chunks are full, and how many of these have their node
abbrev pub complete : Measures → Asked → ℕ
complete measures asked = asked.bits / measures.chunk_bits

abbrev pub graftable : Measures → Asked → ℕ
graftable measures asked =
    min (nodes_of_height measures.grafting_height (forest_of measures.rule asked.leaves)) (complete measures asked)

-- more than one full chunk has no node, or one that is pruned has none
abbrev pub IsCorrupted : Measures → Asked → Type 0
IsCorrupted measures asked =
    (graftable measures asked + 1 < complete measures asked) ⊎ (graftable measures asked < asked.pruned)

-- no operation, or no bit, is at the location
abbrev pub IsOutside : Asked → ℕ → Type 0
IsOutside asked location = (asked.leaves ≤ location) ⊎ (asked.bits ≤ location)

-- its chunk is pruned
abbrev pub IsPruned : Measures → Asked → ℕ → Type 0
IsPruned measures asked location = location / measures.chunk_bits < asked.pruned

-- nothing is refused
pub record IsGranted (measures : Measures) (asked : Asked) : Type 0 where
  pub sound : IsCorrupted measures asked → ⊥
  pub inside : IfSome asked.location (λ location. IsOutside asked location → ⊥)
  pub kept : IfSome asked.location (λ location. IsPruned measures asked location → ⊥)

-- why it is refused: the first of these, in this order
abbrev pub IsOutsideFault : {F : Type 0} → Measures → Asked → MerkleError F → Type 0
IsOutsideFault measures asked (RangeOutOfBounds location) =
    (IsCorrupted measures asked → ⊥) × ((asked.location ≡ Some location) × IsOutside asked location)
IsOutsideFault measures asked other = ⊥

abbrev pub IsRefusal : {F : Type 0} → Measures → Asked → Error F → Type 0
IsRefusal measures asked DataCorrupted = IsCorrupted measures asked
IsRefusal measures asked (Merkle error) = IsOutsideFault measures asked error
IsRefusal measures asked (OperationPruned location) =
    (IsCorrupted measures asked → ⊥)
    × ((asked.location ≡ Some location) × ((IsOutside asked location → ⊥) × IsPruned measures asked location))
IsRefusal measures asked other = ⊥

-- the chunk is partial, or pending, or has the location's bit
abbrev pub IsNeeded : Measures → Asked → ℕ → Type 0
IsNeeded measures asked index =
    ((0 < asked.bits % measures.chunk_bits) × (index ≡ complete measures asked))
    ⊎ (((graftable measures asked < complete measures asked) × (index ≡ graftable measures asked))
    ⊎ IsSomeAnd asked.location (λ location. index ≡ location / measures.chunk_bits))
