-- Required chunks, as the code holds them.
use Rattle.std.specs.Prelude.{ℕ, ◌*◌, List, [], ◌∷◌, Option, None, Some, nat_lt, if◌then◌else◌}
use Rattle.merkle_forest.specs.Forest.{Rule}
use Rattle.state_proofs_parts.specs.declared.chunk_size.ChunkSize.{ChunkSize}
use Rattle.state_proofs.specs.Required.{Measures, Asked}

-- a number that may be there as a list
abbrev pub as_list : Option ℕ → List ℕ
as_list None = []
as_list (Some n) = n ∷ []

-- the number, where it is below a bound
abbrev pub option_below : Option ℕ → ℕ → Option ℕ
option_below None bound = None
option_below (Some n) bound = if nat_lt n bound then Some n else None

-- what is measured, from the size of a chunk
abbrev pub measures_of : Rule → ChunkSize → Measures
measures_of rule size = record { rule = rule; chunk_bits = 8 * size.width; grafting_height = size.grafting_height }

-- what is asked
abbrev pub asked_of : ℕ → ℕ → ℕ → Option ℕ → Asked
asked_of leaf_total bits pruned location = record {
  leaves = leaf_total;
  bits = bits;
  pruned = pruned;
  location = location;
}
