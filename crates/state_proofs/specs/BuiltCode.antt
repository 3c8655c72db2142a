-- What proofs are built from, as the code holds it.
use Rattle.std.specs.Prelude.{ℕ, Bool, List, ◌*◌}
use Rattle.merkle_theory.specs.Plans.{Asked, Lookup}
use Rattle.merkle_forest.specs.Forest.{Rule}
use Rattle.state_proofs.specs.Required.{Measures}
use Rattle.state_theory.specs.Sources.{Source}

-- the operations from one location up to another, in a tree of so many
abbrev pub span_of : ℕ → ℕ → ℕ → Asked
span_of leaves start stop = record { leaves = leaves; start = start; stop = stop }

abbrev pub source_of : Asked → List Bool → ℕ → Lookup → Source
source_of span bits pruned known = record { span = span; bits = bits; pruned = pruned; known = known }

-- what is measured, from the bytes of a chunk and the grafting height
abbrev pub measures_with : Rule → ℕ → ℕ → Measures
measures_with rule width grafting_height = record {
  rule = rule;
  chunk_bits = 8 * width;
  grafting_height = grafting_height;
}
