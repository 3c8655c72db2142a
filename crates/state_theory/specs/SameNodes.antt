-- One node in two trees: in that of the operations, and in that whose leaves are chunks of 2^grafting_height
-- operations.
use Rattle.std.specs.Prelude.{ℕ, ◌+◌, ◌*◌, ◌^◌}
use Rattle.merkle_forest.specs.Forest.{Rule}
use Rattle.merkle_theory.specs.Subtrees.{HasTree}

-- the node at the position `ops` is over whole chunks of operations, and the one at the position `grafted` over as many
-- leaves, one for each of these chunks
pub record IsSameNode (rule : Rule) (grafting_height ops grafted : ℕ) : Type 0 where
  pub chunk : ℕ
  pub high : ℕ
  pub over_operations : HasTree rule (chunk * 2 ^ grafting_height) ops (high + grafting_height)
  pub over_chunks : HasTree rule chunk grafted high
