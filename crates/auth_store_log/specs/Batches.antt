-- How the operations of a log fall into batches, each with a commit at its end.
use Rattle.std.specs.Prelude.{◌≡◌, ℕ, false, List, ◌∷◌, ◌++◌, Option}
use Rattle.std.specs.List.{list_any}
use Rattle.state_ops.specs.Operation.{Operation, commit_floor}
use Rattle.auth_store_parts.specs.History.{is_commit}

-- of these operations the first batch, the floor that its commit records, and what comes behind
pub record IsNextBatch (batch : List Operation) (floor : ℕ) (later operations : List Operation) : Type 0 where
  pub metadata : Option (List ℕ)
  pub whole : operations ≡ batch ++ commit_floor metadata floor ∷ later
  pub before_commit : list_any is_commit batch ≡ false
