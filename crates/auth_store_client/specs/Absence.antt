-- The honest bytes that prove that a key is absent.
use Rattle.std.specs.Prelude.{ℕ, ◌-◌, List, [], ◌∷◌, length, Option, None, Some, unwrap_or, IfSome}
use Rattle.state_theory.specs.Canonical.{Setting}
use Rattle.state_proofs.specs.Exclusion.{ExclusionParts, by_update, by_commit, exclusion_encoding}
use Rattle.state_theory.specs.Honest.{honest_parts}
use Rattle.state_ops.specs.Operation.{Operation, commit_floor}
use Rattle.auth_store_parts.specs.Map.{Map, next_key, value_at}
use Rattle.auth_store_parts.specs.History.{History, latest_map, log_of, active_location}
use Rattle.auth_store_client.specs.States.{state_of_history}
use Rattle.auth_store_index.specs.Near.{prev_key}

-- the metadata of the newest commit
abbrev pub last_metadata : History → Option (List ℕ)
last_metadata [] = None
last_metadata (commit ∷ history) = commit.metadata

-- the location of the last commit in the log
abbrev pub last_location : History → ℕ
last_location history = length (log_of history) - 1

-- What the honest proof holds that a key is not in the latest state, which has these entries: the update of the key
-- before it, in whose span the key is; of an empty state the last commit.
abbrev pub absence_in : Setting → ℕ → ℕ → History → List ℕ → Map → ExclusionParts
absence_in setting key_size value_size history key [] =
    by_commit (honest_parts setting (state_of_history key_size value_size history) (last_location history))
    (last_metadata history)
absence_in setting key_size value_size history key (entry ∷ entries) =
    let before = prev_key (latest_map history) key in
    by_update (honest_parts setting (state_of_history key_size value_size history)
    (active_location before (log_of history))) before
    (unwrap_or (value_at (latest_map history) before) []) (next_key (latest_map history) before)

-- so of the latest state
abbrev pub honest_absence_parts : Setting → ℕ → ℕ → History → List ℕ → ExclusionParts
honest_absence_parts setting key_size value_size history key =
    absence_in setting key_size value_size history key (latest_map history)

-- and its bytes
abbrev pub honest_absence : (Option (List ℕ) → List ℕ) → Setting → ℕ → ℕ → History → List ℕ → List ℕ
honest_absence pending setting key_size value_size history key =
    exclusion_encoding pending (honest_absence_parts setting key_size value_size history key)

-- what such a proof names are keys and values
abbrev pub NamesFields : (List ℕ → Type 0) → (List ℕ → Type 0) → ExclusionParts → Type 0
NamesFields IsKey IsValue (by_update proof key value next) = IsKey key × IsValue value × IsKey next
NamesFields IsKey IsValue (by_commit proof metadata) = IfSome metadata IsValue

-- the metadata of an operation that is a commit
abbrev pub metadata_in : Option Operation → Option (Option (List ℕ))
metadata_in (Some (commit_floor metadata floor)) = Some metadata
metadata_in _ = None
