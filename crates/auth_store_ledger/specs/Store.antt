-- What a ledger keeps of a history's log, and what of it may be pruned.
use Rattle.std.specs.Prelude.{◌≡◌, ℕ, ◌*◌, ◌/◌, ◌^◌, ◌≤◌, ◌+◌}
use Rattle.std.specs.Prelude.{⊤, if◌then◌else◌, List, [], ◌∷◌, length, slice_get, Some}
use Rattle.state_ops.specs.Operation.{Operation, update, ordered}
use Rattle.state_theory.specs.Canonical.{Setting}
use Rattle.state_current.specs.Kept.{Kept, StandsFor}
use Rattle.state_current.specs.Settled.{IsGreatestSettled}
use Rattle.auth_store_log.specs.Records.{Format, FloorFits, IsRecorded}
use Rattle.auth_store_parts.specs.Places.{places_of}
use Rattle.auth_store_ledger.specs.Map.{Map, value_at}
use Rattle.auth_store_ledger.specs.History.{History, AreStates, IsState, batch_operations, history_of, is_commit}
use Rattle.auth_store_ledger.specs.History.{last_floor, latest_map, log_of, replayed}
pub use Rattle.auth_store_states.specs.States.{is_chunk_width, IsChunkWidth, grafting_height, setting_of_width}
pub use Rattle.auth_store_states.specs.States.{encodings, state_of_log, floor_of, state_of_history, root_of_history}
pub use Rattle.auth_store_states.specs.States.{commit_after}

-- what a ledger is seen as: where the updates stand that give keys their values, how many commits there are, and what
-- is kept of the log beside its operations
pub record LedgerState : Type 0 where
  pub places : Map
  pub commits : ℕ
  pub kept : Kept

-- so many chunks are pruned after pruning up to a location, of which so many were before: the greatest settled number
-- of chunks that end by the location, but none comes back
abbrev pub IsPrunedUpTo : Setting → History → ℕ → ℕ → ℕ → Type 0
IsPrunedUpTo setting history before location after =
    IsGreatestSettled setting.rule setting.grafting_height (length (log_of history)) before
    (location / (8 * setting.width)) after

-- what is kept of a log beside its operations stands for the log's state; the chunks that are pruned of it end by the
-- log's floor
pub record IsKept (setting : Setting) (key value : ℕ) (log : List Operation) (kept : Kept) : Type 0 where
  pub leaves : kept.operations.leaves ≡ length log
  pub behind : 8 * setting.width * kept.bits.pruned ≤ last_floor log
  pub stands : StandsFor setting (state_of_log key value log) kept

-- what is kept of a history's log, and where the updates stand that give keys their values
pub record IsPlaced (setting : Setting) (key value : ℕ) (log : List Operation) (places : Map) (kept : Kept)
    : Type 0 where
  pub states : AreStates (history_of log)
  pub whole : log ≡ log_of (history_of log)
  pub stand : places ≡ places_of log
  pub current : IsKept setting key value log kept

-- what a ledger keeps of a history: its log, the number of commits, and what is kept of the log
pub record IsLedger (setting : Setting) (key value : ℕ) (log : List Operation) (count : ℕ) (kept : Kept) : Type 0 where
  pub states : AreStates (history_of log)
  pub whole : log ≡ log_of (history_of log)
  pub commits : count ≡ length (history_of log)
  pub few : length log ≤ 2 ^ 62
  pub current : IsKept setting key value log kept

-- the operations lead from the state that a log leads to to another one, as those of a batch do
pub record IsBatch (log operations : List Operation) : Type 0 where
  pub after : Map
  pub state : IsState after
  pub are : operations ≡ batch_operations (replayed [] log) after

-- The update that gives the key its value in the latest state stands at this place of the history's log.
pub record HasValueAt (key : List ℕ) (history : History) (index : ℕ) : Type 0 where
  pub value : List ℕ
  pub next : List ℕ
  pub stands : slice_get (log_of history) index ≡ Some (update (ordered key value next))
  pub is : value_at (latest_map history) key ≡ Some value

-- how many of the operations are commits
abbrev pub commit_count : List Operation → ℕ
commit_count [] = 0
commit_count (operation ∷ later) = if is_commit operation then commit_count later + 1 else commit_count later

-- each of the operations whose floor fits is read again as it was written
abbrev pub AreWritten : Format → List Operation → Type 0
AreWritten format [] = ⊤
AreWritten format (operation ∷ later) = (FloorFits operation → IsRecorded format operation) × AreWritten format later

-- This is what a ledger keeps of a log, whose operations are read again as they were written.
pub record IsLedgerOf (setting : Setting) (format : Format) (log : List Operation) (ledger : LedgerState) : Type 0 where
  pub keeps : IsLedger setting format.key_size format.value_size log ledger.commits ledger.kept
  pub written : AreWritten format log
  pub places : ledger.places ≡ places_of log
