-- Histories, the logs that stand for them, and which operations of a log are active.
use Rattle.std.specs.Prelude.{◌≡◌, ℕ, ◌+◌, Bool, true, false, T, not, ◌&&◌, if◌then◌else◌, List, [], ◌∷◌, ◌++◌, map}
use Rattle.std.specs.Prelude.{Option, None, Some, is_some, slice_get}
use Rattle.std.specs.Str.{bytes_eq}
use Rattle.std.specs.FinMap.{is_sorted}
use Rattle.std.specs.Ordering.{is_eq}
use Rattle.std.specs.List.{flat_map, list_any}
use Rattle.state_ops.specs.Operation.{Operation, delete, update, ordered, commit_floor, Code, meaning_of}
use Rattle.auth_store_parts.specs.Map.{Map, key_order, value_at, next_key, with_entry, without_key}

-- one commit: the state after it and its metadata
pub record Commit : Type 0 where
  pub map : Map
  pub metadata : Option (List ℕ)

-- the commits, the newest first
abbrev pub History : Type 0
History = List Commit

-- the state after the newest commit
abbrev pub latest_map : History → Map
latest_map [] = []
latest_map (commit ∷ history) = commit.map

-- what operations of the code say, given how their keys and their values are encoded
abbrev pub meanings : {F K V A B C D E G H : Type 0} → (K → List ℕ) → (V → List ℕ)
    → List (Code F K V A B C D E G H) → List Operation
meanings key value operations = map (meaning_of key value) operations

-- whether an optional value is this one
abbrev pub is_value : Option (List ℕ) → List ℕ → Bool
is_value None value = false
is_value (Some other) value = bytes_eq other value

-- a delete of a key that the new state lacks
abbrev pub delete_of : Map → List ℕ → List Operation
delete_of new key = if is_some (value_at new key) then [] else (delete key ∷ [])

-- a delete for each of these entries whose key the new state lacks
abbrev pub deletes : Map → Map → List Operation
deletes entries new = flat_map (λ e. delete_of new e.0) entries

-- whether a state has the key with this value and this next key
abbrev pub has_fields : Map → List ℕ → List ℕ → List ℕ → Bool
has_fields state key value next = is_value (value_at state key) value && bytes_eq (next_key state key) next

-- whether the old state has the key with the same value and the same next key
abbrev pub is_kept : Map → Map → List ℕ → List ℕ → Bool
is_kept old new key value = has_fields old key value (next_key new key)

-- an update of a key to this value and this next key, where the old state does not have it so
abbrev pub update_to : Map → List ℕ → List ℕ → List ℕ → List Operation
update_to old key value next = if has_fields old key value next then [] else (update (ordered key value next) ∷ [])

-- an update of a key that isn't kept
abbrev pub update_of : Map → Map → List ℕ → List ℕ → List Operation
update_of old new key value = update_to old key value (next_key new key)

-- an update for each of these entries of the new state that isn't kept
abbrev pub updates : Map → Map → Map → List Operation
updates entries old new = flat_map (λ e. update_of old new e.0 e.1) entries

-- the operations that lead from the old state to the new one, without the commit
abbrev pub batch_operations : Map → Map → List Operation
batch_operations old new = deletes old new ++ updates new old new

-- whether the operation is about the key
abbrev pub has_key : List ℕ → Operation → Bool
has_key key (delete k) = is_eq (key_order key k)
has_key key (update (ordered k value next)) = is_eq (key_order key k)
has_key key (commit_floor metadata floor) = false

-- whether the operation is a commit
abbrev pub is_commit : Operation → Bool
is_commit (delete k) = false
is_commit (update (ordered k value next)) = false
is_commit (commit_floor metadata floor) = true

-- whether the operation still counts: an update whose key no later one has, or the last commit
abbrev pub is_active : Operation → List Operation → Bool
is_active (delete k) later = false
is_active (update (ordered k value next)) later = not (list_any (has_key k) later)
is_active (commit_floor metadata floor) later = not (list_any is_commit later)

-- whether the operation is the one that counts for the key
abbrev pub is_active_on : List ℕ → Operation → List Operation → Bool
is_active_on key operation later = has_key key operation && is_active operation later

-- a bit for each operation: whether it is active
abbrev pub activity_bits : List Operation → List Bool
activity_bits [] = []
activity_bits (operation ∷ later) = is_active operation later ∷ activity_bits later

-- whether the operation is an active update
abbrev pub is_active_update : Operation → List Operation → Bool
is_active_update operation later = not (is_commit operation) && is_active operation later

-- the location of the first active update, or the number of operations where there is none, which is the location of
-- the commit that follows
abbrev pub inactivity_floor : List Operation → ℕ
inactivity_floor [] = 0
inactivity_floor (operation ∷ later) = if is_active_update operation later then 0 else inactivity_floor later + 1

-- operations with a commit at their end, which records the floor of the log with them
abbrev pub with_commit : List Operation → List Operation → Option (List ℕ) → List Operation
with_commit log changes metadata = changes ++ commit_floor metadata (inactivity_floor (log ++ changes)) ∷ []

-- The rule of logs: what is appended to a log that led to the old state where a commit leads to the new one with this
-- metadata.
abbrev pub appended : List Operation → Map → Map → Option (List ℕ) → List Operation
appended log old new metadata = with_commit log (batch_operations old new) metadata

-- the log of a history: it begins with a commit of nothing
abbrev pub log_of : History → List Operation
log_of [] = commit_floor None 0 ∷ []
log_of (commit ∷ history) = log_of history ++ appended (log_of history) (latest_map history) commit.map commit.metadata

-- the floor that the last commit of a log records, or this one where it has none
abbrev pub floor_after : ℕ → List Operation → ℕ
floor_after floor [] = floor
floor_after floor (delete key ∷ operations) = floor_after floor operations
floor_after floor (update (ordered key value next) ∷ operations) = floor_after floor operations
floor_after floor (commit_floor metadata recorded ∷ operations) = floor_after recorded operations

-- the floor that the last commit of a log records
abbrev pub last_floor : List Operation → ℕ
last_floor log = floor_after 0 log

-- the location of the active update of a key, or the number of operations where there is none
abbrev pub active_location : List ℕ → List Operation → ℕ
active_location key [] = 0
active_location key (operation ∷ later) = if is_active_on key operation later then 0 else active_location key later + 1

-- the value and the next key that an update names
abbrev pub update_fields : Option Operation → Option (List ℕ × List ℕ)
update_fields None = None
update_fields (Some (delete key)) = None
update_fields (Some (update (ordered key value next))) = Some (value, next)
update_fields (Some (commit_floor metadata floor)) = None

-- the value and the next key that the active update of a key names
abbrev pub active_update : List ℕ → List Operation → Option (List ℕ × List ℕ)
active_update key log = update_fields (slice_get log (active_location key log))

-- the state after an operation
abbrev pub after_operation : Operation → Map → Map
after_operation (delete key) state = without_key state key
after_operation (update (ordered key value next)) state = with_entry state key value
after_operation (commit_floor metadata floor) state = state

-- the state after all operations, one after the other
abbrev pub replayed : Map → List Operation → Map
replayed state [] = state
replayed state (operation ∷ operations) = replayed (after_operation operation state) operations

-- the history with the commits of these operations, the first of which meets this state
abbrev pub history_from : Map → History → List Operation → History
history_from state history [] = history
history_from state history (delete key ∷ operations) = history_from (without_key state key) history operations
history_from state history (update (ordered key value next) ∷ operations) =
    history_from (with_entry state key value) history
    operations
history_from state history (commit_floor metadata floor ∷ operations) = history_from state
    (record { map = state; metadata = metadata } ∷ history) operations

-- the history that a log stands for: its first operation is no commit of the history
abbrev pub history_of : List Operation → History
history_of [] = []
history_of (operation ∷ operations) = history_from [] [] operations

-- the keys ascend strictly
abbrev pub IsState : Map → Type 0
IsState state = T (is_sorted key_order state)

-- each commit has a state
abbrev pub AreStates : History → Type 0
AreStates [] = Unit {0}
AreStates (commit ∷ history) = IsState commit.map × AreStates history

-- this update of a key stands at the key's location in the log, and is active there: these are its value and its next
-- key
pub record StandsAt (key : List ℕ) (log : List Operation) (fields : List ℕ × List ℕ) : Type 0 where
  pub update_at : slice_get log (active_location key log) ≡ Some (update (ordered key fields.0 fields.1))
  pub bit_at : slice_get (activity_bits log) (active_location key log) ≡ Some true
