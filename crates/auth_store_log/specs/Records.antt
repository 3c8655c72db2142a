-- The records of a log: operations of one size, one after the other without a gap; and where the last commit among them
-- ends.
use Rattle.std.specs.Prelude.{◌≡◌, ℕ, zero, suc, ◌*◌, ◌/◌, ◌^◌, ◌≤◌, ⊤, Bool, false, if◌then◌else◌, List, [], ◌∷◌}
use Rattle.std.specs.Prelude.{length, take, drop, Ok, Err}
use Rattle.std.specs.List.{flat_map, list_any}
use Rattle.merkle_forest.specs.Codec.{Outcome}
use Rattle.state_ops_parts.specs.Grammar.{Found}
use Rattle.state_ops.specs.Operation.{Operation, delete, update, commit_floor, fixed_size, fixed_encoding}
use Rattle.state_ops.specs.Reading.{IsField, IsOfFields, operation_at}
use Rattle.auth_store_parts.specs.History.{History, log_of, is_commit}
use Rattle.paged_format.specs.Pages.{recovered}

-- how keys and values are read, and how many bytes they have
pub record Format : Type 0 where
  pub key : List ℕ → Outcome
  pub value : List ℕ → Outcome
  pub key_size : ℕ
  pub value_size : ℕ

abbrev pub format_of : (List ℕ → Outcome) → (List ℕ → Outcome) → ℕ → ℕ → Format
format_of key value key_size value_size = record {
  key = key;
  value = value;
  key_size = key_size;
  value_size = value_size;
}

-- how many bytes a record has
abbrev pub record_size : Format → ℕ
record_size format = fixed_size format.key_size format.value_size

-- the bytes of an operation
abbrev pub record_of : Format → Operation → List ℕ
record_of format operation = fixed_encoding format.key_size format.value_size operation

-- the operation at the front of some bytes, or why there is none
abbrev pub operation_in : Format → List ℕ → Found Operation
operation_in format bytes = operation_at format.key format.value format.key_size format.value_size bytes

-- whether a commit was found
abbrev pub is_commit_found : Found Operation → Bool
is_commit_found (Ok found) = is_commit found.0
is_commit_found (Err e) = false

-- whether a record is a commit; one that is no operation is none
unfoldable pub is_commit_record : Format → List ℕ → Bool
is_commit_record format bytes = is_commit_found (operation_in format bytes)

-- so many pieces of so many bytes each, one behind the other
abbrev pub pieces : ℕ → ℕ → List ℕ → List (List ℕ)
pieces size zero bytes = []
pieces size (suc count) bytes = take size bytes ∷ pieces size count (drop size bytes)

-- the whole records of some bytes
unfoldable pub whole_records : Format → List ℕ → List (List ℕ)
whole_records format bytes = pieces (record_size format) (length bytes / record_size format) bytes

-- how many elements there are up to the last one that passes, that one too
abbrev pub up_to_last : {A : Type 0} → (A → Bool) → List A → ℕ
up_to_last passes [] = 0
up_to_last passes (x ∷ xs) = if list_any passes (x ∷ xs) then suc (up_to_last passes xs) else 0

-- some bytes up to the end of the last of their whole records that is a commit: nothing where none is
unfoldable pub committed : Format → List ℕ → List ℕ
committed format bytes =
    take (up_to_last (is_commit_record format) (whole_records format bytes) * record_size format) bytes

-- what of a file of pages of so many bytes is recovered of a log
abbrev pub recovered_log : Format → (List ℕ → ℕ) → ℕ → List ℕ → List ℕ
recovered_log format sum size file = committed format (recovered sum size file)

-- the bytes of operations, from the sizes of keys and of values
abbrev pub log_bytes : ℕ → ℕ → List Operation → List ℕ
log_bytes key value log = flat_map (fixed_encoding key value) log

-- the bytes of the log of a history
abbrev pub history_bytes : Format → History → List ℕ
history_bytes format history = log_bytes format.key_size format.value_size (log_of history)

-- an operation of keys and values that its record is read as again
pub record IsRecorded (format : Format) (operation : Operation) : Type 0 where
  pub sized : length (record_of format operation) ≡ record_size format
  pub again : operation_in format (record_of format operation) ≡ Ok (operation, [])
  pub fields : IsOfFields (IsField format.key format.key_size) (IsField format.value format.value_size) operation

-- so is each of these
abbrev pub AreRecorded : Format → List Operation → Type 0
AreRecorded format [] = ⊤
AreRecorded format (operation ∷ operations) = IsRecorded format operation × AreRecorded format operations

-- no log has these bytes
abbrev pub IsNoLog : Format → List ℕ → Type 0
IsNoLog format bytes =
    (log : List Operation) → AreRecorded format log → log_bytes format.key_size format.value_size log ≡ bytes → ⊥

-- the floor of a commit is at most the greatest number of operations
abbrev pub FloorFits : Operation → Type 0
FloorFits (delete key) = ⊤
FloorFits (update fields) = ⊤
FloorFits (commit_floor metadata floor) = floor ≤ 2 ^ 62

-- so is that of each of these
abbrev pub FloorsFit : List Operation → Type 0
FloorsFit [] = ⊤
FloorsFit (operation ∷ operations) = FloorFits operation × FloorsFit operations

-- what an opening makes of the bytes of a log: they stay, and where there are none the log begins
abbrev pub begun : Format → List ℕ → List ℕ
begun format [] = history_bytes format []
begun format (byte ∷ log) = byte ∷ log
