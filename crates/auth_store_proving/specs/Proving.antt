-- What a store answers where it is asked for a proof, and when the client accepts what it answers of a key.
use Rattle.std.specs.Prelude.{◌≡◌, ℕ, ◌-◌, ◌*◌, nat_le, nat_lt, Bool, false, if◌then◌else◌, List, length, take, drop}
use Rattle.std.specs.Prelude.{slice_get, slice_index_or, Option, None, Some, IfSome, option_map, Result, Ok, Err}
use Rattle.state_theory.specs.Canonical.{Setting}
use Rattle.auth_store_parts.specs.Map.{next_key, value_at}
use Rattle.auth_store_parts.specs.History.{History, active_location, active_update, activity_bits, latest_map, log_of}
use Rattle.state_ops.specs.Operation.{Operation}
use Rattle.auth_store_client.specs.Claims.{Terms, Shows, has_value, is_absent, is_active, has_range, has_slice}
use Rattle.auth_store_client.specs.Proving.{honest_proof, honest_operation, honest_range_bytes, honest_slice_bytes}
use Rattle.auth_store_client.specs.States.{state_of_log}
use Rattle.state_theory.specs.Honest.{key_value_proof}
use Rattle.auth_store_client.specs.Absence.{NamesFields, honest_absence, honest_absence_parts}
use Rattle.auth_store_proving.specs.declared.error.ProofError.{ProofError}
use Rattle.auth_store_proving.specs.declared.error.ProofError.TheVariants.{Unprovable as NoProof, Memory, Log}
use Rattle.auth_store_proving.specs.declared.error.Unprovable.{Unprovable}
use Rattle.auth_store_proving.specs.declared.error.Unprovable.TheVariants.{EmptyRange, OutOfRange, Pruned, Inactive}

-- a key's value with the bytes that prove it, or the bytes that prove that it is absent
pub data KeyAnswer : Type 0 where
  proved_value : List ℕ → List ℕ → KeyAnswer
  proved_absent : List ℕ → KeyAnswer

-- The honest answer where the latest state has this value of the key, or none: the proof of its active update, or that
-- it is absent. A family encodes its pending digest by `pending`; keys and values have these sizes.
abbrev pub answer_where : (Option (List ℕ) → List ℕ) → Setting → ℕ → ℕ → History → List ℕ → Option (List ℕ) → KeyAnswer
answer_where pending setting key_size value_size history key (Some value) =
    proved_value value (honest_proof pending setting key_size value_size history key)
answer_where pending setting key_size value_size history key None =
    proved_absent (honest_absence pending setting key_size value_size history key)

-- so of the latest state of a history
abbrev pub honest_answer : (Option (List ℕ) → List ℕ) → Setting → ℕ → ℕ → History → List ℕ → KeyAnswer
honest_answer pending setting key_size value_size history key =
    answer_where pending setting key_size value_size history key (value_at (latest_map history) key)

-- what the honest answer names are keys and values: the next key where the key has a value, and what the proof that it
-- is absent names where it has none
abbrev pub NamesRead : (List ℕ → Type 0) → (List ℕ → Type 0) → Setting → ℕ → ℕ → History → List ℕ → Option (List ℕ)
    → Type 0
NamesRead IsKey IsValue setting key_size value_size history key (Some value) = IsKey (next_key (latest_map history) key)
NamesRead IsKey IsValue setting key_size value_size history key None =
    NamesFields IsKey IsValue (honest_absence_parts setting key_size value_size history key)

-- The answer of a key is the honest one, and names keys and values.
pub record IsHonestAnswer (IsKey IsValue : List ℕ → Type 0) (pending : Option (List ℕ) → List ℕ) (setting : Setting)
    (key_size value_size : ℕ) (history : History) (key : List ℕ) (answer : KeyAnswer) : Type 0 where
  pub is : answer ≡ honest_answer pending setting key_size value_size history key
  pub names : NamesRead IsKey IsValue setting key_size value_size history key (value_at (latest_map history) key)

-- The bytes are the honest proof that a key is absent, and name keys and values.
pub record IsHonestAbsence (IsKey IsValue : List ℕ → Type 0) (pending : Option (List ℕ) → List ℕ) (setting : Setting)
    (key_size value_size : ℕ) (history : History) (key bytes : List ℕ) : Type 0 where
  pub is : bytes ≡ honest_absence pending setting key_size value_size history key
  pub names : NamesFields IsKey IsValue (honest_absence_parts setting key_size value_size history key)

-- what the log's active update of a key gives it, with the honest bytes that prove the update
abbrev pub honest_update : (Option (List ℕ) → List ℕ) → Setting → ℕ → ℕ → List Operation → List ℕ
    → Option (List ℕ × List ℕ)
honest_update pending setting key_size value_size log key =
    option_map {U = List ℕ × List ℕ} (λ update. (
      update.0,
      key_value_proof pending setting (state_of_log key_size value_size log) (active_location key log) update.1,
    )) (active_update key log)

-- It is that update, whose next key is one, or none where there is none.
pub record IsHonestUpdate (IsKey : List ℕ → Type 0) (pending : Option (List ℕ) → List ℕ) (setting : Setting)
    (key_size value_size : ℕ) (log : List Operation) (key : List ℕ) (found : Option (List ℕ × List ℕ)) : Type 0 where
  pub next : IfSome found (λ _. IfSome (active_update key log) (λ update. IsKey update.1))
  pub is : found ≡ honest_update pending setting key_size value_size log key

-- the client accepts the answer under this root
abbrev pub IsAccepted : Terms → List ℕ → List ℕ → KeyAnswer → Type 0
IsAccepted terms root key (proved_value value bytes) = Shows terms (has_value key value) root bytes
IsAccepted terms root key (proved_absent bytes) = Shows terms (is_absent key) root bytes

-- ---- operations

-- an operation with the bytes that prove it active
pub record OperationAnswer : Type 0 where
  pub operation : Operation
  pub bytes : List ℕ

-- operations with their activity bits, and the bytes that prove both
pub record RangeAnswer : Type 0 where
  pub operations : List Operation
  pub active : List Bool
  pub bytes : List ℕ

-- operations with the bytes that prove that the log has them
pub record SliceAnswer : Type 0 where
  pub operations : List Operation
  pub bytes : List ℕ

-- the client accepts them under this root
abbrev pub IsAcceptedOperation : Terms → List ℕ → ℕ → OperationAnswer → Type 0
IsAcceptedOperation terms root location answer = Shows terms (is_active location answer.operation) root answer.bytes

abbrev pub IsAcceptedRange : Terms → List ℕ → ℕ → RangeAnswer → Type 0
IsAcceptedRange terms root start answer =
    Shows terms (has_range start answer.operations answer.active) root answer.bytes

abbrev pub IsAcceptedSlice : Terms → List ℕ → ℕ → SliceAnswer → Type 0
IsAcceptedSlice terms root start answer = Shows terms (has_slice start answer.operations) root answer.bytes

-- what stands in a list from one place up to another
abbrev pub between : {A : Type 0} → ℕ → ℕ → List A → List A
between start stop list = take (stop - start) (drop start list)

-- whether a location stands before so many chunks
abbrev pub is_before_chunks : Setting → ℕ → ℕ → Bool
is_before_chunks setting chunks location = nat_lt location (8 * setting.width * chunks)

-- The answer where this operation stands at the location, or none, and so many chunks are pruned.
abbrev pub answer_of_found : (Option (List ℕ) → List ℕ) → Setting → ℕ → ℕ → History → ℕ → ℕ → Option Operation
    → Result OperationAnswer Unprovable
answer_of_found pending setting key_size value_size history pruned location None = Err OutOfRange
answer_of_found pending setting key_size value_size history pruned location (Some operation) =
    if is_before_chunks setting pruned location then Err Pruned
    else if slice_index_or (activity_bits (log_of history)) location false then Ok (record {
      operation = operation;
      bytes = honest_operation pending setting key_size value_size history location;
    })
    else Err Inactive

-- The operation at a location of the log with its honest proof: past the log it is refused, then where its chunk is
-- pruned, then where the operation is not active.
abbrev pub answer_of_operation : (Option (List ℕ) → List ℕ) → Setting → ℕ → ℕ → History → ℕ → ℕ
    → Result OperationAnswer Unprovable
answer_of_operation pending setting key_size value_size history pruned location =
    answer_of_found pending setting key_size value_size history pruned location (slice_get (log_of history) location)

-- Why the operations from `start` up to `stop` are not proved: there are none, the log does not have them all, or so
-- many pruned chunks are over the first.
abbrev pub range_refusal : Setting → History → ℕ → ℕ → ℕ → Option Unprovable
range_refusal setting history pruned start stop =
    if nat_le stop start then Some EmptyRange
    else if nat_lt (length (log_of history)) stop then Some OutOfRange
    else if is_before_chunks setting pruned start then Some Pruned
    else None

-- this, or the refusal that there is
abbrev pub unless_refused : {A : Type 0} → Option Unprovable → A → Result A Unprovable
unless_refused None answer = Ok answer
unless_refused (Some error) answer = Err error

-- the operations from `start` up to `stop` with their activity bits and their honest proof
abbrev pub range_answer : (Option (List ℕ) → List ℕ) → Setting → ℕ → ℕ → History → ℕ → ℕ → RangeAnswer
range_answer pending setting key_size value_size history start stop = record {
  operations = between start stop (log_of history);
  active = between start stop (activity_bits (log_of history));
  bytes = honest_range_bytes pending setting key_size value_size history start stop;
}

-- it, or why there is none
abbrev pub answer_of_range : (Option (List ℕ) → List ℕ) → Setting → ℕ → ℕ → History → ℕ → ℕ → ℕ
    → Result RangeAnswer Unprovable
answer_of_range pending setting key_size value_size history pruned start stop =
    unless_refused (range_refusal setting history pruned start stop)
    (range_answer pending setting key_size value_size history start stop)

-- those operations with the honest proof that the log has them
abbrev pub slice_answer : (Option (List ℕ) → List ℕ) → Setting → ℕ → ℕ → History → ℕ → ℕ → SliceAnswer
slice_answer pending setting key_size value_size history start stop = record {
  operations = between start stop (log_of history);
  bytes = honest_slice_bytes pending setting key_size value_size history start stop;
}

-- it, or why there is none
abbrev pub answer_of_slice : (Option (List ℕ) → List ℕ) → Setting → ℕ → ℕ → History → ℕ → ℕ → ℕ
    → Result SliceAnswer Unprovable
answer_of_slice pending setting key_size value_size history pruned start stop =
    unless_refused (range_refusal setting history pruned start stop)
    (slice_answer pending setting key_size value_size history start stop)

-- why there is no proof where this is the answer: it is that refusal, or memory was lacking, where no read was refused;
-- or the log refused a read, of which this holds then
abbrev pub IsUnproved : {A E : Type 0} → Type 0 → (E → Type 0) → Result A Unprovable → ProofError E → Type 0
IsUnproved unrefused refused answer (NoProof why) = unrefused × (answer ≡ Err why)
IsUnproved unrefused refused answer Memory = unrefused
IsUnproved unrefused refused answer (Log e) = refused e
