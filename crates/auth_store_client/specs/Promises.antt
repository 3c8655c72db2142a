-- What the laws of claims promise, of a setting and the terms of its proofs, for each history: that its honest bytes
-- show what is true, and that what is shown under its root is true and shown by its honest bytes, or strings collide.
use Rattle.std.specs.Prelude.{◌≡◌, ◌<◌, ◌≤◌, ◌+◌, ◌-◌, ◌^◌, ℕ, Bool, true, List, [], length, take, drop, slice_get}
use Rattle.std.specs.Prelude.{None, Some}
use Rattle.std.specs.List.{AllByRecursion}
use Rattle.merkle_forest.specs.Codec.{Outcome}
use Rattle.state_ops.specs.Operation.{Operation}
use Rattle.state_theory.specs.Canonical.{Setting}
use Rattle.auth_store_parts.specs.History.{History, AreStates, activity_bits, latest_map, log_of}
use Rattle.auth_store_parts.specs.Map.{next_key, value_at}
use Rattle.auth_store_client.specs.Absence.{NamesFields, honest_absence, honest_absence_parts}
use Rattle.auth_store_client.specs.Claims.{Claim, ClaimsFields, Shows, Terms, has_value, is_absent, is_active}
use Rattle.auth_store_client.specs.Claims.{has_range, has_slice}
use Rattle.auth_store_client.specs.Fields.{IsSound}
use Rattle.auth_store_client.specs.HonestBytes.{honest_bytes}
use Rattle.auth_store_client.specs.Proving.{honest_proof, honest_operation, honest_range_bytes, honest_slice_bytes}
use Rattle.auth_store_client.specs.Soundness.{HasSizes, IsAlone, AreReadAgain, AreOrCollide, IsTrueOrCollides}
use Rattle.auth_store_client.specs.Soundness.{rebuilt_strings}
use Rattle.auth_store_client.specs.States.{IsChunkWidth, root_of_history}

-- the root of a history whose keys and values have the sizes of the terms
abbrev pub root_in : Setting → Terms → History → List ℕ
root_in setting terms history = root_of_history setting terms.key_size terms.value_size history

-- the log has at most as many operations as a tree may have leaves
abbrev pub FitsTree : History → Type 0
FitsTree history = length (log_of history) ≤ 2 ^ 62

-- the operations of the log from one location to another
abbrev pub operations_between : History → ℕ → ℕ → List Operation
operations_between history start stop = take (stop - start) (drop start (log_of history))

-- their activity bits
abbrev pub active_between : History → ℕ → ℕ → List Bool
active_between history start stop = take (stop - start) (drop start (activity_bits (log_of history)))

-- ---- the honest bytes of what is true show it

abbrev pub TrueValuesAreShown : Setting → Terms → Type 0
TrueValuesAreShown setting terms = (history : History) (key value : List ℕ) → IsChunkWidth setting.width
    → AreStates history → FitsTree history → value_at (latest_map history) key ≡ Some value
    → terms.IsKey (next_key (latest_map history) key)
    → Shows terms (has_value key value) (root_in setting terms history)
    (honest_proof terms.format.pending setting terms.key_size terms.value_size history key)

abbrev pub AbsencesAreShown : Setting → Terms → Type 0
AbsencesAreShown setting terms = (history : History) (key : List ℕ) → IsChunkWidth setting.width
    → AreStates history → FitsTree history → value_at (latest_map history) key ≡ None
    → NamesFields terms.IsKey terms.IsValue
    (honest_absence_parts setting terms.key_size terms.value_size history key)
    → Shows terms (is_absent key) (root_in setting terms history)
    (honest_absence terms.format.pending setting terms.key_size terms.value_size history key)

abbrev pub ActiveOperationsAreShown : Setting → Terms → Type 0
ActiveOperationsAreShown setting terms = (history : History) (location : ℕ) (operation : Operation)
    → IsChunkWidth setting.width → FitsTree history → slice_get (log_of history) location ≡ Some operation
    → slice_get (activity_bits (log_of history)) location ≡ Some true
    → Shows terms (is_active location operation) (root_in setting terms history)
    (honest_operation terms.format.pending setting terms.key_size terms.value_size history location)

abbrev pub RangesAreShown : Setting → Terms → Type 0
RangesAreShown setting terms = (history : History) (start stop : ℕ) → IsChunkWidth setting.width → FitsTree history
    → start < stop → stop ≤ length (log_of history)
    → Shows terms (has_range start (operations_between history start stop) (active_between history start stop))
    (root_in setting terms history)
    (honest_range_bytes terms.format.pending setting terms.key_size terms.value_size history start stop)

abbrev pub SlicesAreShown : Setting → Terms → Type 0
SlicesAreShown setting terms = (history : History) (start stop : ℕ) → IsChunkWidth setting.width → FitsTree history
    → start < stop → stop ≤ length (log_of history)
    → Shows terms (has_slice start (operations_between history start stop)) (root_in setting terms history)
    (honest_slice_bytes terms.format.pending setting terms.key_size terms.value_size history start stop)

-- ---- what is shown is true, or strings collide

-- this claim, where it is shown under the root of the history, with digests of 32 bytes
abbrev pub IsTrueWhereShown : Setting → Terms → Claim → History → List ℕ → Type 0
IsTrueWhereShown setting terms claim history bytes = (shown : Shows terms claim (root_in setting terms history) bytes)
    → IsTrueOrCollides setting terms claim history (root_in setting terms history) bytes shown

abbrev pub ShownValuesAreTrue : Setting → Terms → Type 0
ShownValuesAreTrue setting terms = (history : History) (key value bytes : List ℕ) → terms.format.size ≡ 32
    → IsChunkWidth setting.width → AreStates history → HasSizes terms.key_size terms.value_size history
    → FitsTree history → length key ≡ terms.key_size → length value ≡ terms.value_size
    → IsTrueWhereShown setting terms (has_value key value) history bytes

-- where the operations of the history are read again by the grammars of keys and of values
abbrev pub ShownAbsencesAreTrue : Setting → Terms → (List ℕ → Outcome) → (List ℕ → Outcome) → Type 0
ShownAbsencesAreTrue setting terms key_at value_at = (history : History) (key bytes : List ℕ) → terms.format.size ≡ 32
    → IsChunkWidth setting.width → AreStates history
    → AreReadAgain key_at value_at terms.key_size terms.value_size (log_of history) → FitsTree history
    → IsTrueWhereShown setting terms (is_absent key) history bytes

abbrev pub ShownOperationsAreActive : Setting → Terms → Type 0
ShownOperationsAreActive setting terms = (history : History) (location : ℕ) (operation : Operation) (bytes : List ℕ)
    → terms.format.size ≡ 32 → IsChunkWidth setting.width
    → IsAlone terms.key_size terms.value_size (log_of history) operation → FitsTree history
    → IsTrueWhereShown setting terms (is_active location operation) history bytes

abbrev pub ShownRangesAreTrue : Setting → Terms → Type 0
ShownRangesAreTrue setting terms =
    (history : History) (start : ℕ) (operations : List Operation) (active : List Bool) (bytes : List ℕ)
    → terms.format.size ≡ 32 → IsChunkWidth setting.width
    → AllByRecursion (IsAlone terms.key_size terms.value_size (log_of history)) operations → FitsTree history
    → IsTrueWhereShown setting terms (has_range start operations active) history bytes

abbrev pub ShownSlicesAreTrue : Setting → Terms → Type 0
ShownSlicesAreTrue setting terms =
    (history : History) (start : ℕ) (operations : List Operation) (bytes : List ℕ) → terms.format.size ≡ 32
    → AllByRecursion (IsAlone terms.key_size terms.value_size (log_of history)) operations → FitsTree history
    → IsTrueWhereShown setting terms (has_slice start operations) history bytes

-- a claim of keys and values, under the root of a history of such
abbrev pub ShownClaimsAreTrue : Setting → Terms → Type 0
ShownClaimsAreTrue setting terms = (claim : Claim) (history : History) (root bytes : List ℕ)
    → terms.format.size ≡ 32 → IsChunkWidth setting.width → ClaimsFields terms.IsKey terms.IsValue claim
    → IsSound terms.IsKey terms.IsValue history → root ≡ root_in setting terms history
    → (shown : Shows terms claim root bytes) → IsTrueOrCollides setting terms claim history root bytes shown

-- ---- what shows it are the honest bytes, or strings collide

-- these bytes of this claim, where they show it under the root of the history, are these honest ones
abbrev pub AreWhereShown : Setting → Terms → Claim → History → List ℕ → List ℕ → Type 0
AreWhereShown setting terms claim history honest bytes =
    (shown : Shows terms claim (root_in setting terms history) bytes)
    → AreOrCollide setting terms claim history honest (root_in setting terms history) bytes shown

abbrev pub ShownValuesAreHonest : Setting → Terms → Type 0
ShownValuesAreHonest setting terms = (history : History) (key value bytes : List ℕ) → terms.format.size ≡ 32
    → IsChunkWidth setting.width → IsSound terms.IsKey terms.IsValue history
    → length key ≡ terms.key_size → length value ≡ terms.value_size
    → AreWhereShown setting terms (has_value key value) history
    (honest_proof terms.format.pending setting terms.key_size terms.value_size history key) bytes

abbrev pub ShownAbsencesAreHonest : Setting → Terms → Type 0
ShownAbsencesAreHonest setting terms = (history : History) (key bytes : List ℕ) → terms.format.size ≡ 32
    → IsChunkWidth setting.width → IsSound terms.IsKey terms.IsValue history
    → AreWhereShown setting terms (is_absent key) history
    (honest_absence terms.format.pending setting terms.key_size terms.value_size history key) bytes

abbrev pub ShownOperationsAreHonest : Setting → Terms → Type 0
ShownOperationsAreHonest setting terms = (history : History) (location : ℕ) (operation : Operation) (bytes : List ℕ)
    → terms.format.size ≡ 32 → IsChunkWidth setting.width → FitsTree history
    → AreWhereShown setting terms (is_active location operation) history
    (honest_operation terms.format.pending setting terms.key_size terms.value_size history location) bytes

abbrev pub ShownRangesAreHonest : Setting → Terms → Type 0
ShownRangesAreHonest setting terms =
    (history : History) (start : ℕ) (operations : List Operation) (active : List Bool) (bytes : List ℕ)
    → terms.format.size ≡ 32 → IsChunkWidth setting.width → FitsTree history
    → AreWhereShown setting terms (has_range start operations active) history
    (honest_range_bytes terms.format.pending setting terms.key_size terms.value_size history start
    (start + length operations)) bytes

abbrev pub ShownSlicesAreHonest : Setting → Terms → Type 0
ShownSlicesAreHonest setting terms =
    (history : History) (start : ℕ) (operations : List Operation) (bytes : List ℕ) → terms.format.size ≡ 32
    → FitsTree history
    → AreWhereShown setting terms (has_slice start operations) history
    (honest_slice_bytes terms.format.pending setting terms.key_size terms.value_size history start
    (start + length operations)) bytes

-- a claim of keys and values, under the root of a history of such
abbrev pub ShownClaimsAreHonest : Setting → Terms → Type 0
ShownClaimsAreHonest setting terms = (claim : Claim) (history : History) (root bytes : List ℕ)
    → terms.format.size ≡ 32 → IsChunkWidth setting.width → ClaimsFields terms.IsKey terms.IsValue claim
    → IsSound terms.IsKey terms.IsValue history → root ≡ root_in setting terms history
    → (shown : Shows terms claim root bytes) → AreOrCollide setting terms claim history
    (honest_bytes terms.format.pending setting terms.key_size terms.value_size history claim) root bytes shown

-- ---- what is rebuilt follows from the bytes and the claim

-- under two roots the same strings are rebuilt
abbrev pub RebuildsTheSame : Setting → Terms → Claim → List ℕ → List ℕ → List ℕ → Type 0
RebuildsTheSame setting terms claim root other bytes =
    (shown : Shows terms claim root bytes) (again : Shows terms claim other bytes)
    → rebuilt_strings setting terms claim root bytes shown ≡ rebuilt_strings setting terms claim other bytes again
