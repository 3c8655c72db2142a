-- What follows from the operations of a log: its commits, and where the value of a key stands.
use Rattle.std.proofs.Common.{◌≡◌, ℕ, ◌+◌, ◌<◌, ◌≤◌, List, [], ◌∷◌, Option, None, Some, true, option_map, slice_get}
use Rattle.std.proofs.Common.{length, length-append, subst, map, take, drop, ◌-◌, refl, ap, sym, ◌∙◌, arith}
use Rattle.std.specs.Prelude.{unwrap_or}
use Rattle.std.proofs.Math.Seq.{take-length}
use Rattle.std.proofs.lemmas.Option.{slice_get_past}
use Rattle.state_ops.specs.Operation.{Operation, delete, update, ordered, commit_floor}
use Rattle.auth_store_ledger.specs.Map.{Map, value_at, next_key, with_entry, without_key}
use Rattle.auth_store_ledger.specs.History.{History, AreStates, IsState, activity_bits, inactivity_floor, last_floor}
use Rattle.auth_store_ledger.specs.History.{latest_map, log_of, history_of, history_from, active_location}
use Rattle.auth_store_ledger.specs.History.{active_update, replayed, update_fields}
use Rattle.auth_store_ledger.specs.Store.{commit_count, HasValueAt}
use Rattle.auth_store_parts.specs.Laws.Lookups.{IsState-with_entry, IsState-without_key}
use Rattle.auth_store_parts.specs.Laws.Actives.{active_stands}
use Rattle.auth_store_parts.specs.Laws.Floors.{floor_within}
use Rattle.auth_store_parts.specs.Laws.Actives.{active_update-log_of}
use Rattle.auth_store_parts.specs.Laws.Logs.{replayed-log_of}
use Rattle.auth_store_parts.specs.Laws.Places.{active_where_located, place_missing}
use Rattle.auth_store_parts.specs.Places.{places_of}
use Rattle.auth_store_index.specs.Readings.{value_read}
use Rattle.auth_store_index.specs.Laws.Readings.{value_at-replayed}
use Rattle.auth_store_index.specs.Laws.Floors.{active_in_log_of, ends-log_of, last_floor-committed}

-- a history has a commit for each of the operations that is one
pub length-history_from : (state : Map) (history : History) (operations : List Operation)
    → length (history_from state history operations) ≡ length history + commit_count operations
length-history_from state history [] = omega arith
length-history_from state history (delete key ∷ later) = length-history_from (without_key state key) history later
length-history_from state history (update (ordered key value next) ∷ later) =
    length-history_from (with_entry state key value) history later
length-history_from state history (commit_floor metadata floor ∷ later) =
    let more = length-history_from state (record { map = state; metadata = metadata } ∷ history) later in
    omega (arith, more)

-- the states of a history that operations stand for are states
pub AreStates-history_from : (state : Map) (history : History) (operations : List Operation) → IsState state
    → AreStates history → AreStates (history_from state history operations)
AreStates-history_from state history [] is are = are
AreStates-history_from state history (delete key ∷ later) is are =
    AreStates-history_from (without_key state key) history later (IsState-without_key state key is) are
AreStates-history_from state history (update (ordered key value next) ∷ later) is are =
    AreStates-history_from (with_entry state key value) history later (IsState-with_entry state key value is) are
AreStates-history_from state history (commit_floor metadata floor ∷ later) is are =
    AreStates-history_from state (record { map = state; metadata = metadata } ∷ history) later is (is, are)

pub AreStates-history_of : (operations : List Operation) → AreStates (history_of operations)
AreStates-history_of [] = tt
AreStates-history_of (operation ∷ later) = AreStates-history_from [] [] later tt tt

-- the active update of a key stands where its value is found
pub located : (key : List ℕ) (log : List Operation) (fields : List ℕ × List ℕ) → AreStates (history_of log)
    → log ≡ log_of (history_of log) → active_update key log ≡ Some fields
    → HasValueAt key (history_of log) (active_location key log)
located key log fields states whole is =
    let history = history_of log in
    let there : active_update key (log_of history) ≡ Some fields = ap (active_update key) (sym whole) ∙ is in
    let stands = active_stands key (log_of history) fields there in
    record {
      value = fields.0;
      next = fields.1;
      stands = ap (λ l. slice_get (log_of history) (active_location key l)) whole ∙ stands.update_at;
      is = has_fields (next_key (latest_map history) key) (value_at (latest_map history) key)
          (sym (active_update-log_of key history states) ∙ there);
    }
  where
    has_fields : (next : List ℕ) (at : Option (List ℕ))
        → option_map {U = List ℕ × List ℕ} (λ value. (value, next)) at ≡ Some fields → at ≡ Some fields.0
    has_fields next None e = absurd (cc)
    has_fields next (Some v) e = ap Some (ap (λ (o : Option (List ℕ × List ℕ)). (unwrap_or o (v, v)).0) e)

-- it stands at the floor that the log's last commit records, or behind it
pub active_behind : (key : List ℕ) (log : List Operation) (fields : List ℕ × List ℕ) → AreStates (history_of log)
    → log ≡ log_of (history_of log) → active_update key log ≡ Some fields → last_floor log ≤ active_location key log
active_behind key log fields states whole is =
    let at : ℕ = active_location key log in
    let there = located key log fields states whole is in
    let stands : slice_get log at ≡ Some (update (ordered key there.value there.next)) =
    ap (λ (l : List Operation). slice_get l at) whole ∙ there.stands in
    let bit : slice_get (activity_bits log) at ≡ Some true =
    active_where_located log at key there.value there.next stands refl in
    subst (λ (l : List Operation). last_floor l ≤ at) (sym whole)
    (active_in_log_of (history_of log) at
    (subst (λ (l : List Operation). slice_get (activity_bits l) at ≡ Some true) whole bit))

-- so does that commit, which ends the log
pub end_behind : (log : List Operation) → log ≡ log_of (history_of log) → last_floor log ≤ length log - 1
end_behind log whole =
    let end = ends-log_of (history_of log) in
    let is = whole ∙ end.whole in
    omega (
      arith,
      ap last_floor is,
      last_floor-committed end.front end.metadata,
      floor_within end.front,
      ap length is,
      length-append end.front (commit_floor end.metadata (inactivity_floor end.front) ∷ []),
    )

-- so there is one operation at least
pub has_end : (log : List Operation) → log ≡ log_of (history_of log) → 0 < length log
has_end log whole =
    let end = ends-log_of (history_of log) in
    omega (
      arith,
      ap length (whole ∙ end.whole),
      length-append end.front (commit_floor end.metadata (inactivity_floor end.front) ∷ []),
    )

-- where a key has no active update it has no value
pub unlocated : (key : List ℕ) (log : List Operation) → AreStates (history_of log) → log ≡ log_of (history_of log)
    → active_update key log ≡ None → value_at (latest_map (history_of log)) key ≡ None
unlocated key log states whole is =
    has_none (next_key (latest_map (history_of log)) key) (value_at (latest_map (history_of log)) key)
    (sym (active_update-log_of key (history_of log) states) ∙ (ap (active_update key) (sym whole) ∙ is))
  where
    has_none : (next : List ℕ) (at : Option (List ℕ))
        → option_map {U = List ℕ × List ℕ} (λ value. (value, next)) at ≡ None → at ≡ None
    has_none next None e = refl
    has_none next (Some v) e = absurd (cc)

-- the first operation is no commit of the history
pub counted : {X : Type 0} (f : X → Operation) (xs : List X) → 1 ≤ length xs
    → commit_count (map f (take (length xs - 1) (drop 1 xs))) ≡ length (history_of (map f xs))
counted f [] some = absurd (omega arith)
counted f (x ∷ xs) some =
    let count : length (x ∷ xs) - 1 ≡ length xs = omega arith in
    ap (λ n. commit_count (map f (take n xs))) count
    ∙ (ap (λ l. commit_count (map f l)) (take-length xs)
    ∙ omega (arith, length-history_from [] [] (map f xs)))

-- an update of a key stands at the place that is found of it
pub placed_entry : (key : List ℕ) (log : List Operation) (place : ℕ) → AreStates (history_of log)
    → log ≡ log_of (history_of log) → value_at (places_of log) key ≡ Some (place ∷ [])
    → active_update key log ≡ Some (value_read log (place ∷ []), next_key (latest_map (history_of log)) key)
placed_entry key log place states whole found =
    let history = history_of log in
    let value : List ℕ = value_read log (place ∷ []) in
    let there : value_at (latest_map history) key ≡ Some value =
    ap (λ (m : Map). value_at m key) (sym (ap (replayed []) whole ∙ replayed-log_of history states))
    ∙ (value_at-replayed log key ∙ ap (option_map (value_read log)) found) in
    ap (active_update key) whole ∙ (active_update-log_of key history states
    ∙ ap (option_map {U = List ℕ × List ℕ} (λ v. (v, next_key (latest_map history) key))) there)

-- where none is found, no update of it is active
pub unplaced : (key : List ℕ) (log : List Operation) → value_at (places_of log) key ≡ None
    → active_update key log ≡ None
unplaced key log missing =
    let past = place_missing key log missing in
    ap update_fields (slice_get_past log (active_location key log) (omega (arith, past)))

-- an update is some
pub some_fields : (fields : Option (List ℕ × List ℕ)) (value next : List ℕ) → fields ≡ Some (value, next)
    → fields ≡ None → ⊥
some_fields fields value next is none =
    let clash : ◌≡◌ {A = Option (List ℕ × List ℕ)} None (Some (value, next)) = sym none ∙ is in cc
