-- What is appended by a batch with its commit, and what is kept of the log with it, from what the code finds.
use Rattle.std.proofs.Common.{◌≡◌, ℕ, ◌+◌, ◌-◌, ◌<◌, ◌≤◌, ◌^◌, Bool, true, List, [], ◌∷◌, ◌++◌, drop, length, map}
use Rattle.std.proofs.Common.{Option, refl, sym, ◌∙◌, ap, ap₂, subst, arith, length-append, ◌*◌}
use Rattle.std.proofs.lemmas.List.{length-map}
use Rattle.std.specs.List.{AllByRecursion, flat_map}
use Rattle.state_theory.specs.Bits.{all_bits}
use Rattle.state_ops.specs.Operation.{Operation, commit_floor}
use Rattle.state_theory.specs.Canonical.{Setting}
use Rattle.state_current.specs.Growth.{grown}
use Rattle.state_current.specs.Kept.{Kept, StandsFor}
use Rattle.auth_store_parts.specs.Laws.Logs.{length-log_of}
use Rattle.auth_store_index.specs.Growth.{cleared, first_set}
use Rattle.auth_store_index.specs.Touched.{is_no_delete}
use Rattle.auth_store_log.specs.Records.{Format, log_bytes}
use Rattle.auth_store_parts.specs.Places.{placed, places_of}
use Rattle.auth_store_parts.specs.Laws.Places.{places_of-append}
use Rattle.auth_store_ledger.specs.Batch.{Word, map_after}
use Rattle.auth_store_ledger.specs.Map.{Map}
use Rattle.auth_store_ledger.specs.History.{AreStates, batch_operations, history_of, last_floor, log_of, replayed, with_commit}
use Rattle.auth_store_ledger.specs.Commits.{AreFound}
use Rattle.auth_store_ledger.specs.Store.{AreWritten, IsBatch, IsKept, IsLedgerOf, commit_after, encodings, state_of_log}
use Rattle.auth_store_ledger.proofs.Commits.{bits_kept, first_is, first_with, floor_kept, left_with, said_is, within}
use Rattle.auth_store_ledger.proofs.Kept.{counted, joined_is, kept_after, places_within}
use Rattle.auth_store_ledger.proofs.Seen.{seen_as}
use Rattle.auth_store_ledger.proofs.Stores.{grown_keeps, is_batch, next_bytes, next_length, next_log}
use Rattle.auth_store_ledger.proofs.Written.{written_together}

-- it is found of lists, places and a last commit that are those
pub found_in : (index other : Map) (last end : ℕ) (changes : List Operation) (metadata : Option (List ℕ)) (before : List Bool) (start : ℕ)
    (said : List Operation) (bits set : List Bool) (places cleared : List ℕ) (floor : ℕ)
    → AreFound index last changes metadata before start said bits places floor → index ≡ other → last ≡ end → set ≡ bits → cleared ≡ places
    → AreFound other end changes metadata before start said set cleared floor
found_in index other last end changes metadata before start said bits set places cleared floor found index_is last_is set_is cleared_is =
    subst (λ (p : List ℕ). AreFound other end changes metadata before start said set p floor) (sym cleared_is)
    (subst (λ (b : List Bool). AreFound other end changes metadata before start said b places floor) (sym set_is)
    (subst (λ (n : ℕ). AreFound other n changes metadata before start said bits places floor) last_is
    (subst (λ (m : Map). AreFound m last changes metadata before start said bits places floor) index_is found)))

module _ {B : Type 0} (setting : Setting) (key value : ℕ) (log changes said : List Operation) (metadata : Option (List ℕ)) (bytes : B → List ℕ)
    (encoded : List B) (bits : List Bool) (places : List ℕ) (floor : ℕ) (before : Kept) (states : AreStates (history_of log))
    (of_history : log ≡ log_of (history_of log)) (kept : IsKept setting key value log before) (batch : IsBatch log changes)
    (found : AreFound (places_of log) (length log - 1) changes metadata (all_bits setting.width before.bits) before.floor said bits places floor)
    (as_bytes : map bytes encoded ≡ encodings key value said) where
  last_is : length log - 1 + 1 ≡ length log
  last_is = omega (arith, length-log_of (history_of log), ap length of_history)

  floor_first : floor ≡ first_with (length log - 1) log changes
  floor_first = first_is (length log - 1) log changes floor before.floor bits places kept.stands.floor found.set found.taken_out
      (found.first ∙ ap (λ (b : List Bool). before.floor + first_set (drop before.floor (cleared (b ++ bits) places))) (sym kept.stands.bits))

  pub said_with : said ≡ with_commit log changes metadata
  said_with = found.whole ∙ said_is log states of_history changes batch metadata (length log - 1) last_is floor floor_first

  many : length encoded ≡ length changes + 1
  many = omega (
    arith,
    counted key value bytes encoded said as_bytes,
    ap length found.whole,
    length-append changes (commit_floor metadata floor ∷ []),
  )

  pub few : length log + length changes < 2 ^ 62 → before.operations.leaves + length encoded ≤ 2 ^ 62
  few small = omega (arith, many, kept.leaves, small)

  pub paired : length bits ≡ length encoded
  paired = omega (arith, many, ap length found.set, length-append (map is_no_delete changes) (true ∷ []), length-map changes is_no_delete)

  pub there : AllByRecursion (λ place. (8 * setting.width * before.bits.pruned ≤ place)
      × (place < before.operations.leaves + length encoded)) places
  there =
      let all : AllByRecursion (λ place. (last_floor log ≤ place) × (place < length log)) places =
      subst (AllByRecursion (λ place. (last_floor log ≤ place) × (place < length log))) (sym found.taken_out)
      (within log states of_history changes batch metadata (length log - 1) last_is) in
      places_within (8 * setting.width * before.bits.pruned) (last_floor log) (length log)
      (before.operations.leaves + length encoded) places kept.behind (omega (arith, kept.leaves)) all

  pub stays : (after : Kept) → after.operations.leaves ≡ before.operations.leaves + length encoded
      → after.bits.pruned ≡ before.bits.pruned
      → StandsFor setting (grown (state_of_log key value log) (record {
        operations = map bytes encoded;
        bits = bits;
        cleared = places;
        floor = floor;
      })) after
      → IsKept setting key value (log ++ said) after
  stays after leaves pruned stands =
      let last = length log - 1 in
      let later : floor ≡ last_floor log + first_set (drop (last_floor log) (left_with last log changes)) = floor_first in
      kept_after setting key value log said before after bytes encoded bits places floor kept as_bytes
      (bits_kept log states of_history changes batch metadata last last_is said bits places said_with found.set found.taken_out)
      (floor_kept log states of_history changes batch metadata last last_is floor floor_first
      ∙ ap (λ (s : List Operation). last_floor (log ++ s)) (sym said_with))
      (omega (arith, later)) leaves pruned stands

  pub bytes_are : flat_map bytes encoded ≡ log_bytes key value said
  bytes_are = joined_is key value bytes encoded said as_bytes

-- What is then kept of the log with the commit, from what is kept of the log and what the code finds and makes.
module _ {B : Type 0} (setting : Setting) (format : Format) (words : List Word) (metadata : Option (List ℕ)) (log changes said : List Operation)
    (bytes : B → List ℕ) (encoded : List B) (bits : List Bool) (places : List ℕ) (floor : ℕ) (index : Map) (commits : ℕ) (before : Kept)
    (of : IsLedgerOf setting format log (seen_as index commits before))
    (are : changes ≡ batch_operations (replayed [] log) (map_after words (replayed [] log)))
    (found : AreFound index (before.operations.leaves - 1) changes metadata (all_bits setting.width before.bits) before.floor said bits places floor)
    (as_bytes : map bytes encoded ≡ encodings format.key_size format.value_size said)
    (small : length log + length changes < 2 ^ 62) where
  abbrev here : IsKept setting format.key_size format.value_size log before
  here = of.keeps.current

  abbrev next : List Operation
  next = log_of (commit_after words metadata (history_of log))

  batch : IsBatch log changes
  batch = is_batch words log changes are

  told : AreFound (places_of log) (length log - 1) changes metadata (all_bits setting.width before.bits) before.floor said bits places floor
  told = found_in index (places_of log) (before.operations.leaves - 1) (length log - 1) changes metadata (all_bits setting.width before.bits)
      before.floor said bits bits places places floor found of.places (ap (λ (n : ℕ). n - 1) here.leaves) refl refl

  pub now_few : before.operations.leaves + length encoded ≤ 2 ^ 62
  now_few = few setting format.key_size format.value_size log changes said metadata bytes encoded bits places floor before of.keeps.states
      of.keeps.whole here batch told as_bytes small

  pub now_paired : length bits ≡ length encoded
  now_paired = paired setting format.key_size format.value_size log changes said metadata bytes encoded bits places floor before of.keeps.states
      of.keeps.whole here batch told as_bytes

  pub now_there : AllByRecursion (λ place. (8 * setting.width * before.bits.pruned ≤ place)
      × (place < before.operations.leaves + length encoded)) places
  now_there = there setting format.key_size format.value_size log changes said metadata bytes encoded bits places floor before of.keeps.states
      of.keeps.whole here batch told as_bytes

  said_is_next : log ++ said ≡ next
  said_is_next =
      ap (λ (l : List Operation). log ++ l) (said_with setting format.key_size format.value_size log changes said metadata bytes encoded bits
      places floor before of.keeps.states of.keeps.whole here batch told as_bytes)
      ∙ (ap (λ (c : List Operation). log ++ with_commit log c metadata) are
      ∙ next_log setting format.key_size format.value_size words metadata log commits before of.keeps)

  pub now_bytes : log_bytes format.key_size format.value_size next
      ≡ log_bytes format.key_size format.value_size log ++ flat_map bytes encoded
  now_bytes = next_bytes format.key_size format.value_size log said next (sym said_is_next)
      ∙ ap (λ (b : List ℕ). log_bytes format.key_size format.value_size log ++ b)
      (sym (bytes_are setting format.key_size format.value_size log changes said metadata bytes encoded bits places floor before of.keeps.states
      of.keeps.whole here batch told as_bytes))

  pub now_ledger : (after : Kept) (after_index : Map) → after.operations.leaves ≡ before.operations.leaves + length encoded
      → after.bits.pruned ≡ before.bits.pruned
      → StandsFor setting (grown (state_of_log format.key_size format.value_size log) (record {
        operations = map bytes encoded;
        bits = bits;
        cleared = places;
        floor = floor;
      })) after
      → AreWritten format said → after_index ≡ placed before.operations.leaves index said
      → IsLedgerOf setting format next (seen_as after_index (commits + 1) after)
  now_ledger after after_index leaves pruned stands written index_is =
      let kept : IsKept setting format.key_size format.value_size (log ++ said) after =
      stays setting format.key_size format.value_size log changes said metadata bytes encoded bits places floor before of.keeps.states
      of.keeps.whole here batch told as_bytes after leaves pruned stands in
      let long : length next ≡ length log + length changes + 1 =
      next_length setting format.key_size format.value_size words metadata log changes commits before of.keeps are in record {
        keeps = grown_keeps setting format.key_size format.value_size words metadata log next commits before after of.keeps refl
            (omega (arith, long, small))
            (subst (λ (l : List Operation). IsKept setting format.key_size format.value_size l after) said_is_next kept);
        written = subst (AreWritten format) said_is_next (written_together format log said of.written written);
        places = index_is ∙ (ap₂ (λ (n : ℕ) (m : Map). placed n m said) here.leaves of.places
            ∙ (sym (places_of-append log said) ∙ ap places_of said_is_next));
      }
