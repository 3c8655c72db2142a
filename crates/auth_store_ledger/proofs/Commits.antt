-- What a batch with its commit makes of the bits, of the floor and of the places of a log.
use Rattle.std.proofs.Common.{◌≡◌, ℕ, ◌+◌, ◌<◌, ◌≤◌, Bool, true, List, []}
use Rattle.std.proofs.Common.{◌∷◌, ◌++◌, drop, length, map, Option, sym, ◌∙◌, ap, ap₂, subst}
use Rattle.std.proofs.lemmas.Grind.{flat_map-append}
use Rattle.std.proofs.lemmas.List.{map-append}
use Rattle.std.specs.List.{AllByRecursion}
use Rattle.state_ops.specs.Operation.{Operation, commit_floor}
use Rattle.auth_store_parts.specs.Laws.Logs.{last_floor-with_commit, replayed-log_of}
use Rattle.auth_store_parts.specs.Places.{places_of}
use Rattle.auth_store_index.specs.Growth.{cleared, first_set, taken, taken_by}
use Rattle.auth_store_index.specs.Laws.Commits.{commit_bits, next_commit_floor, taken_after}
use Rattle.auth_store_index.specs.Touched.{is_no_delete}
use Rattle.auth_store_ledger.specs.Map.{Map}
use Rattle.auth_store_ledger.specs.History.{Commit, AreStates, activity_bits, batch_operations, history_of}
use Rattle.auth_store_ledger.specs.History.{inactivity_floor, last_floor, latest_map, log_of, replayed, with_commit}
use Rattle.auth_store_ledger.specs.Store.{IsBatch}

-- the bits of a log with those of changes and of the commit behind them, before any is cleared
abbrev pub bits_with : List Operation → List Operation → List Bool
bits_with log changes = activity_bits log ++ (map is_no_delete changes ++ true ∷ [])

-- the places that changes and the commit behind them take out of a log whose last commit stands here
abbrev pub places_with : ℕ → List Operation → List Operation → List ℕ
places_with last log changes = taken (places_of log) last changes ++ last ∷ []

-- the bits that are left
abbrev pub left_with : ℕ → List Operation → List Operation → List Bool
left_with last log changes = cleared (bits_with log changes) (places_with last log changes)

-- the place of the first of them that is set, from the log's floor on
abbrev pub first_with : ℕ → List Operation → List Operation → ℕ
first_with last log changes = last_floor log + first_set (drop (last_floor log) (left_with last log changes))

-- it is found from what is kept
pub first_is : (last : ℕ) (log changes : List Operation) (next floor : ℕ) (bits : List Bool) (places : List ℕ) → floor ≡ last_floor log
    → bits ≡ map is_no_delete changes ++ true ∷ [] → places ≡ places_with last log changes
    → next ≡ floor + first_set (drop floor (cleared (activity_bits log ++ bits) places)) → next ≡ first_with last log changes
first_is last log changes next floor bits places floor_is bits_are places_are is =
    is ∙ (ap (λ (f : ℕ). f + first_set (drop f (cleared (activity_bits log ++ bits) places))) floor_is
    ∙ (ap (λ (b : List Bool). last_floor log + first_set (drop (last_floor log) (cleared (activity_bits log ++ b) places))) bits_are
    ∙ ap (λ (p : List ℕ). last_floor log + first_set (drop (last_floor log) (cleared (bits_with log changes) p))) places_are))

module _ (log : List Operation) (states : AreStates (history_of log)) (whole : log ≡ log_of (history_of log)) (changes : List Operation)
    (batch : IsBatch log changes) (metadata : Option (List ℕ)) (last : ℕ) (is_last : last + 1 ≡ length log) where
  abbrev old : List Operation
  old = log_of (history_of log)

  abbrev added : List Operation
  added = batch_operations (latest_map (history_of log)) batch.after

  abbrev commit : Commit
  commit = record { map = batch.after; metadata = metadata }

  abbrev close : Operation
  close = commit_floor metadata (inactivity_floor (old ++ added))

  are_added : changes ≡ added
  are_added = batch.are ∙ ap (λ (state : Map). batch_operations state batch.after) (ap (replayed []) whole ∙ replayed-log_of (history_of log) states)

  at : last + 1 ≡ length old
  at = is_last ∙ ap length whole

  taken_with : taken (places_of old) last (added ++ close ∷ []) ≡ places_with last old added
  taken_with = flat_map-append (taken_by (places_of old) last) added (close ∷ [])

  -- the commit records the place of the first bit that is left
  pub floor_told : first_with last log changes ≡ inactivity_floor (log ++ changes)
  floor_told = ap₂ (first_with last) whole are_added ∙ (sym (next_commit_floor (history_of log) commit last batch.state at)
      ∙ (last_floor-with_commit old added metadata
      ∙ sym (ap₂ (λ (l c : List Operation). inactivity_floor (l ++ c)) whole are_added)))

  -- the bits that are left are those of the log with the commit
  pub bits_told : left_with last log changes ≡ activity_bits (log ++ with_commit log changes metadata)
  bits_told =
      let told : activity_bits (old ++ with_commit old added metadata) ≡ left_with last old added =
      commit_bits (history_of log) commit last batch.state at
      ∙ (ap (λ (b : List Bool). cleared (activity_bits old ++ b) (taken (places_of old) last (added ++ close ∷ [])))
      (map-append is_no_delete added (close ∷ []))
      ∙ ap (cleared (bits_with old added)) taken_with) in
      ap₂ (left_with last) whole are_added
      ∙ (sym told ∙ sym (ap₂ (λ (l c : List Operation). activity_bits (l ++ with_commit l c metadata)) whole are_added))

  -- they are told with the floor that the commit then has
  pub said_is : (floor : ℕ) → floor ≡ first_with last log changes → changes ++ commit_floor metadata floor ∷ [] ≡ with_commit log changes metadata
  said_is floor is = ap (λ (f : ℕ). changes ++ commit_floor metadata f ∷ []) (is ∙ floor_told)

  pub floor_kept : (floor : ℕ) → floor ≡ first_with last log changes → floor ≡ last_floor (log ++ with_commit log changes metadata)
  floor_kept floor is = is ∙ (floor_told ∙ sym (last_floor-with_commit log changes metadata))

  -- the places are the log's, from its floor on
  pub within : AllByRecursion (λ place. (last_floor log ≤ place) × (place < length log)) (places_with last log changes)
  within =
      let here : AllByRecursion (λ place. (last_floor old ≤ place) × (place < length old)) (places_with last old added) =
      subst (AllByRecursion (λ place. (last_floor old ≤ place) × (place < length old))) taken_with
      (taken_after (history_of log) last at (added ++ close ∷ [])) in
      subst (λ (l : List Operation). AllByRecursion (λ place. (last_floor l ≤ place) × (place < length l)) (places_with last l changes))
      (sym whole)
      (subst (λ (c : List Operation). AllByRecursion (λ place. (last_floor old ≤ place) × (place < length old)) (places_with last old c))
      (sym are_added) here)

  -- so the bits that are kept are those of the log with the commit
  pub bits_kept : (said : List Operation) (bits : List Bool) (places : List ℕ) → said ≡ with_commit log changes metadata
      → bits ≡ map is_no_delete changes ++ true ∷ [] → places ≡ places_with last log changes
      → cleared (activity_bits log ++ bits) places ≡ activity_bits (log ++ said)
  bits_kept said bits places said_are bits_are places_are =
      ap (λ (b : List Bool). cleared (activity_bits log ++ b) places) bits_are
      ∙ (ap (λ (p : List ℕ). cleared (bits_with log changes) p) places_are
      ∙ (bits_told ∙ sym (ap (λ (s : List Operation). activity_bits (log ++ s)) said_are)))
