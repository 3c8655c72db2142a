-- What a store keeps stays true with the commit of a batch.
use Rattle.std.proofs.Common.{◌≡◌, ℕ, ◌+◌, ◌<◌, ◌≤◌, ◌^◌, List, [], ◌∷◌}
use Rattle.std.proofs.Common.{◌++◌, length, Option, ap, sym, ◌∙◌, subst, arith, length-append}
use Rattle.std.proofs.lemmas.Grind.{flat_map-append}
use Rattle.state_ops.specs.Operation.{Operation, commit_floor, fixed_encoding}
use Rattle.state_theory.specs.Canonical.{Setting}
use Rattle.state_current.specs.Kept.{Kept}
use Rattle.auth_store_ledger.specs.Batch.{Word, map_after}
use Rattle.auth_store_ledger.specs.History.{History, AreStates, latest_map, batch_operations, replayed, inactivity_floor, with_commit, log_of, history_of}
use Rattle.auth_store_ledger.specs.Store.{IsBatch, IsKept, IsLedger, commit_after}
use Rattle.auth_store_log.specs.Records.{log_bytes}
use Rattle.auth_store_parts.specs.Laws.Logs.{history_of-log_of, replayed-log_of, IsState-map_after, IsState-latest_map, IsState-replayed, length-log_of}

-- how long a log is with changes and a commit at its end
pub committed_length : (log changes whole : List Operation) (metadata : Option (List ℕ))
    → whole ≡ log ++ with_commit log changes metadata → length whole ≡ length log + length changes + 1
committed_length log changes whole metadata is =
    let long : length (with_commit log changes metadata) ≡ length changes + 1 = length-append changes
    (commit_floor metadata (inactivity_floor (log ++ changes)) ∷ []) in
    omega (arith, ap length is, length-append log (with_commit log changes metadata), long)

-- the bytes of a log that has grown are those of the log and of what was appended
pub next_bytes : (key value : ℕ) (log more next : List Operation) → next ≡ log ++ more
    → log_bytes key value next ≡ log_bytes key value log ++ log_bytes key value more
next_bytes key value log more next is = ap (log_bytes key value) is ∙ flat_map-append (fixed_encoding key value) log more

-- the changes of a batch
pub is_batch : (words : List Word) (log changes : List Operation)
    → changes ≡ batch_operations (replayed [] log) (map_after words (replayed [] log)) → IsBatch log changes
is_batch words log changes are = record {
  after = map_after words (replayed [] log);
  state = IsState-map_after words (replayed [] log) (IsState-replayed [] log tt);
  are = are;
}

states_after : (words : List Word) (metadata : Option (List ℕ)) (h : History) → AreStates h
    → AreStates (commit_after words metadata h)
states_after words metadata h states = (IsState-map_after words (latest_map h) (IsState-latest_map h states), states)

-- the log of the next history stands for it
pub grown_stands : (words : List Word) (metadata : Option (List ℕ)) (h : History) (next : List Operation) → AreStates h
    → next ≡ log_of (commit_after words metadata h) → history_of next ≡ commit_after words metadata h
grown_stands words metadata h next states is =
    ap history_of is ∙ history_of-log_of (commit_after words metadata h) (states_after words metadata h states)

module _ (setting : Setting) (key value : ℕ) where
  -- the commits of a log of few operations are few
  pub commits_few : (log : List Operation) (count : ℕ) (kept : Kept) → IsLedger setting key value log count kept → count < 2 ^ 62
  commits_few log count kept keeps =
      let shorter = length-log_of (history_of log) in
      let sized = ap length keeps.whole in
      omega (arith, shorter, sized, keeps.commits, keeps.few)

  -- the log leads to the latest state
  pub latest_kept : (log : List Operation) (count : ℕ) (kept : Kept) → IsLedger setting key value log count kept
      → replayed [] log ≡ latest_map (history_of log)
  latest_kept log count kept keeps = ap (replayed []) keeps.whole
      ∙ replayed-log_of (history_of log) keeps.states

  -- the next log is that of the history with one commit more
  pub next_log : (words : List Word) (metadata : Option (List ℕ)) (log : List Operation) (count : ℕ) (kept : Kept)
      → IsLedger setting key value log count kept
      → log ++ with_commit log (batch_operations (replayed [] log) (map_after words (replayed [] log))) metadata ≡
      log_of (commit_after words metadata (history_of log))
  next_log words metadata log count kept keeps =
      ap (λ state. log ++ with_commit log (batch_operations state (map_after words state)) metadata)
      (latest_kept log count kept keeps)
      ∙ ap (λ l. l ++ with_commit l (batch_operations (latest_map (history_of log))
      (map_after words (latest_map (history_of log)))) metadata) keeps.whole

  -- the log of the next history is kept
  pub grown_keeps : (words : List Word) (metadata : Option (List ℕ)) (log next : List Operation) (count : ℕ) (kept after : Kept)
      → IsLedger setting key value log count kept → next ≡ log_of (commit_after words metadata (history_of log)) → length next ≤ 2 ^ 62
      → IsKept setting key value next after → IsLedger setting key value next (count + 1) after
  grown_keeps words metadata log next count kept after keeps is few current =
      let h : History = history_of log in
      let stands : history_of next ≡ commit_after words metadata h = grown_stands words metadata h next keeps.states is in
      let sized : length (history_of next) ≡ length h + 1 = ap length stands ∙ omega arith in
      record {
        states = subst AreStates (sym stands) (states_after words metadata h keeps.states);
        whole = is ∙ ap log_of (sym stands);
        commits = omega (arith, sized, keeps.commits);
        few = few;
        current = current;
      }

  -- how long the next log is
  pub next_length : (words : List Word) (metadata : Option (List ℕ)) (log changes : List Operation) (count : ℕ) (kept : Kept)
      → IsLedger setting key value log count kept
      → changes ≡ batch_operations (replayed [] log) (map_after words (replayed [] log))
      → length (log_of (commit_after words metadata (history_of log))) ≡ length log + length changes + 1
  next_length words metadata log changes count kept keeps changes-is =
      committed_length log changes (log_of (commit_after words metadata (history_of log))) metadata
      (sym (ap (λ c. log ++ with_commit log c metadata) changes-is
      ∙ next_log words metadata log count kept keeps))
