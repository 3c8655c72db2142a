-- What a commit makes of a live store, over a blob of any make.
use Rattle.std.specs.Prelude.{◌≡◌, ◌⊎◌, ◌≤◌, ◌^◌, ℕ, List, length, Option, Some, None, Result, MatchResult, IsSomeAnd}
use Rattle.paged_blob_parts.specs.Answers.{Failures, IsPowerOff}
use Rattle.paged_blob_parts.specs.Calls.{Call}
use Rattle.state_theory.specs.Canonical.{Setting}
use Rattle.auth_store_parts.specs.Batch.{Word}
use Rattle.auth_store_parts.specs.History.{History, log_of}
use Rattle.auth_store_log.specs.Records.{Format, history_bytes}
use Rattle.auth_store_ledger.specs.Store.{commit_after, root_of_history}
use Rattle.auth_store_machine.specs.declared.error.StoreError.{StoreError}
use Rattle.auth_store_machine.specs.Machine.{PassesLimit, commit_of}
use Rattle.auth_store_machine.specs.Stores.{EndsDisk, IsAppendRefusal, IsBatchRefusal, LiveState, OpeningsShow}

-- The store has failed while the commit was made durable, on pages of so many bytes, for that refusal: openings show
-- the history with the commit or without it.
abbrev pub IsCutShort : Format → ℕ → List Word → Option (List ℕ) → History → Failures → Failures → List Call
    → StoreError → Type 0
IsCutShort format size words metadata history before after calls error =
    let later = commit_after words metadata history in
    (length (log_of later) ≤ 2 ^ 62)
    × OpeningsShow format size history (Some (commit_of words metadata history)) calls
    × IsAppendRefusal before after (EndsDisk size (history_bytes format later)) error

-- A commit to this history: it is in, with the root of the history with it, and the power was on; or it is refused
-- before anything is appended, and the history is as it was; or while it is made durable, and the store has failed.
abbrev pub CommitsOver : {D : Type 0} → Setting → Format → ℕ → List Word → Option (List ℕ) → History → Failures → ℕ
    → (D → List ℕ) → Result D StoreError → Failures → List Call → Option LiveState → Type 0
CommitsOver setting format size words metadata history before left encoding result after calls new =
    let later = commit_after words metadata history in
    MatchResult result
    (λ root. (encoding root ≡ root_of_history setting format.key_size format.value_size later)
    × IsSomeAnd new (λ now. now.history ≡ later) × (length (log_of later) ≤ 2 ^ 62)
    × (IsPowerOff before left → ⊥))
    (λ error. (IsSomeAnd new (λ now. now.history ≡ history) × IsBatchRefusal before after (PassesLimit later) error)
    ⊎ ((new ≡ None) × IsCutShort format size words metadata history before after calls error))
