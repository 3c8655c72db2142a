-- A batch that a ledger took, over the log that it was told of.
use Rattle.std.proofs.Common.{◌≡◌, ◌⊎◌, ◌+◌, ◌++◌, ◌∷◌, ◌<◌, ℕ, List, Option, Some, None, inl, inr, refl}
use Rattle.std.proofs.Common.{ap, sym, subst, ◌∙◌, length, length-append, arith}
use Rattle.std.specs.Prelude.{IfSome, IsSomeAnd}
use Rattle.fault_storage_parts.specs.Crc32.{crc32}
use Rattle.paged_blob_parts.specs.Calls.{Call}
use Rattle.paged_blob_parts.specs.Writers.{Keeps, WriterState, written}
use Rattle.state_theory.specs.Canonical.{Setting}
use Rattle.auth_store_parts.specs.Batch.{Word}
use Rattle.auth_store_parts.specs.History.{AreStates, Commit, History, latest_map, log_of}
use Rattle.auth_store_parts.specs.Laws.Logs.{IsState-latest_map, IsState-map_after}
use Rattle.auth_store_ledger.specs.Store.{IsLedgerOf, LedgerState, commit_after}
use Rattle.auth_store_log.specs.Records.{AreRecorded, Format, history_bytes}
use Rattle.auth_store_log.specs.Laws.Shown.{keeps_log}
use Rattle.auth_store_log.specs.Shown.{MayShow}
use Rattle.auth_store_machine.specs.Machine.{commit_of}
use Rattle.auth_store_machine.specs.Reads.{LiveParts, live_on, seen_on}
use Rattle.auth_store_machine.specs.Stores.{IsWritten, OpeningsShow}
use Rattle.auth_store_machine.proofs.Kept.{keeps_before}
use Rattle.auth_store_machine.proofs.Long.{commit_long}

module _ (setting : Setting) (format : Format) (said : List Word) (noted : Option (List ℕ)) (history : History)
    (was : IsWritten format history) (ledger : LedgerState)
    (of : IsLedgerOf setting format (log_of (commit_after said noted history)) ledger)
    (recorded : AreRecorded format (log_of (commit_after said noted history))) where
  -- the next history is of states, and written
  pub next_states : AreStates (commit_after said noted history)
  next_states = (IsState-map_after said (latest_map history) (IsState-latest_map history was.states), was.states)

  pub next_written : IsWritten format (commit_after said noted history)
  next_written = record { states = next_states; recorded = recorded; few = of.keeps.few }

  -- where its bytes are on the way, openings show it or the one before
  pub next_shown : (size : ℕ) (calls : List Call) (begun : List ℕ)
      → ((format : Format) (sum : List ℕ → ℕ) (size : ℕ) (calls : List Call) (history : History) (commit : Commit)
      → AreRecorded format (log_of (commit ∷ history))
      → Keeps sum size (history_bytes format (commit ∷ history)) (length (history_bytes format history)) calls
      → MayShow format sum size history (Some commit) calls)
      → begun ≡ history_bytes format history
      → Keeps crc32 size (history_bytes format (commit_after said noted history)) (length begun) calls
      → OpeningsShow format size history (Some (commit_of said noted history)) calls
  next_shown size calls begun pending is keeps =
      let commit : Commit = commit_of said noted history in
      let kept : Keeps crc32 size (history_bytes format (commit ∷ history)) (length (history_bytes format history)) calls =
      subst (λ n. Keeps crc32 size (history_bytes format (commit_after said noted history)) n calls) (ap length is) keeps in
      record {
        written = was;
        next = next_written;
        shown = pending format crc32 size calls history commit recorded kept;
        kept = keeps_before format size history calls (keeps_log format crc32 size calls history commit kept);
      }

  -- it has more bytes
  pub next_longer : (begun bytes : List ℕ) → begun ≡ history_bytes format history
      → history_bytes format (commit_after said noted history) ≡ begun ++ bytes → 0 < length bytes
  next_longer begun bytes is grown =
      let long = commit_long format history (commit_of said noted history) was.recorded recorded in
      omega (arith, long, ap length grown, length-append begun bytes, ap length is)

-- what is behind what is written is as before, where no call was recorded between
pub behind : (calls mid new : List Call) (writer now : WriterState) (bytes all : List ℕ) → mid ≡ calls
    → all ≡ written crc32 calls writer ++ bytes → written crc32 new now ≡ written crc32 mid writer ++ bytes
    → written crc32 new now ≡ all
behind calls mid new writer now bytes all same grown content =
    content ∙ (ap (λ (c : List Call). written crc32 c writer ++ bytes) same ∙ sym grown)

-- what came back of a batch that was refused is as it was, or nothing did
module _ (format : Format) (calls : List Call) (kept : Option LiveParts) (history : History) (Q : LiveParts → Type 0) (Batch Lost : Type 0) where
  pub kept_or : IfSome kept (λ k. ((live_on format calls k).history ≡ history) × Q k × Batch) → (kept ≡ None → Lost)
      → (IsSomeAnd (seen_on format calls kept) (λ now. now.history ≡ history) × Batch)
      ⊎ ((seen_on format calls kept ≡ None) × Lost)
  kept_or all lost = by kept refl all
    where
      by : (k : Option LiveParts) → kept ≡ k → IfSome k (λ k. ((live_on format calls k).history ≡ history) × Q k × Batch)
          → (IsSomeAnd (seen_on format calls kept) (λ now. now.history ≡ history) × Batch)
          ⊎ ((seen_on format calls kept ≡ None) × Lost)
      by (Some k) is said = inl (
        subst (λ l. IsSomeAnd (seen_on format calls l) (λ now. now.history ≡ history)) (sym is) said.0,
        said.2,
      )
      by None is said = inr (ap (seen_on format calls) is, lost is)

pub kept_live : {L : Type 0} (kept : Option L) (P Q R : L → Type 0) → IfSome kept (λ k. P k × Q k × R k) → IfSome kept Q
kept_live (Some k) P Q R all = all.1
kept_live None P Q R all = tt
