-- What may be shown of a log follows from what a writer keeps of it.
use Rattle.std.proofs.Common.{◌≡◌, ℕ, ◌≤◌, List, [], ◌∷◌, ◌++◌, length, take, None, Some, refl, sym, ◌∙◌, ap, inl, inr}
use Rattle.std.proofs.Common.{⊎_elim, arith}
use Rattle.std.proofs.lemmas.List.{take-take}
use Rattle.std.proofs.lemmas.Grind.{flat_map-append}
use Rattle.std.proofs.Math.Seq.{take-append_seam, take-length}
use Rattle.auth_store_parts.specs.History.{History, Commit, latest_map, log_of, appended}
use Rattle.paged_format.specs.Pages.{recovered}
use Rattle.paged_blob_parts.specs.Calls.{Call}
use Rattle.paged_blob_parts.specs.Writers.{Keeps}
use Rattle.auth_store_log.specs.Records.{Format, record_of, committed, log_bytes, history_bytes, AreRecorded}
use Rattle.auth_store_log.specs.Shown.{MayShow, KeepsBytes, KeepsLog, Reopens}
use Rattle.auth_store_log.specs.Laws.Records.{committed_whole, committed_history, committed_first, committed_again}
use Rattle.auth_store_log.specs.Laws.Records.{committed_begins}

-- the bytes of a log are those of the log before, and what is appended
pub history_more : (format : Format) (history : History) (commit : Commit)
    → history_bytes format (commit ∷ history) ≡ history_bytes format history
    ++ log_bytes format.key_size format.value_size
    (appended (log_of history) (latest_map history) commit.map commit.metadata)
history_more format history commit =
    flat_map-append (record_of format) (log_of history)
    (appended (log_of history) (latest_map history) commit.map commit.metadata)

-- what is durable begins what is recovered of each image
pub keeps_bytes : (sum : List ℕ → ℕ) (size : ℕ) (calls : List Call) (bytes more : List ℕ)
    → Keeps sum size (bytes ++ more) (length bytes) calls
    → KeepsBytes sum size bytes calls
keeps_bytes sum size calls bytes more keeps image is = (keeps image is).keeps ∙ take-append_seam bytes more

module _ (format : Format) (sum : List ℕ → ℕ) (size : ℕ) (calls : List Call) where
  -- all of a log is durable
  pub keeps_whole : (history : History) → AreRecorded format (log_of history)
      → Keeps sum size (history_bytes format history) (length (history_bytes format history)) calls
      → MayShow format sum size history None calls
  keeps_whole history are keeps image is none =
      let bytes = history_bytes format history in
      let (len, from, within, shown) = (keeps image is).prefix none in
      let whole : len ≡ length bytes = omega (arith, from, within) in
      inl (ap (committed format) (shown ∙ ap (λ n. take n bytes) whole ∙ take-length bytes)
      ∙ committed_whole format history are)

  -- a log is durable, and a commit is on the way
  pub keeps_pending : (history : History) (commit : Commit) → AreRecorded format (log_of (commit ∷ history))
      → Keeps sum size (history_bytes format (commit ∷ history)) (length (history_bytes format history)) calls
      → MayShow format sum size history (Some commit) calls
  keeps_pending history commit are keeps image is none =
      let (len, from, within, shown) = (keeps image is).prefix none in
      let cut = ap (committed format) shown in
      ⊎_elim (λ before. inl (inl (cut ∙ before))) (λ after. inl (inr (cut ∙ after)))
      (committed_history format history commit len are from within)

  -- the first commit is on the way
  pub keeps_first : AreRecorded format (log_of []) → Keeps sum size (history_bytes format []) 0 calls
      → MayShow format sum size [] None calls
  keeps_first are keeps image is none =
      let (len, from, within, shown) = (keeps image is).prefix none in
      let cut = ap (committed format) shown in
      ⊎_elim (λ nothing. inr (refl, cut ∙ nothing)) (λ all. inl (cut ∙ all)) (committed_first format len are within)

  -- the log before the commit begins what is recovered of each image
  pub keeps_log : (history : History) (commit : Commit)
      → Keeps sum size (history_bytes format (commit ∷ history)) (length (history_bytes format history)) calls
      → KeepsLog format sum size history calls
  keeps_log history commit keeps image is =
      let before = history_bytes format history in
      (keeps image is).keeps ∙ ap (take (length before)) (history_more format history commit) ∙ take-append_seam before
      (log_bytes format.key_size format.value_size
      (appended (log_of history) (latest_map history) commit.map commit.metadata))

  -- what is committed of some bytes is durable, and nothing is written but them
  pub keeps_reopens : (bytes : List ℕ) (synced : ℕ) → length (committed format bytes) ≤ synced
      → Keeps sum size bytes synced calls
      → Reopens format sum size (committed format bytes) calls
  keeps_reopens bytes synced from keeps image is none =
      let (len, reached, within, shown) = (keeps image is).prefix none in
      inl (ap (committed format) shown ∙ committed_again format len bytes (omega (arith, from, reached)))

  pub keeps_begun : AreRecorded format (log_of []) → Keeps sum size (history_bytes format []) 0 calls
      → Reopens format sum size [] calls
  keeps_begun are keeps image is none =
      let (len, from, within, shown) = (keeps image is).prefix none in
      let cut = ap (committed format) shown in
      ⊎_elim (λ nothing. inl (cut ∙ nothing)) (λ all. inr (refl, cut ∙ all)) (committed_first format len are within)

  pub keeps_committed : (bytes : List ℕ) (synced : ℕ) → length (committed format bytes) ≤ synced
      → Keeps sum size bytes synced calls
      → KeepsBytes sum size (committed format bytes) calls
  keeps_committed bytes synced from keeps image is =
      let cut = committed format bytes in
      let there = recovered sum size image in
      sym (take-take (length cut) synced there from) ∙ ap (take (length cut)) (keeps image is).keeps
      ∙ take-take (length cut) synced bytes from
      ∙ committed_begins format bytes
