-- What an opening shows, and what stands after it.
use Rattle.std.proofs.Common.{◌≡◌, ⊎_elim, ℕ, List, [], ◌∷◌, Option, Some, None, sym, subst, ◌∙◌, ap, inl, inr}
use Rattle.std.specs.Prelude.{IfSome}
use Rattle.fault_storage_parts.specs.Crc32.{crc32}
use Rattle.paged_blob_parts.specs.Calls.{Call, opened, wrote, resized_to, synced, file_of}
use Rattle.paged_blob_parts.specs.Images.{IsImage}
use Rattle.paged_blob_parts.specs.Chance.{NoneByChance}
use Rattle.paged_blob_parts.specs.Moments.{Through, here, then, Grows}
use Rattle.paged_blob_parts.specs.Laws.Moments.{at_end, weaker}
use Rattle.auth_store_parts.specs.History.{History, Commit, AreStates, log_of}
use Rattle.auth_store_log.specs.Records.{Format, begun, history_bytes, recovered_log, AreRecorded}
use Rattle.auth_store_log.specs.Shown.{IsShown, MayShow, IsKeptThrough}
use Rattle.auth_store_machine.specs.Machine.{IsShownOf}
use Rattle.auth_store_machine.specs.Stores.{IsWritten, OpeningsShow}
use Rattle.auth_store_machine.specs.Standing.{IsOpenedThrough}
use Rattle.auth_store_machine.proofs.Kept.{begun_same, some_bytes, opened_keeps}

-- the premise passes to a shorter list of calls
pub fewer : {P : List Call → Type 0} (sum : List ℕ → ℕ) (size : ℕ) {old new : List Call} → Through P old new → NoneByChance sum size new
    → NoneByChance sum size old
fewer sum size (here p) none = none
fewer sum size (then (opened shown) moments p) none = fewer sum size moments none.1
fewer sum size (then (wrote offset bytes is_sync ok) moments p) none = fewer sum size moments none
fewer sum size (then (resized_to length ok) moments p) none = fewer sum size moments none
fewer sum size (then (synced bytes ok) moments p) none = fewer sum size moments none

-- the history of which an opening shows the log
pub shown_is : (format : Format) (history : History) (pending : Option Commit) (now : History) (log : List ℕ)
    → ((one other : History) → AreStates one → AreStates other → AreRecorded format (log_of one) → AreRecorded format (log_of other)
    → history_bytes format one ≡ history_bytes format other → one ≡ other)
    → IsWritten format history → IfSome pending (λ commit. IsWritten format (commit ∷ history)) → IsWritten format now
    → IsShown format history pending log → history_bytes format now ≡ begun format log → IsShownOf history pending now
shown_is format history None now log same written next is (inl shown) bytes =
    same now history is.states written.states is.recorded written.recorded
    (bytes ∙ (begun_same format log (λ e. some_bytes format history (sym shown ∙ e)) ∙ shown))
shown_is format history None now log same written next is (inr none) bytes =
    same now history is.states written.states is.recorded written.recorded
    (bytes ∙ (ap (begun format) none.1 ∙ ap (history_bytes format) (sym none.0)))
shown_is format history (Some commit) now log same written next is (inl (inl shown)) bytes =
    inl (same now history is.states written.states is.recorded written.recorded
    (bytes ∙ (begun_same format log (λ e. some_bytes format history (sym shown ∙ e)) ∙ shown)))
shown_is format history (Some commit) now log same written next is (inl (inr shown)) bytes =
    inr (same now (commit ∷ history) is.states next.states is.recorded next.recorded
    (bytes ∙ (begun_same format log (λ e. some_bytes format (commit ∷ history) (sym shown ∙ e)) ∙ shown)))
shown_is format history (Some commit) now log same written next is (inr none) bytes =
    inl (same now history is.states written.states is.recorded written.recorded
    (bytes ∙ (ap (begun format) none.1 ∙ ap (history_bytes format) (sym none.0))))

-- a log that has begun is shown as well
begins_shown : (format : Format) (history : History) (pending : Option Commit) (log now : List ℕ) → IsShown format history pending log
    → log ≡ [] → now ≡ history_bytes format [] → IsShown format history pending now
begins_shown format history None log now (inl shown) none is = absurd (some_bytes format history (sym shown ∙ none))
begins_shown format history (Some commit) log now (inl (inl shown)) none is = absurd (some_bytes format history (sym shown ∙ none))
begins_shown format history (Some commit) log now (inl (inr shown)) none is =
    absurd (some_bytes format (commit ∷ history) (sym shown ∙ none))
begins_shown format history None log now (inr empty) none is = inl (is ∙ ap (history_bytes format) (sym empty.0))
begins_shown format history (Some commit) log now (inr empty) none is = inl (inl (is ∙ ap (history_bytes format) (sym empty.0)))

-- an opening that is given up leaves what may be shown
pub given_up : (format : Format) (size : ℕ) (history : History) (pending : Option Commit) (log : List ℕ) (calls : List Call)
    → IsShown format history pending log → IsKeptThrough format crc32 size log calls → MayShow format crc32 size history pending calls
given_up format size history pending log calls shown kept = λ image is chance.
    ⊎_elim
    (λ same. subst (λ bytes. IsShown format history pending bytes) (sym same) shown)
    (λ first. begins_shown format history pending log (recovered_log format crc32 size image) shown first.0 first.1)
    (kept.0 image is chance)

-- what an opening shows, unless by chance
pub opening_shows : (format : Format) (size : ℕ) (history : History) (pending : Option Commit) (old new : List Call) (shown : List ℕ)
    → OpeningsShow format size history pending old → IsImage (file_of old) shown
    → Through (IsKeptThrough format crc32 size (recovered_log format crc32 size shown)) (opened shown ∷ old) new
    → NoneByChance crc32 size new → IsShown format history pending (recovered_log format crc32 size shown)
opening_shows format size history pending old new shown shows image moments none = shows.shown shown image (fewer crc32 size moments none).0

-- after an opening that is refused, openings show what they did
pub still_shows : (format : Format) (size : ℕ) (history : History) (pending : Option Commit) (old new : List Call) (shown : List ℕ)
    → OpeningsShow format size history pending old → IsOpenedThrough format size shown old new → NoneByChance crc32 size new
    → OpeningsShow format size history pending new
still_shows format size history pending old new shown shows (inl same) none = subst (OpeningsShow format size history pending) (sym same) shows
still_shows format size history pending old new shown shows (inr through) none = record {
  written = shows.written;
  next = shows.next;
  shown = given_up format size history pending (recovered_log format crc32 size shown) new
      (opening_shows format size history pending old new shown shows through.0 through.1 none) (at_end through.1);
  kept = opened_keeps format size history old new shown shows.written shows.kept (inr through);
}

-- the calls only grow
pub grown : {P : List Call → Type 0} {old new : List Call} → Through P old new → Grows old new
grown moments = weaker (λ calls p. tt) moments

pub behind : (old : List Call) (call : Call) (new : List Call) → Grows (call ∷ old) new → Grows old new
behind old call new (here p) = then call (here tt) tt
behind old call new (then other moments p) = then other (behind old call _ moments) tt

pub opened_grows : (format : Format) (size : ℕ) (old new : List Call) (shown : List ℕ) → IsOpenedThrough format size shown old new
    → Grows old new
opened_grows format size old new shown (inl same) = subst (Grows old) (sym same) (here tt)
opened_grows format size old new shown (inr through) = behind old (opened shown) new (grown through.1)

pub grows_on : (old mid new : List Call) → Grows old mid → Grows mid new → Grows old new
grows_on old mid new first (here p) = first
grows_on old mid new first (then call moments p) = then call (grows_on old mid _ first moments) tt
