-- What is kept of a history, whatever openings show: its log begins what each of them recovers.
use Rattle.std.proofs.Common.{◌≡◌, ◌≤◌, ◌<◌, ◌++◌, ⊎_elim, ℕ, zero, suc, List, []}
use Rattle.std.proofs.Common.{◌∷◌, length, take, arith, refl, sym, subst, ◌∙◌, ap, inl, inr, append_assoc}
use Rattle.std.proofs.lemmas.List.{length-take, take-take, append-nil}
use Rattle.std.proofs.lemmas.Bool.{cases_lt}
use Rattle.std.proofs.Math.Seq.{take-length}
use Rattle.fault_storage_parts.specs.Crc32.{crc32}
use Rattle.paged_format.specs.Pages.{recovered}
use Rattle.paged_blob_parts.specs.Calls.{Call, file_of}
use Rattle.paged_blob_parts.specs.Images.{IsImage}
use Rattle.paged_blob_parts.specs.Laws.Moments.{at_end}
use Rattle.paged_blob_parts.specs.Writers.{Keeps}
use Rattle.auth_store_parts.specs.History.{History, latest_map, log_of, appended}
use Rattle.auth_store_log.specs.Records.{Format, begun, committed, history_bytes, recovered_log, AreRecorded}
use Rattle.auth_store_log.specs.Shown.{KeepsLog}
use Rattle.auth_store_log.specs.Laws.Once.{log_begins}
use Rattle.auth_store_log.specs.Laws.Shown.{history_more}
use Rattle.auth_store_log.specs.Laws.Records.{committed_whole, committed_again, committed_begins}
use Rattle.auth_store_machine.specs.Machine.{Begins}
use Rattle.auth_store_machine.specs.Standing.{IsOpenedThrough}
use Rattle.auth_store_machine.specs.Stores.{OpeningsKeep, IsWritten}

nil_front : (a b : List ℕ) → a ++ b ≡ [] → a ≡ []
nil_front [] b e = refl
nil_front (x ∷ a) b e = absurd (cc)

-- the log of a history has bytes
pub some_bytes : (format : Format) (history : History) → history_bytes format history ≡ [] → ⊥
some_bytes format [] e = cc
some_bytes format (commit ∷ history) e =
    some_bytes format history (nil_front _ _ (sym (history_more format history commit) ∙ e))

-- a log that has bytes stays
pub begun_same : (format : Format) (log : List ℕ) → (log ≡ [] → ⊥) → begun format log ≡ log
begun_same format [] some = absurd (some refl)
begun_same format (byte ∷ log) some = refl

-- what begins some bytes begins what they begin
begins_both : (one log bytes : List ℕ) → take (length one) log ≡ one → take (length log) bytes ≡ log → take (length one) bytes ≡ one
begins_both one log bytes front whole =
    let few : length one ≤ length log = omega (arith, ap length front, length-take (length one) log) in
    sym (take-take (length one) (length log) bytes few) ∙ ap (take (length one)) whole ∙ front

-- the log of a history that begins some bytes begins what is committed of them
front_committed : (format : Format) (history : History) (bytes : List ℕ) → AreRecorded format (log_of history)
    → take (length (history_bytes format history)) bytes ≡ history_bytes format history
    → take (length (history_bytes format history)) (committed format bytes) ≡ history_bytes format history
front_committed format history bytes are front =
    let log = history_bytes format history in
    let cut = committed format bytes in
    ⊎_elim
    (λ (more : length log < length cut).
    ap (take (length log)) (sym (committed_begins format bytes)) ∙ take-take (length log) (length cut) bytes (omega (arith, more)) ∙ front)
    (λ (few : length cut ≤ length log).
    let same : cut ≡ log = sym (committed_again format (length log) bytes few) ∙ ap (committed format) front
    ∙ committed_whole format history are in
    ap (take (length log)) same ∙ take-length log)
    (cases_lt (length log) (length cut))

-- an opening, at whichever of its calls it is given up, keeps what is kept
pub opened_keeps : (format : Format) (size : ℕ) (history : History) (old new : List Call) (shown : List ℕ) → IsWritten format history
    → OpeningsKeep format size history old → IsOpenedThrough format size shown old new → OpeningsKeep format size history new
opened_keeps format size [] old new shown written kept through = tt
opened_keeps format size (commit ∷ history) old new shown written kept (inl same) =
    subst (OpeningsKeep format size (commit ∷ history)) (sym same) kept
opened_keeps format size (commit ∷ history) old new shown written kept (inr (image, moments)) = λ next is.
    let past = commit ∷ history in
    begins_both (history_bytes format past) (recovered_log format crc32 size shown) (recovered crc32 size next)
    (front_committed format past (recovered crc32 size shown) written.recorded (kept shown image)) ((at_end moments).1 next is)

-- the log of each history begins with that of none
begins_first : (later : History) → Begins [] later
begins_first [] = ([], sym (append-nil (log_of [])))
begins_first (commit ∷ history) =
    let (more, is) = begins_first history in
    let next = appended (log_of history) (latest_map history) commit.map commit.metadata in
    (more ++ next, ap (λ log. log ++ next) is ∙ append_assoc (log_of []) more next)

take_none : (n : ℕ) → take {A = ℕ} n [] ≡ []
take_none zero = refl
take_none (suc n) = refl

-- what an opening shows goes on behind what is kept
pub opening_begins : (format : Format) (size : ℕ) (history now : History) (calls : List Call) (shown : List ℕ) → IsWritten format history
    → IsWritten format now → OpeningsKeep format size history calls → IsImage (file_of calls) shown
    → history_bytes format now ≡ begun format (recovered_log format crc32 size shown) → Begins history now
opening_begins format size [] now calls shown written is kept image bytes = begins_first now
opening_begins format size (commit ∷ history) now calls shown written is kept image bytes =
    let past = commit ∷ history in
    let log = history_bytes format past in
    let front = front_committed format past (recovered crc32 size shown) written.recorded (kept shown image) in
    let some = λ (none : recovered_log format crc32 size shown ≡ []).
    some_bytes format past (sym front ∙ ap (take (length log)) none ∙ take_none (length log)) in
    log_begins format (log_of past) (log_of now) written.recorded is.recorded
    (ap (take (length log)) (bytes ∙ begun_same format (recovered_log format crc32 size shown) some) ∙ front)

-- what is durable of a log is kept
pub keeps_history : (format : Format) (size : ℕ) (history : History) (calls : List Call)
    → Keeps crc32 size (history_bytes format history) (length (history_bytes format history)) calls → OpeningsKeep format size history calls
keeps_history format size [] calls keeps = tt
keeps_history format size (commit ∷ history) calls keeps = λ image is.
    (keeps image is).keeps ∙ take-length (history_bytes format (commit ∷ history))

pub keeps_before : (format : Format) (size : ℕ) (history : History) (calls : List Call) → KeepsLog format crc32 size history calls
    → OpeningsKeep format size history calls
keeps_before format size [] calls keeps = tt
keeps_before format size (commit ∷ history) calls keeps = keeps
