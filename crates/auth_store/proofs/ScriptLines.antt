-- What a line of a script does, from the steps that it takes and from what is printed.
use Rattle.std.proofs.Common.{◌≡◌, inl, inr, ℕ, List, [], ◌∷◌, ◌++◌, Bool, true, false, Option, None, Some, refl, ap}
use Rattle.std.proofs.Common.{sym, ◌∙◌, subst, option_map, unwrap_or, append_assoc, append-nil}
use Rattle.std.proofs.lemmas.List.{map-append}
use Rattle.std.specs.Prelude.{Result, Ok, Err, IfOk, OnOk, IsSomeAnd, IsTrue, ◌↔◌}
use Rattle.std.specs.Io.KnownBytes.{Appends}
use Rattle.merkle_forest.specs.declared.codec.fixed_bytes.FixedBytes.{FixedBytes}
use Rattle.merkle_forest.specs.Forest.{Rule}
use Rattle.sha2.specs.Sha256.{sha256}
use Rattle.rand_pcg.specs.Lcg.{Lcg}
use Rattle.fault_storage_parts.specs.declared.config.Config as settings
use Rattle.paged_blob_parts.specs.Moments.{Grows}
use Rattle.auth_store_parts.specs.Report.{reported}
use Rattle.auth_store_proving.specs.Proving.{KeyAnswer}
use Rattle.auth_store_session.specs.declared.session.Answer as code
use Rattle.auth_store_session.specs.declared.session.Answer.TheVariants as answers
use Rattle.auth_store_session.specs.declared.session.Step.{Step}
use Rattle.auth_store_session.specs.declared.session.Step.TheVariants as steps
use Rattle.auth_store_machine.specs.Machine.{Machine, Request, Answer, machine, is_opened, is_root_of_commit}
use Rattle.auth_store_session.specs.MachineCode.{config_after, meaning_of, request_of}
use Rattle.auth_store_machine.specs.Standing.{SessionState, Steps, Runs, calls_in, config_in, page_size_in}
use Rattle.auth_store_machine.proofs.Runs.{AreSound, runs_go_on}
use Rattle.auth_store.specs.ScriptLines.{Exchange, Checks, Does, asked, answered, answer_line, bytes_of, value_of}
use Rattle.auth_store.specs.ScriptLines.{checked_line, found_line, kept_after, settings_after, pending_of, rule_of}
use Rattle.auth_store.specs.ScriptLines.{script_format, script_machine}
use Rattle.auth_store.specs.ScriptCode.{DoesLine, Goes, Handled, HasRun, Now, exchange_of, settings_in}
use Rattle.auth_store_parts.specs.declared.script.line.Line.{Line}
use Rattle.auth_store_parts.specs.declared.script.words.TreeFamily.{TreeFamily}
use Rattle.auth_store.specs.declared.script.end.End.{End}
use Rattle.auth_store.specs.declared.script.end.End.TheVariants as ends

-- ---- what is printed

-- a line is handled where this was done, and its text was printed, or it has none
pub handled_by : (Did : Option (List ℕ) → List Exchange → Type 0) (a b : Option (List ℕ)) (result : Result Unit End)
    (said : Option (List ℕ)) (exchanges : List Exchange)
    → ((printed : Option (List ℕ)) → printed ≡ option_map reported said → Did printed exchanges)
    → OnOk result (IsSomeAnd said (λ line. Appends a b (reported line)))
    → (result ≡ Err ends.BadLine ↔ (said ≡ None)) → (result ≡ Err ends.BadLine → Appends a b [])
    → Handled Did a b result
handled_by Did a b (Ok u) None exchanges did line bad quiet = absurd line
handled_by Did a b (Ok u) (Some text) exchanges did line bad quiet =
    (exchanges, reported text, did (Some (reported text)) refl, line)
handled_by Did a b (Err ends.BadLine) said exchanges did line bad quiet =
    (exchanges, did None (ap (option_map reported) (sym (bad.0 refl))), quiet refl)
handled_by Did a b (Err ends.Memory) said exchanges did line bad quiet = tt
handled_by Did a b (Err ends.Io) said exchanges did line bad quiet = tt

-- so a line, between two places where a script stands
pub handled_line : (old new : Now) (line : Line) (a b : Option (List ℕ)) (result : Result Unit End)
    (said : Option (List ℕ)) (exchanges : List Exchange)
    → ((printed : Option (List ℕ)) → printed ≡ option_map reported said
    → Does old.progress line exchanges printed new.progress) → Goes old.progress.family old.session exchanges new.session
    → OnOk result (IsSomeAnd said (λ line. Appends a b (reported line)))
    → (result ≡ Err ends.BadLine ↔ (said ≡ None)) → (result ≡ Err ends.BadLine → Appends a b [])
    → Handled (DoesLine old line new) a b result
handled_line old new line a b result said exchanges does goes =
    handled_by (DoesLine old line new) a b result said exchanges (λ printed is. (does printed is, goes))

-- what was done is done so too
pub handled_as : (Did Done : Option (List ℕ) → List Exchange → Type 0) (a b : Option (List ℕ)) (result : Result Unit End)
    → ((printed : Option (List ℕ)) (exchanges : List Exchange) → Did printed exchanges → Done printed exchanges)
    → Handled Did a b result → Handled Done a b result
handled_as Did Done a b (Ok u) so (exchanges, printed, did, adds) = (exchanges, printed, so (Some printed) exchanges did, adds)
handled_as Did Done a b (Err ends.BadLine) so (exchanges, did, adds) = (exchanges, so None exchanges did, adds)
handled_as Did Done a b (Err ends.Memory) so handled = tt
handled_as Did Done a b (Err ends.Io) so handled = tt

-- ---- steps

-- the settings after a step
set_by : {K V : Type 0} (step : Step K V) (now : settings.Config)
    → config_after step (Some now) ≡ Some (unwrap_or (settings_in step) now)
set_by (steps.Open sizes) now = refl
set_by (steps.Commit batch metadata) now = refl
set_by (steps.Get key) now = refl
set_by steps.Root now = refl
set_by steps.Commits now = refl
set_by steps.Floor now = refl
set_by steps.Len now = refl
set_by (steps.Prune location) now = refl
set_by (steps.ProveKey key) now = refl
set_by (steps.ProveOperation location) now = refl
set_by (steps.ProveRange start stop) now = refl
set_by (steps.ProveLog start stop) now = refl
set_by steps.Close now = refl
set_by steps.Crash now = refl
set_by (steps.Config config) now = refl
set_by (steps.CutAfter calls) now = refl

settings_after-append : (one other : List Exchange) (now : settings.Config)
    → settings_after (one ++ other) now ≡ settings_after other (settings_after one now)
settings_after-append [] other now = refl
settings_after-append (e ∷ one) other now = settings_after-append one other (unwrap_or e.settings now)

-- nothing asked leads nowhere
pub goes_none : (family : TreeFamily) (now : SessionState Lcg) → Goes family now [] now
goes_none family now first earlier ran = subst (λ e. HasRun family first e now) (sym (append-nil earlier)) ran

-- one thing after the other
pub goes_on : (family : TreeFamily) (old now new : SessionState Lcg) (one other : List Exchange) → Goes family old one now
    → Goes family now other new → Goes family old (one ++ other) new
goes_on family old now new one other goes later first earlier ran =
    subst (λ e. HasRun family first e new) (append_assoc earlier one other) (later first (earlier ++ one) (goes first earlier ran))

abbrev make : Rule → (Option (List ℕ) → List ℕ) → ℕ → Machine
make rule pending size = machine rule sha256 pending 1 8 8 size

-- a step of the session leads on
pub goes_by : (family : TreeFamily) (rule : Rule) (pending : Option (List ℕ) → List ℕ) → rule ≡ rule_of family
    → pending ≡ pending_of family → (old new : SessionState Lcg) (step : Step (FixedBytes 8) ℕ) (answer : Answer)
    → Steps (make rule pending (page_size_in old.parts old.store)) script_format old (request_of bytes_of value_of step) answer new
    → page_size_in new.parts new.store ≡ page_size_in old.parts old.store
    → Grows (calls_in old.parts old.store) (calls_in new.parts new.store)
    → config_in new.parts new.store ≡ config_after step (config_in old.parts old.store) → AreSound script_format new
    → Goes family old (exchange_of step answer ∷ []) new
goes_by family rule pending merges encodes old new step answer stepped sized grows set sound first earlier ran =
    let more = exchange_of step answer ∷ [] in
    let request : Request = request_of bytes_of value_of step in
    let named = subst (λ (p : Option (List ℕ) → List ℕ). Steps (make (rule_of family) p (page_size_in old.parts old.store))
    script_format old request answer new) encodes (subst (λ (r : Rule). Steps (make r pending (page_size_in old.parts old.store))
    script_format old request answer new) merges stepped) in
    let went = runs_go_on (script_machine family) script_format first old new (asked earlier) (answered earlier) request answer sized
    grows ran.runs (subst (λ (size : ℕ). Steps (make (rule_of family) (pending_of family) size) script_format old request answer new)
    ran.paged named) sound in
    record {
      paged = sized ∙ ran.paged;
      set = λ before is. set ∙ ap (config_after step) (ran.set before is) ∙ set_by step (settings_after earlier before)
          ∙ ap Some (sym (settings_after-append earlier more before));
      runs = subst (λ (given : List Answer). Runs (script_machine family) script_format first (asked (earlier ++ more)) given new)
          (sym (map-append (λ (e : Exchange). e.answer) earlier more))
          (subst (λ (wanted : List Request). Runs (script_machine family) script_format first wanted (answered earlier ++ answered more) new)
          (sym (map-append (λ (e : Exchange). e.request) earlier more)) went);
    }

-- ---- what the code answers

module _ {F D K V : Type 0} (digest : D → List ℕ) (key : K → List ℕ) (encoding : V → List ℕ) where
  pub not_opened : (answer : code.Answer F D K V) → (answer ≡ answers.Opened → ⊥) → is_opened (meaning_of digest key encoding answer) ≡ false
  not_opened answers.Opened not = absurd (not refl)
  not_opened (answers.Committed d) not = refl
  not_opened (answers.Value v) not = refl
  not_opened (answers.Root d) not = refl
  not_opened (answers.Commits n) not = refl
  not_opened (answers.Floor n) not = refl
  not_opened (answers.Len n) not = refl
  not_opened (answers.Pruned n) not = refl
  not_opened (answers.Proof p) not = refl
  not_opened (answers.Operation p) not = refl
  not_opened (answers.Range p) not = refl
  not_opened (answers.Slice p) not = refl
  not_opened answers.Closed not = refl
  not_opened answers.Crashed not = refl
  not_opened answers.Set not = refl
  not_opened (answers.Refused e) not = refl
  not_opened answers.NotOpen not = refl
  not_opened answers.StillOpen not = refl

  pub not_committed : (answer : code.Answer F D K V) → ((d : D) → answer ≡ answers.Committed d → ⊥)
      → is_root_of_commit (meaning_of digest key encoding answer) ≡ false
  not_committed answers.Opened not = refl
  not_committed (answers.Committed d) not = absurd (not d refl)
  not_committed (answers.Value v) not = refl
  not_committed (answers.Root d) not = refl
  not_committed (answers.Commits n) not = refl
  not_committed (answers.Floor n) not = refl
  not_committed (answers.Len n) not = refl
  not_committed (answers.Pruned n) not = refl
  not_committed (answers.Proof p) not = refl
  not_committed (answers.Operation p) not = refl
  not_committed (answers.Range p) not = refl
  not_committed (answers.Slice p) not = refl
  not_committed answers.Closed not = refl
  not_committed answers.Crashed not = refl
  not_committed answers.Set not = refl
  not_committed (answers.Refused e) not = refl
  not_committed answers.NotOpen not = refl
  not_committed answers.StillOpen not = refl

  -- an answer that is no root says itself, and nothing is kept
  pub not_root : (answer : code.Answer F D K V) (found : KeyAnswer) (bytes : List ℕ) (kept : Option (List ℕ × List ℕ))
      → ((d : D) → answer ≡ answers.Root d → ⊥)
      → (kept_after bytes (meaning_of digest key encoding answer) kept ≡ kept)
      × (found_line found (meaning_of digest key encoding answer) ≡ answer_line (meaning_of digest key encoding answer))
  not_root (answers.Root d) found bytes kept not = absurd (not d refl)
  not_root answers.Opened found bytes kept not = (refl, refl)
  not_root (answers.Committed d) found bytes kept not = (refl, refl)
  not_root (answers.Value v) found bytes kept not = (refl, refl)
  not_root (answers.Commits n) found bytes kept not = (refl, refl)
  not_root (answers.Floor n) found bytes kept not = (refl, refl)
  not_root (answers.Len n) found bytes kept not = (refl, refl)
  not_root (answers.Pruned n) found bytes kept not = (refl, refl)
  not_root (answers.Proof p) found bytes kept not = (refl, refl)
  not_root (answers.Operation p) found bytes kept not = (refl, refl)
  not_root (answers.Range p) found bytes kept not = (refl, refl)
  not_root (answers.Slice p) found bytes kept not = (refl, refl)
  not_root answers.Closed found bytes kept not = (refl, refl)
  not_root answers.Crashed found bytes kept not = (refl, refl)
  not_root answers.Set found bytes kept not = (refl, refl)
  not_root (answers.Refused e) found bytes kept not = (refl, refl)
  not_root answers.NotOpen found bytes kept not = (refl, refl)
  not_root answers.StillOpen found bytes kept not = (refl, refl)

-- ---- checking

-- a check prints what it found
pub checked : {E : Type 0} (found : Result Bool E) (Shown : Type 0) → IfOk found (λ holds. IsTrue holds ↔ Shown)
    → Checks Shown (reported (checked_line found))
checked (Ok true) Shown exact = inl (refl, exact.0 refl)
checked (Ok false) Shown exact = inr (inl (refl, λ shown. absurd (let e : false ≡ true = exact.1 shown in cc)))
checked (Err e) Shown exact = inr (inr refl)

-- of what is shown as well
pub checks_as : (One Other : Type 0) (printed : List ℕ) → (One ↔ Other) → Checks One printed → Checks Other printed
checks_as One Other printed same (inl (said, shown)) = inl (said, same.0 shown)
checks_as One Other printed same (inr (inl (said, not))) = inr (inl (said, λ shown. not (same.1 shown)))
checks_as One Other printed same (inr (inr said)) = inr (inr said)
