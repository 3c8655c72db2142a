-- What a run tells of causes: they were there.
use Rattle.std.proofs.Common.{◌≡◌, ◌+◌, ◌<◌, ℕ, Bool, true, false, List, []}
use Rattle.std.proofs.Common.{◌∷◌, Option, None, refl, sym, ◌∙◌, ap, subst, ⊎_elim, arith}
use Rattle.std.specs.Prelude.{⊤, IsTrue, Result, Ok, Err}
use Rattle.paged_blob_parts.specs.Calls.{Call}
use Rattle.paged_blob_parts.specs.Moments.{Grows}
use Rattle.auth_store_parts.specs.History.{History}
use Rattle.auth_store_ledger.specs.Store.{commit_after}
use Rattle.auth_store_proving.specs.declared.error.Unprovable.{Unprovable as NoProof}
use Rattle.auth_store_proving.specs.declared.error.Unprovable.TheVariants as reasons
use Rattle.auth_store_machine.specs.declared.error.StoreError.{StoreError}
use Rattle.auth_store_machine.specs.declared.error.StoreError.TheVariants.{Fault, PowerCut, NumberEnded, Memory}
use Rattle.auth_store_machine.specs.declared.error.StoreError.TheVariants.{Corrupt, Failed, PastFloor, Inactive}
use Rattle.auth_store_machine.specs.declared.error.StoreError.TheVariants.{OutOfRange, Pruned, EmptyRange, Header}
use Rattle.auth_store_device.specs.Devices.{is_cut}
use Rattle.auth_store_machine.specs.Machine.{Machine, Power, State, closed, live, failed, doubtful, Request, ask_open}
use Rattle.auth_store_machine.specs.Machine.{ask_commit, ask_get, ask_root, ask_commits, ask_floor, ask_len}
use Rattle.auth_store_machine.specs.Machine.{ask_prune, ask_proof, ask_close, ask_crash, ask_config, ask_cut, Answer}
use Rattle.auth_store_machine.specs.Machine.{Proved, proof_of, told_proof, opened, committed, value, root_is}
use Rattle.auth_store_machine.specs.Machine.{commits_are, floor_is, len_is, pruned_to, proof, has_closed, has_crashed}
use Rattle.auth_store_machine.specs.Machine.{is_set, refused, not_open, still_open, MayRefuseRead, MayRefuseOpening}
use Rattle.auth_store_machine.specs.Machine.{MayRefuseBatch, MayRefuseAppend, IsStep, IsRun, IsSpent, Passes, turned}
use Rattle.auth_store_machine.specs.Machine.{refusal_in, faults_in, faults_told, AskNoCut, TellNoCut, IsRunSeen}
use Rattle.auth_store_machine.specs.Machine.{GivesNumbers, openings_of}
use Rattle.auth_store_machine.proofs.Opens.{grows_on}
use Rattle.auth_store_machine.proofs.Powers.{same_grows}

-- what a refusal tells of the power
abbrev Why : Power → Power → StoreError → Type 0
Why before after (Fault kind) = before.injected < after.injected
Why before after PowerCut = IsTrue (is_cut after.left)
Why before after NumberEnded = ⊤
Why before after Memory = ⊤
Why before after Corrupt = ⊤
Why before after Failed = ⊤
Why before after PastFloor = ⊤
Why before after Inactive = ⊤
Why before after OutOfRange = ⊤
Why before after Pruned = ⊤
Why before after EmptyRange = ⊤
Why before after (Header fault) = ⊤

read_why : (before after : Power) (e : StoreError) → MayRefuseRead before after e → Why before after e
read_why before after (Fault kind) cause = cause.0
read_why before after PowerCut cause = cause
read_why before after NumberEnded cause = tt
read_why before after Memory cause = tt
read_why before after Corrupt cause = tt
read_why before after Failed cause = tt
read_why before after PastFloor cause = tt
read_why before after Inactive cause = tt
read_why before after OutOfRange cause = tt
read_why before after Pruned cause = tt
read_why before after EmptyRange cause = tt
read_why before after (Header fault) cause = tt

opening_why : (m : Machine) (before after : Power) (e : StoreError) → MayRefuseOpening m before after e → Why before after e
opening_why m before after (Fault kind) cause = cause
opening_why m before after PowerCut cause = cause
opening_why m before after NumberEnded cause = tt
opening_why m before after Memory cause = tt
opening_why m before after Corrupt cause = tt
opening_why m before after Failed cause = tt
opening_why m before after PastFloor cause = tt
opening_why m before after Inactive cause = tt
opening_why m before after OutOfRange cause = tt
opening_why m before after Pruned cause = tt
opening_why m before after EmptyRange cause = tt
opening_why m before after (Header fault) cause = tt

batch_why : (m : Machine) (before after : Power) (next : History) (e : StoreError) → MayRefuseBatch m before after next e
    → Why before after e
batch_why m before after next (Fault kind) cause = cause.0
batch_why m before after next PowerCut cause = cause
batch_why m before after next NumberEnded cause = tt
batch_why m before after next Memory cause = tt
batch_why m before after next Corrupt cause = tt
batch_why m before after next Failed cause = tt
batch_why m before after next PastFloor cause = tt
batch_why m before after next Inactive cause = tt
batch_why m before after next OutOfRange cause = tt
batch_why m before after next Pruned cause = tt
batch_why m before after next EmptyRange cause = tt
batch_why m before after next (Header fault) cause = tt

append_why : (m : Machine) (before after : Power) (next : History) (e : StoreError) → MayRefuseAppend m before after next e
    → Why before after e
append_why m before after next (Fault kind) cause = cause.0
append_why m before after next PowerCut cause = cause
append_why m before after next NumberEnded cause = tt
append_why m before after next Memory cause = tt
append_why m before after next Corrupt cause = tt
append_why m before after next Failed cause = tt
append_why m before after next PastFloor cause = tt
append_why m before after next Inactive cause = tt
append_why m before after next OutOfRange cause = tt
append_why m before after next Pruned cause = tt
append_why m before after next EmptyRange cause = tt
append_why m before after next (Header fault) cause = tt

-- an answer that is no refusal
abbrev is_refusal : Answer → Bool
is_refusal opened = false
is_refusal (committed root) = false
is_refusal (value found) = false
is_refusal (root_is root) = false
is_refusal (commits_are count) = false
is_refusal (floor_is location) = false
is_refusal (len_is count) = false
is_refusal (pruned_to chunks) = false
is_refusal (proof found) = false
is_refusal has_closed = false
is_refusal has_crashed = false
is_refusal is_set = false
is_refusal (refused e) = true
is_refusal not_open = false
is_refusal still_open = false

plain : {A : Type 0} (e : StoreError) (answer : Answer) → refused e ≡ answer → is_refusal answer ≡ false → A
plain e answer is none = let bad : true ≡ false = ap is_refusal is ∙ none in absurd (cc)

-- a refusal is one
same_refusal : (e error : StoreError) → refused e ≡ refused error → e ≡ error
same_refusal e error is = cc

-- so is one that a cause is told of
why_of : (before after : Power) (e error : StoreError) → refused e ≡ refused error → Why before after error → Why before after e
why_of before after e error is why = subst (Why before after) (sym (same_refusal e error is)) why

told_why : (before after : Power) (e : StoreError) (found : Result Proved NoProof) → refused e ≡ told_proof found → Why before after e
told_why before after e (Ok proved) is = plain e (proof proved) is refl
told_why before after e (Err reasons.Inactive) is = why_of before after e Inactive is tt
told_why before after e (Err reasons.OutOfRange) is = why_of before after e OutOfRange is tt
told_why before after e (Err reasons.Pruned) is = why_of before after e Pruned is tt
told_why before after e (Err reasons.EmptyRange) is = why_of before after e EmptyRange is tt

-- what a step tells
step_why : (m : Machine) (before after : Power) (state : State) (request : Request) (e : StoreError) (next : State)
    → IsStep m before after state request (refused e) next → Why before after e
step_why m before after (closed history pending) ask_open e next step = ⊎_elim
    (λ opens. plain e opened opens.0 refl)
    (λ refuses. let (error, is, same, cause) = refuses in why_of before after e error is (opening_why m before after error cause))
    step
step_why m before after (closed history pending) (ask_commit words metadata) e next step = plain e not_open step.0 refl
step_why m before after (closed history pending) (ask_get key) e next step = plain e not_open step.0 refl
step_why m before after (closed history pending) ask_root e next step = plain e not_open step.0 refl
step_why m before after (closed history pending) ask_commits e next step = plain e not_open step.0 refl
step_why m before after (closed history pending) ask_floor e next step = plain e not_open step.0 refl
step_why m before after (closed history pending) ask_len e next step = plain e not_open step.0 refl
step_why m before after (closed history pending) (ask_prune location) e next step = plain e not_open step.0 refl
step_why m before after (closed history pending) (ask_proof question) e next step = plain e not_open step.0 refl
step_why m before after (closed history pending) ask_close e next step = plain e not_open step.0 refl
step_why m before after (closed history pending) ask_crash e next step = plain e has_crashed step.0 refl
step_why m before after (closed history pending) ask_config e next step = plain e is_set step.0 refl
step_why m before after (closed history pending) (ask_cut calls) e next step = plain e is_set step.0 refl
step_why m before after (doubtful history) ask_open e next step = ⊎_elim
    (λ opens. plain e opened opens.0 refl)
    (λ refuses. let (error, is, same, cause) = refuses in why_of before after e error is (⊎_elim
    (λ corrupt. subst (Why before after) (sym corrupt) tt)
    (λ may. opening_why m before after error may)
    cause))
    step
step_why m before after (doubtful history) (ask_commit words metadata) e next step = plain e not_open step.0 refl
step_why m before after (doubtful history) (ask_get key) e next step = plain e not_open step.0 refl
step_why m before after (doubtful history) ask_root e next step = plain e not_open step.0 refl
step_why m before after (doubtful history) ask_commits e next step = plain e not_open step.0 refl
step_why m before after (doubtful history) ask_floor e next step = plain e not_open step.0 refl
step_why m before after (doubtful history) ask_len e next step = plain e not_open step.0 refl
step_why m before after (doubtful history) (ask_prune location) e next step = plain e not_open step.0 refl
step_why m before after (doubtful history) (ask_proof question) e next step = plain e not_open step.0 refl
step_why m before after (doubtful history) ask_close e next step = plain e not_open step.0 refl
step_why m before after (doubtful history) ask_crash e next step = plain e has_crashed step.0 refl
step_why m before after (doubtful history) ask_config e next step = plain e is_set step.0 refl
step_why m before after (doubtful history) (ask_cut calls) e next step = plain e is_set step.0 refl
step_why m before after (live history pruned) ask_open e next step = plain e still_open step.0 refl
step_why m before after (live history pruned) (ask_commit words metadata) e next step = ⊎_elim
    (λ commits. plain e (committed _) commits.0 refl)
    (λ refuses. let (error, is, cause) = refuses in why_of before after e error is (⊎_elim
    (λ kept. batch_why m before after (commit_after words metadata history) error kept.1)
    (λ lost. append_why m before after (commit_after words metadata history) error lost.2)
    cause))
    step
step_why m before after (live history pruned) (ask_get key) e next step = ⊎_elim
    (λ said. plain e (value _) said refl)
    (λ refuses. let (error, is, cause) = refuses in why_of before after e error is (read_why before after error cause))
    step.2
step_why m before after (live history pruned) ask_root e next step = plain e (root_is _) step.0 refl
step_why m before after (live history pruned) ask_commits e next step = plain e (commits_are _) step.0 refl
step_why m before after (live history pruned) ask_floor e next step = plain e (floor_is _) step.0 refl
step_why m before after (live history pruned) ask_len e next step = plain e (len_is _) step.0 refl
step_why m before after (live history pruned) (ask_prune location) e next step = ⊎_elim
    (λ done. plain e (pruned_to _) done.1 refl)
    (⊎_elim (λ past. why_of before after e PastFloor past.0 tt) (λ lacks. why_of before after e Memory lacks.0 tt))
    step.0
step_why m before after (live history pruned) (ask_proof question) e next step = ⊎_elim
    (λ said. told_why before after e (proof_of m history pruned question) said)
    (λ refuses. let (error, is, cause) = refuses in why_of before after e error is (read_why before after error cause))
    step.2
step_why m before after (live history pruned) ask_close e next step = plain e has_closed step.0 refl
step_why m before after (live history pruned) ask_crash e next step = plain e still_open step.0 refl
step_why m before after (live history pruned) ask_config e next step = plain e is_set step.0 refl
step_why m before after (live history pruned) (ask_cut calls) e next step = plain e is_set step.0 refl
step_why m before after (failed history commit) ask_open e next step = plain e still_open step.0 refl
step_why m before after (failed history commit) (ask_commit words metadata) e next step = why_of before after e Failed step.0 tt
step_why m before after (failed history commit) (ask_get key) e next step = why_of before after e Failed step.0 tt
step_why m before after (failed history commit) ask_root e next step = why_of before after e Failed step.0 tt
step_why m before after (failed history commit) ask_commits e next step = why_of before after e Failed step.0 tt
step_why m before after (failed history commit) ask_floor e next step = why_of before after e Failed step.0 tt
step_why m before after (failed history commit) ask_len e next step = why_of before after e Failed step.0 tt
step_why m before after (failed history commit) (ask_prune location) e next step = why_of before after e Failed step.0 tt
step_why m before after (failed history commit) (ask_proof question) e next step = why_of before after e Failed step.0 tt
step_why m before after (failed history commit) ask_close e next step = plain e has_closed step.0 refl
step_why m before after (failed history commit) ask_crash e next step = plain e still_open step.0 refl
step_why m before after (failed history commit) ask_config e next step = plain e is_set step.0 refl
step_why m before after (failed history commit) (ask_cut calls) e next step = plain e is_set step.0 refl

-- what a request makes of the power without its calls injects nothing, gives no number and makes no call
turned_seen : (request : Request) (answer : Answer) (power : Power)
    → let now = turned request answer power in
    (now.injected ≡ power.injected) × (now.names ≡ power.names) × (now.files ≡ power.files) × (now.calls ≡ power.calls)
turned_seen ask_open answer power = (refl, refl, refl, refl)
turned_seen (ask_commit words metadata) answer power = (refl, refl, refl, refl)
turned_seen (ask_get key) answer power = (refl, refl, refl, refl)
turned_seen ask_root answer power = (refl, refl, refl, refl)
turned_seen ask_commits answer power = (refl, refl, refl, refl)
turned_seen ask_floor answer power = (refl, refl, refl, refl)
turned_seen ask_len answer power = (refl, refl, refl, refl)
turned_seen (ask_prune location) answer power = (refl, refl, refl, refl)
turned_seen (ask_proof question) answer power = (refl, refl, refl, refl)
turned_seen ask_close answer power = (refl, refl, refl, refl)
turned_seen ask_config answer power = (refl, refl, refl, refl)
turned_seen (ask_cut calls) answer power = (refl, refl, refl, refl)
turned_seen ask_crash opened power = (refl, refl, refl, refl)
turned_seen ask_crash (committed root) power = (refl, refl, refl, refl)
turned_seen ask_crash (value found) power = (refl, refl, refl, refl)
turned_seen ask_crash (root_is root) power = (refl, refl, refl, refl)
turned_seen ask_crash (commits_are count) power = (refl, refl, refl, refl)
turned_seen ask_crash (floor_is location) power = (refl, refl, refl, refl)
turned_seen ask_crash (len_is count) power = (refl, refl, refl, refl)
turned_seen ask_crash (pruned_to chunks) power = (refl, refl, refl, refl)
turned_seen ask_crash (proof found) power = (refl, refl, refl, refl)
turned_seen ask_crash has_closed power = (refl, refl, refl, refl)
turned_seen ask_crash has_crashed power = (refl, refl, refl, refl)
turned_seen ask_crash is_set power = (refl, refl, refl, refl)
turned_seen ask_crash (refused e) power = (refl, refl, refl, refl)
turned_seen ask_crash not_open power = (refl, refl, refl, refl)
turned_seen ask_crash still_open power = (refl, refl, refl, refl)

-- nor does it ask for a cut, where the request does not
turned_asked : (request : Request) (answer : Answer) (power : Power) (requests : List Request) → AskNoCut (request ∷ requests)
    → power.left ≡ None → (turned request answer power).left ≡ None
turned_asked ask_open answer power requests none is = is
turned_asked (ask_commit words metadata) answer power requests none is = is
turned_asked (ask_get key) answer power requests none is = is
turned_asked ask_root answer power requests none is = is
turned_asked ask_commits answer power requests none is = is
turned_asked ask_floor answer power requests none is = is
turned_asked ask_len answer power requests none is = is
turned_asked (ask_prune location) answer power requests none is = is
turned_asked (ask_proof question) answer power requests none is = is
turned_asked ask_close answer power requests none is = is
turned_asked ask_config answer power requests none is = is
turned_asked (ask_cut calls) answer power requests none is = absurd none
turned_asked ask_crash opened power requests none is = is
turned_asked ask_crash (committed root) power requests none is = is
turned_asked ask_crash (value found) power requests none is = is
turned_asked ask_crash (root_is root) power requests none is = is
turned_asked ask_crash (commits_are count) power requests none is = is
turned_asked ask_crash (floor_is location) power requests none is = is
turned_asked ask_crash (len_is count) power requests none is = is
turned_asked ask_crash (pruned_to chunks) power requests none is = is
turned_asked ask_crash (proof found) power requests none is = is
turned_asked ask_crash has_closed power requests none is = is
turned_asked ask_crash has_crashed power requests none is = refl
turned_asked ask_crash is_set power requests none is = is
turned_asked ask_crash (refused e) power requests none is = is
turned_asked ask_crash not_open power requests none is = is
turned_asked ask_crash still_open power requests none is = is

fewer_asked : (request : Request) (requests : List Request) → AskNoCut (request ∷ requests) → AskNoCut requests
fewer_asked ask_open requests none = none
fewer_asked (ask_commit words metadata) requests none = none
fewer_asked (ask_get key) requests none = none
fewer_asked ask_root requests none = none
fewer_asked ask_commits requests none = none
fewer_asked ask_floor requests none = none
fewer_asked ask_len requests none = none
fewer_asked (ask_prune location) requests none = none
fewer_asked (ask_proof question) requests none = none
fewer_asked ask_close requests none = none
fewer_asked ask_crash requests none = none
fewer_asked ask_config requests none = none
fewer_asked (ask_cut calls) requests none = absurd none

-- as many faults were injected in a step as it tells of
told_injected : (before after : Power) (request : Request) (answer : Answer) → Passes request answer before after
    → after.injected ≡ before.injected + faults_in (refusal_in answer)
told_injected before after request answer passes =
    omega (arith, passes.injected, (turned_seen request answer before).0)

pub run_faults : (m : Machine) (before : Power) (first : State) (requests : List Request) (answers : List Answer) (after : Power)
    (last : State) → IsRun m before first requests answers after last → after.injected ≡ before.injected + faults_told answers
run_faults m before first [] [] after last ran =
    let same : after.injected ≡ before.injected = ap (λ (p : Power). p.injected) ran.0 in omega (arith, same)
run_faults m before first (request ∷ requests) (answer ∷ answers) after last ran =
    let here = told_injected before ran.0 request answer ran.3 in
    let later = run_faults m ran.0 ran.1 requests answers after last ran.4 in omega (arith, here, later)
run_faults m before first [] (answer ∷ answers) after last ran = absurd ran
run_faults m before first (request ∷ requests) [] after last ran = absurd ran

-- names and numbers of files are given by openings alone, and the record of the calls goes on
pub run_numbers : (see : State → State) (m : Machine) (before : Power) (first : State) (requests : List Request)
    (answers : List Answer) (after : Power) (last : State) → IsRunSeen see m before first requests answers after last
    → GivesNumbers (openings_of requests) before after
run_numbers see m before first [] [] after last ran =
    let names : after.names ≡ before.names = ap (λ (p : Power). p.names) ran.0 in
    let files : after.files ≡ before.files = ap (λ (p : Power). p.files) ran.0 in
    record {
      names = (omega (arith, names), omega (arith, names));
      files = (omega (arith, files), omega (arith, files));
      calls = same_grows before.calls after.calls (ap (λ (p : Power). p.calls) ran.0);
    }
run_numbers see m before first (request ∷ requests) (answer ∷ answers) after last ran =
    let passes : Passes request answer before ran.0 = ran.3 in
    let here = passes.numbers in
    let seen = turned_seen request answer before in
    let later = run_numbers see m ran.0 ran.1 requests answers after last ran.4 in
    record {
      names = (omega (arith, here.names, seen.1, later.names), omega (arith, here.names, seen.1, later.names));
      files = (omega (arith, here.files, seen.2, later.files), omega (arith, here.files, seen.2, later.files));
      calls = grows_on before.calls ran.0.calls after.calls
          (subst (λ (calls : List Call). Grows calls ran.0.calls) seen.3 here.calls) later.calls;
    }
run_numbers see m before first [] (answer ∷ answers) after last ran = absurd ran
run_numbers see m before first (request ∷ requests) [] after last ran = absurd ran

-- where no cut was asked for, none stands, and no step tells of one
uncut_told : (m : Machine) (before after : Power) (state : State) (request : Request) (answer : Answer) (next : State)
    (answers : List Answer) → IsStep m before after state request answer next → (IsTrue (is_cut after.left) → ⊥) → TellNoCut answers
    → TellNoCut (answer ∷ answers)
uncut_told m before after state request opened next answers step uncut rest = rest
uncut_told m before after state request (committed root) next answers step uncut rest = rest
uncut_told m before after state request (value found) next answers step uncut rest = rest
uncut_told m before after state request (root_is root) next answers step uncut rest = rest
uncut_told m before after state request (commits_are count) next answers step uncut rest = rest
uncut_told m before after state request (floor_is location) next answers step uncut rest = rest
uncut_told m before after state request (len_is count) next answers step uncut rest = rest
uncut_told m before after state request (pruned_to chunks) next answers step uncut rest = rest
uncut_told m before after state request (proof found) next answers step uncut rest = rest
uncut_told m before after state request has_closed next answers step uncut rest = rest
uncut_told m before after state request has_crashed next answers step uncut rest = rest
uncut_told m before after state request is_set next answers step uncut rest = rest
uncut_told m before after state request (refused (Fault kind)) next answers step uncut rest = rest
uncut_told m before after state request (refused PowerCut) next answers step uncut rest =
    uncut (step_why m before after state request PowerCut next step)
uncut_told m before after state request (refused NumberEnded) next answers step uncut rest = rest
uncut_told m before after state request (refused Memory) next answers step uncut rest = rest
uncut_told m before after state request (refused Corrupt) next answers step uncut rest = rest
uncut_told m before after state request (refused Failed) next answers step uncut rest = rest
uncut_told m before after state request (refused PastFloor) next answers step uncut rest = rest
uncut_told m before after state request (refused Inactive) next answers step uncut rest = rest
uncut_told m before after state request (refused OutOfRange) next answers step uncut rest = rest
uncut_told m before after state request (refused Pruned) next answers step uncut rest = rest
uncut_told m before after state request (refused EmptyRange) next answers step uncut rest = rest
uncut_told m before after state request (refused (Header fault)) next answers step uncut rest = rest
uncut_told m before after state request not_open next answers step uncut rest = rest
uncut_told m before after state request still_open next answers step uncut rest = rest

pub run_cuts : (m : Machine) (before : Power) (first : State) (requests : List Request) (answers : List Answer) (after : Power)
    (last : State) → IsRun m before first requests answers after last → before.left ≡ None → AskNoCut requests
    → TellNoCut answers
run_cuts m before first [] [] after last ran unasked none = tt
run_cuts m before first (request ∷ requests) (answer ∷ answers) after last ran unasked none =
    let passes : Passes request answer before ran.0 = ran.3 in
    let none_left = turned_asked request answer before requests none unasked in
    let still : ran.0.left ≡ None = subst (λ l. IsSpent l ran.0.left) none_left passes.left in
    uncut_told m before ran.0 first request answer ran.1 answers ran.2 (λ cut. uncut ran.0.left still cut)
    (run_cuts m ran.0 ran.1 requests answers after last ran.4 still (fewer_asked request requests none))
  where
    uncut : (left : Option ℕ) → left ≡ None → IsTrue (is_cut left) → ⊥
    uncut left is cut = let bad : is_cut left ≡ false = ap is_cut is in cc
run_cuts m before first [] (answer ∷ answers) after last ran unasked none = absurd ran
run_cuts m before first (request ∷ requests) [] after last ran unasked none = absurd ran
