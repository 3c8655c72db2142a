-- What has to stay of a history does, where no opening is by chance.
use Rattle.std.proofs.Common.{◌≡◌, ℕ, List, [], ◌∷◌, ◌++◌, Option, Some, None, refl, sym, subst, ◌∙◌, ap, ⊎_elim, append_assoc}
use Rattle.auth_store_parts.specs.History.{History, Commit}
use Rattle.auth_store_machine.specs.Machine.{Machine, Power, State, closed, live, failed, doubtful, Request, ask_open}
use Rattle.auth_store_machine.specs.Machine.{ask_commit, ask_get, ask_root, ask_commits, ask_floor, ask_len}
use Rattle.auth_store_machine.specs.Machine.{ask_prune, ask_proof, ask_close, ask_crash, ask_config, ask_cut, Answer}
use Rattle.auth_store_machine.specs.Machine.{IsStep, IsStepClosed, IsStepLive, IsStepFailed, IsShownOf, IsRun}
use Rattle.auth_store_machine.specs.Machine.{IsCertain, GoesOn, kept_history, commit_of}

goes_on_trans : (one other last : History) → GoesOn one other → GoesOn other last → GoesOn one last
goes_on_trans one other last (more, is) (rest, ends) =
    (rest ++ more, ends ∙ (ap (λ l. rest ++ l) is ∙ sym (append_assoc rest more one)))

-- the state that follows is certain, and its history goes on from this one
abbrev Follows : History → State → Type 0
Follows history next = IsCertain next × GoesOn history (kept_history next)

follows_same : (history : History) (now next : State) → next ≡ now → IsCertain now → kept_history now ≡ history → Follows history next
follows_same history now next is certain keeps = subst (Follows history) (sym is) (certain, ([], keeps))

follows_next : (history : History) (commit : Commit) (pruned : ℕ) (next : State) → next ≡ live (commit ∷ history) pruned
    → Follows history next
follows_next history commit pruned next is = subst (Follows history) (sym is) (tt, (commit ∷ [], refl))

follows_shown : (history shown : History) (pending : Option Commit) (next : State) → IsShownOf history pending shown → next ≡ live shown 0
    → Follows history next
follows_shown history shown None next same is = follows_same history (live shown 0) next is tt same
follows_shown history shown (Some commit) next same is = ⊎_elim
    (λ without. follows_same history (live shown 0) next is tt without)
    (λ with. follows_next history commit 0 next (is ∙ ap (λ (h : History). live h 0) with))
    same

follows_closed : (m : Machine) (before after : Power) (history : History) (pending : Option Commit) (request : Request) (answer : Answer)
    (next : State) → IsStepClosed m before after history pending request answer next → Follows history next
follows_closed m before after history pending ask_open answer next step = ⊎_elim
    (λ opens. let (shown, same, is) = opens.2 in follows_shown history shown pending next same is)
    (λ refuses. follows_same history (closed history pending) next refuses.2 tt refl)
    step
follows_closed m before after history pending ask_crash answer next step = follows_same history (closed history pending) next step.1 tt refl
follows_closed m before after history pending ask_config answer next step = follows_same history (closed history pending) next step.1 tt refl
follows_closed m before after history pending (ask_cut calls) answer next step = follows_same history (closed history pending) next step.1 tt refl
follows_closed m before after history pending ask_close answer next step = follows_same history (closed history pending) next step.1 tt refl
follows_closed m before after history pending (ask_commit words metadata) answer next step = follows_same history (closed history pending) next step.1 tt refl
follows_closed m before after history pending (ask_get key) answer next step = follows_same history (closed history pending) next step.1 tt refl
follows_closed m before after history pending (ask_proof question) answer next step = follows_same history (closed history pending) next step.1 tt refl
follows_closed m before after history pending ask_root answer next step = follows_same history (closed history pending) next step.1 tt refl
follows_closed m before after history pending ask_commits answer next step = follows_same history (closed history pending) next step.1 tt refl
follows_closed m before after history pending ask_floor answer next step = follows_same history (closed history pending) next step.1 tt refl
follows_closed m before after history pending ask_len answer next step = follows_same history (closed history pending) next step.1 tt refl
follows_closed m before after history pending (ask_prune location) answer next step = follows_same history (closed history pending) next step.1 tt refl

follows_live : (m : Machine) (before after : Power) (history : History) (pruned : ℕ) (request : Request) (answer : Answer) (next : State)
    → IsStepLive m before after history pruned request answer next → Follows history next
follows_live m before after history pruned (ask_commit words metadata) answer next step = ⊎_elim
    (λ commits. follows_next history (commit_of words metadata history) pruned next commits.1)
    (λ refuses. ⊎_elim
    (λ kept. follows_same history (live history pruned) next kept.0 tt refl)
    (λ lost. follows_same history (failed history (commit_of words metadata history)) next lost.0 tt refl)
    refuses.2)
    step
follows_live m before after history pruned ask_open answer next step = follows_same history (live history pruned) next step.1 tt refl
follows_live m before after history pruned ask_crash answer next step = follows_same history (live history pruned) next step.1 tt refl
follows_live m before after history pruned ask_config answer next step = follows_same history (live history pruned) next step.1 tt refl
follows_live m before after history pruned (ask_cut calls) answer next step = follows_same history (live history pruned) next step.1 tt refl
follows_live m before after history pruned ask_close answer next step = follows_same history (closed history None) next step.1 tt refl
follows_live m before after history pruned (ask_get key) answer next step = follows_same history (live history pruned) next step.0 tt refl
follows_live m before after history pruned (ask_proof question) answer next step = follows_same history (live history pruned) next step.0 tt refl
follows_live m before after history pruned ask_root answer next step = follows_same history (live history pruned) next step.1 tt refl
follows_live m before after history pruned ask_commits answer next step = follows_same history (live history pruned) next step.1 tt refl
follows_live m before after history pruned ask_floor answer next step = follows_same history (live history pruned) next step.1 tt refl
follows_live m before after history pruned ask_len answer next step = follows_same history (live history pruned) next step.1 tt refl
follows_live m before after history pruned (ask_prune location) answer next step = ⊎_elim
    (λ done. follows_same history (live history done.0) next done.2 tt refl)
    (⊎_elim (λ past. follows_same history (live history pruned) next past.1 tt refl)
    (λ lacks. follows_same history (live history pruned) next lacks.1 tt refl))
    step.0

follows_failed : (before after : Power) (history : History) (commit : Commit) (request : Request) (answer : Answer) (next : State)
    → IsStepFailed before after history commit request answer next → Follows history next
follows_failed before after history commit ask_close answer next step = follows_same history (closed history (Some commit)) next step.1 tt refl
follows_failed before after history commit ask_open answer next step = follows_same history (failed history commit) next step.1 tt refl
follows_failed before after history commit ask_crash answer next step = follows_same history (failed history commit) next step.1 tt refl
follows_failed before after history commit ask_config answer next step = follows_same history (failed history commit) next step.1 tt refl
follows_failed before after history commit (ask_cut calls) answer next step = follows_same history (failed history commit) next step.1 tt refl
follows_failed before after history commit (ask_commit words metadata) answer next step = follows_same history (failed history commit) next step.1 tt refl
follows_failed before after history commit (ask_get key) answer next step = follows_same history (failed history commit) next step.1 tt refl
follows_failed before after history commit (ask_proof question) answer next step = follows_same history (failed history commit) next step.1 tt refl
follows_failed before after history commit ask_root answer next step = follows_same history (failed history commit) next step.1 tt refl
follows_failed before after history commit ask_commits answer next step = follows_same history (failed history commit) next step.1 tt refl
follows_failed before after history commit ask_floor answer next step = follows_same history (failed history commit) next step.1 tt refl
follows_failed before after history commit ask_len answer next step = follows_same history (failed history commit) next step.1 tt refl
follows_failed before after history commit (ask_prune location) answer next step = follows_same history (failed history commit) next step.1 tt refl

-- one step
pub step_goes_on : (m : Machine) (before after : Power) (state : State) (request : Request) (answer : Answer) (next : State)
    → IsCertain state → IsStep m before after state request answer next → IsCertain next × GoesOn (kept_history state) (kept_history next)
step_goes_on m before after (closed history pending) request answer next certain step =
    follows_closed m before after history pending request answer next step
step_goes_on m before after (live history pruned) request answer next certain step = follows_live m before after history pruned request answer next step
step_goes_on m before after (failed history commit) request answer next certain step =
    follows_failed before after history commit request answer next step
step_goes_on m before after (doubtful history) request answer next certain step = absurd certain

-- a run
pub run_goes_on : (m : Machine) (before : Power) (first : State) (requests : List Request) (answers : List Answer) (after : Power)
    (last : State) → IsCertain first → IsRun m before first requests answers after last
    → IsCertain last × GoesOn (kept_history first) (kept_history last)
run_goes_on m before first [] [] after last certain ran = follows_same (kept_history first) first last ran.1 certain refl
run_goes_on m before first (request ∷ requests) (answer ∷ answers) after last certain ran =
    let step = step_goes_on m before ran.0 first request answer ran.1 certain ran.2 in
    let rest = run_goes_on m ran.0 ran.1 requests answers after last step.0 ran.4 in
    (rest.0, goes_on_trans (kept_history first) (kept_history ran.1) (kept_history last) step.1 rest.1)
run_goes_on m before first [] (answer ∷ answers) after last certain ran = absurd ran
run_goes_on m before first (request ∷ requests) [] after last certain ran = absurd ran
