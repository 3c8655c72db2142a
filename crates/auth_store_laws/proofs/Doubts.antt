-- What has to stay does, whatever openings show.
use Rattle.std.proofs.Common.{◌≡◌, ℕ, List, [], ◌∷◌, ◌++◌, Some, None, refl, sym, subst, ◌∙◌, ap, ⊎_elim, append_assoc}
use Rattle.std.proofs.lemmas.List.{append-nil}
use Rattle.auth_store_parts.specs.History.{History, Commit, latest_map, log_of, appended}
use Rattle.auth_store_machine.specs.Machine.{Machine, Power, State, closed, live, failed, doubtful, Request, ask_open}
use Rattle.auth_store_machine.specs.Machine.{ask_commit, ask_get, ask_root, ask_commits, ask_floor, ask_len}
use Rattle.auth_store_machine.specs.Machine.{ask_prune, ask_proof, ask_close, ask_crash, ask_config, ask_cut, Answer}
use Rattle.auth_store_machine.specs.Machine.{IsStep, IsStepInDoubt, IsStepLive, IsStepFailed, IsRunInDoubt, in_doubt}
use Rattle.auth_store_machine.specs.Machine.{kept_history, Begins, commit_of}

-- a log begins itself
begins_same : (history : History) → Begins history history
begins_same history = ([], sym (append-nil (log_of history)))

begins_trans : (one other last : History) → Begins one other → Begins other last → Begins one last
begins_trans one other last (more, is) (rest, ends) =
    (more ++ rest, ends ∙ (ap (λ l. l ++ rest) is ∙ append_assoc (log_of one) more rest))

-- the state that follows keeps this history
stays_at : (history : History) (now next : State) → next ≡ now → kept_history now ≡ history → Begins history (kept_history next)
stays_at history now next is keeps =
    subst (λ s. Begins history (kept_history s)) (sym is) (subst (Begins history) (sym keeps) (begins_same history))

keeps_in_doubt : (m : Machine) (before after : Power) (history : History) (request : Request) (answer : Answer) (next : State)
    → IsStepInDoubt m before after history request answer next → Begins history (kept_history next)
keeps_in_doubt m before after history ask_open answer next step = ⊎_elim
    (λ opens. let (shown, begins, is) = opens.2 in subst (λ s. Begins history (kept_history s)) (sym is) begins)
    (λ refuses. stays_at history (doubtful history) next refuses.2 refl)
    step
keeps_in_doubt m before after history ask_crash answer next step = stays_at history (doubtful history) next step.1 refl
keeps_in_doubt m before after history ask_config answer next step = stays_at history (doubtful history) next step.1 refl
keeps_in_doubt m before after history (ask_cut calls) answer next step = stays_at history (doubtful history) next step.1 refl
keeps_in_doubt m before after history (ask_commit words metadata) answer next step = stays_at history (doubtful history) next step.1 refl
keeps_in_doubt m before after history (ask_get key) answer next step = stays_at history (doubtful history) next step.1 refl
keeps_in_doubt m before after history ask_root answer next step = stays_at history (doubtful history) next step.1 refl
keeps_in_doubt m before after history ask_commits answer next step = stays_at history (doubtful history) next step.1 refl
keeps_in_doubt m before after history ask_floor answer next step = stays_at history (doubtful history) next step.1 refl
keeps_in_doubt m before after history ask_len answer next step = stays_at history (doubtful history) next step.1 refl
keeps_in_doubt m before after history (ask_prune location) answer next step = stays_at history (doubtful history) next step.1 refl
keeps_in_doubt m before after history (ask_proof question) answer next step = stays_at history (doubtful history) next step.1 refl
keeps_in_doubt m before after history ask_close answer next step = stays_at history (doubtful history) next step.1 refl

-- the log of a history begins that with a commit more
begins_next : (history : History) (commit : Commit) → Begins history (commit ∷ history)
begins_next history commit = (appended (log_of history) (latest_map history) commit.map commit.metadata, refl)

keeps_live : (m : Machine) (before after : Power) (history : History) (pruned : ℕ) (request : Request) (answer : Answer) (next : State)
    → IsStepLive m before after history pruned request answer next → Begins history (kept_history next)
keeps_live m before after history pruned (ask_commit words metadata) answer next step = ⊎_elim
    (λ commits. subst (λ s. Begins history (kept_history s)) (sym commits.1)
    (begins_next history (commit_of words metadata history)))
    (λ refuses. ⊎_elim
    (λ kept. stays_at history (live history pruned) next kept.0 refl)
    (λ lost. stays_at history (failed history (commit_of words metadata history)) next lost.0 refl)
    refuses.2)
    step
keeps_live m before after history pruned ask_open answer next step = stays_at history (live history pruned) next step.1 refl
keeps_live m before after history pruned ask_crash answer next step = stays_at history (live history pruned) next step.1 refl
keeps_live m before after history pruned ask_config answer next step = stays_at history (live history pruned) next step.1 refl
keeps_live m before after history pruned (ask_cut calls) answer next step = stays_at history (live history pruned) next step.1 refl
keeps_live m before after history pruned ask_close answer next step = stays_at history (closed history None) next step.1 refl
keeps_live m before after history pruned (ask_get key) answer next step = stays_at history (live history pruned) next step.0 refl
keeps_live m before after history pruned (ask_proof question) answer next step = stays_at history (live history pruned) next step.0 refl
keeps_live m before after history pruned ask_root answer next step = stays_at history (live history pruned) next step.1 refl
keeps_live m before after history pruned ask_commits answer next step = stays_at history (live history pruned) next step.1 refl
keeps_live m before after history pruned ask_floor answer next step = stays_at history (live history pruned) next step.1 refl
keeps_live m before after history pruned ask_len answer next step = stays_at history (live history pruned) next step.1 refl
keeps_live m before after history pruned (ask_prune location) answer next step = ⊎_elim
    (λ done. stays_at history (live history done.0) next done.2 refl)
    (⊎_elim (λ past. stays_at history (live history pruned) next past.1 refl) (λ lacks. stays_at history (live history pruned) next lacks.1 refl))
    step.0

keeps_failed : (before after : Power) (history : History) (commit : Commit) (request : Request) (answer : Answer) (next : State)
    → IsStepFailed before after history commit request answer next → Begins history (kept_history next)
keeps_failed before after history commit ask_close answer next step = stays_at history (closed history (Some commit)) next step.1 refl
keeps_failed before after history commit ask_open answer next step = stays_at history (failed history commit) next step.1 refl
keeps_failed before after history commit ask_crash answer next step = stays_at history (failed history commit) next step.1 refl
keeps_failed before after history commit ask_config answer next step = stays_at history (failed history commit) next step.1 refl
keeps_failed before after history commit (ask_cut calls) answer next step = stays_at history (failed history commit) next step.1 refl
keeps_failed before after history commit (ask_commit words metadata) answer next step = stays_at history (failed history commit) next step.1 refl
keeps_failed before after history commit (ask_get key) answer next step = stays_at history (failed history commit) next step.1 refl
keeps_failed before after history commit (ask_proof question) answer next step = stays_at history (failed history commit) next step.1 refl
keeps_failed before after history commit ask_root answer next step = stays_at history (failed history commit) next step.1 refl
keeps_failed before after history commit ask_commits answer next step = stays_at history (failed history commit) next step.1 refl
keeps_failed before after history commit ask_floor answer next step = stays_at history (failed history commit) next step.1 refl
keeps_failed before after history commit ask_len answer next step = stays_at history (failed history commit) next step.1 refl
keeps_failed before after history commit (ask_prune location) answer next step = stays_at history (failed history commit) next step.1 refl

-- one step
pub step_keeps : (m : Machine) (before after : Power) (state : State) (request : Request) (answer : Answer) (next : State)
    → IsStep m before after (in_doubt state) request answer next → Begins (kept_history state) (kept_history next)
step_keeps m before after (closed history pending) request answer next step =
    keeps_in_doubt m before after history request answer next step
step_keeps m before after (doubtful history) request answer next step =
    keeps_in_doubt m before after history request answer next step
step_keeps m before after (live history pruned) request answer next step = keeps_live m before after history pruned request answer next step
step_keeps m before after (failed history commit) request answer next step = keeps_failed before after history commit request answer next step

-- a run
pub run_keeps : (m : Machine) (before : Power) (first : State) (requests : List Request) (answers : List Answer) (after : Power)
    (last : State) → IsRunInDoubt m before first requests answers after last → Begins (kept_history first) (kept_history last)
run_keeps m before first [] [] after last ran = stays_at (kept_history first) first last ran.1 refl
run_keeps m before first (request ∷ requests) (answer ∷ answers) after last ran =
    begins_trans (kept_history first) (kept_history ran.1) (kept_history last)
    (step_keeps m before ran.0 first request answer ran.1 ran.2)
    (run_keeps m ran.0 ran.1 requests answers after last ran.4)
run_keeps m before first [] (answer ∷ answers) after last ran = absurd ran
run_keeps m before first (request ∷ requests) [] after last ran = absurd ran
