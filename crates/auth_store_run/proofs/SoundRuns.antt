-- Each root that a run of sound states answers is that of a sound history.
use Rattle.std.proofs.Common.{◌≡◌, ◌⊎◌, ℕ, List, [], ◌∷◌, refl, sym, subst, ⊎_elim, inl, inr}
use Rattle.std.specs.Prelude.{Result, Ok, Err}
use Rattle.auth_store_parts.specs.History.{History}
use Rattle.auth_store_client.specs.States.{root_of_history}
use Rattle.auth_store_proving.specs.declared.error.Unprovable.{Unprovable as NoProof}
use Rattle.auth_store_log.specs.Records.{Format}
use Rattle.auth_store_machine.specs.Machine.{Machine, Power, State, closed, live, failed, doubtful, Request, ask_open}
use Rattle.auth_store_machine.specs.Machine.{ask_commit, ask_get, ask_root, ask_commits, ask_floor, ask_len}
use Rattle.auth_store_machine.specs.Machine.{ask_prune, ask_proof, ask_close, ask_crash, ask_config, ask_cut, Answer}
use Rattle.auth_store_machine.specs.Machine.{Proved, proof_of, told_proof, opened, committed, value, root_is}
use Rattle.auth_store_machine.specs.Machine.{commits_are, floor_is, len_is, pruned_to, has_closed, has_crashed}
use Rattle.auth_store_machine.specs.Machine.{is_set, refused, not_open, still_open, IsStep, IsRunSeen, commit_of}
use Rattle.auth_store_machine.specs.Sound.{IsSoundIn, IsSoundState, HasSoundStates, TellsRootOf, TellsRoots}

module _ (m : Machine) (format : Format) where
  -- where the state after it is sound, an answer tells a root so
  abbrev Tells : Answer → State → Type 0
  Tells answer next = IsSoundState format next → TellsRootOf m format answer next

  -- an answer that tells no root
  no : (said answer : Answer) (next : State) → answer ≡ said → TellsRootOf m format said next → Tells answer next
  no said answer next is tells sound = subst (λ a. TellsRootOf m format a next) (sym is) tells

  no_root : (found : Result Proved NoProof) (next : State) → TellsRootOf m format (told_proof found) next
  no_root (Ok proved) next = tt
  no_root (Err why) next = tt

  -- one that tells the root of the history of an open store
  told : (answer said : Answer) (next : State) (history : History) (pruned : ℕ) → answer ≡ said
      → (said ≡ committed (root_of_history m.setting m.key_size m.value_size history))
      ⊎ (said ≡ root_is (root_of_history m.setting m.key_size m.value_size history))
      → next ≡ live history pruned → Tells answer next
  told answer said next history pruned is which stands sound =
      let here : IsSoundIn format history = subst (IsSoundState format) stands sound in
      subst (λ s. TellsRootOf m format answer s) (sym stands)
      (subst (λ a. TellsRootOf m format a (live history pruned)) (sym is)
      (⊎_elim
      (λ commits. subst (λ a. TellsRootOf m format a (live history pruned)) (sym commits) (refl, here))
      (λ root. subst (λ a. TellsRootOf m format a (live history pruned)) (sym root) (refl, here))
      which))

  step_tells : (before after : Power) (state : State) (request : Request) (answer : Answer) (next : State)
      → IsStep m before after state request answer next → Tells answer next
  step_tells before after (closed history pending) ask_open answer next step = ⊎_elim
      (λ opens. no opened answer next opens.0 tt)
      (λ refuses. no (refused refuses.0) answer next refuses.1 tt)
      step
  step_tells before after (doubtful history) ask_open answer next step = ⊎_elim
      (λ opens. no opened answer next opens.0 tt)
      (λ refuses. no (refused refuses.0) answer next refuses.1 tt)
      step
  step_tells before after (closed history pending) ask_crash answer next step = no has_crashed answer next step.0 tt
  step_tells before after (closed history pending) ask_config answer next step = no is_set answer next step.0 tt
  step_tells before after (closed history pending) (ask_cut calls) answer next step = no is_set answer next step.0 tt
  step_tells before after (closed history pending) ask_close answer next step = no not_open answer next step.0 tt
  step_tells before after (closed history pending) (ask_commit words metadata) answer next step = no not_open answer next step.0 tt
  step_tells before after (closed history pending) (ask_get key) answer next step = no not_open answer next step.0 tt
  step_tells before after (closed history pending) (ask_proof question) answer next step = no not_open answer next step.0 tt
  step_tells before after (closed history pending) ask_root answer next step = no not_open answer next step.0 tt
  step_tells before after (closed history pending) ask_commits answer next step = no not_open answer next step.0 tt
  step_tells before after (closed history pending) ask_floor answer next step = no not_open answer next step.0 tt
  step_tells before after (closed history pending) ask_len answer next step = no not_open answer next step.0 tt
  step_tells before after (closed history pending) (ask_prune location) answer next step = no not_open answer next step.0 tt
  step_tells before after (doubtful history) ask_crash answer next step = no has_crashed answer next step.0 tt
  step_tells before after (doubtful history) ask_config answer next step = no is_set answer next step.0 tt
  step_tells before after (doubtful history) (ask_cut calls) answer next step = no is_set answer next step.0 tt
  step_tells before after (doubtful history) ask_close answer next step = no not_open answer next step.0 tt
  step_tells before after (doubtful history) (ask_commit words metadata) answer next step = no not_open answer next step.0 tt
  step_tells before after (doubtful history) (ask_get key) answer next step = no not_open answer next step.0 tt
  step_tells before after (doubtful history) (ask_proof question) answer next step = no not_open answer next step.0 tt
  step_tells before after (doubtful history) ask_root answer next step = no not_open answer next step.0 tt
  step_tells before after (doubtful history) ask_commits answer next step = no not_open answer next step.0 tt
  step_tells before after (doubtful history) ask_floor answer next step = no not_open answer next step.0 tt
  step_tells before after (doubtful history) ask_len answer next step = no not_open answer next step.0 tt
  step_tells before after (doubtful history) (ask_prune location) answer next step = no not_open answer next step.0 tt
  step_tells before after (live history pruned) ask_open answer next step = no still_open answer next step.0 tt
  step_tells before after (live history pruned) ask_crash answer next step = no still_open answer next step.0 tt
  step_tells before after (live history pruned) ask_config answer next step = no is_set answer next step.0 tt
  step_tells before after (live history pruned) (ask_cut calls) answer next step = no is_set answer next step.0 tt
  step_tells before after (live history pruned) ask_close answer next step = no has_closed answer next step.0 tt
  step_tells before after (live history pruned) (ask_commit words metadata) answer next step = ⊎_elim
      (λ commits. told answer _ next (commit_of words metadata history ∷ history) pruned commits.0 (inl refl) commits.1)
      (λ refuses. no (refused refuses.0) answer next refuses.1 tt)
      step
  step_tells before after (live history pruned) (ask_get key) answer next step = ⊎_elim
      (λ said. no (value _) answer next said tt)
      (λ refuses. no (refused refuses.0) answer next refuses.1 tt)
      step.2
  step_tells before after (live history pruned) (ask_proof question) answer next step = ⊎_elim
      (λ said. no (told_proof (proof_of m history pruned question)) answer next said
      (no_root (proof_of m history pruned question) next))
      (λ refuses. no (refused refuses.0) answer next refuses.1 tt)
      step.2
  step_tells before after (live history pruned) ask_root answer next step =
      told answer _ next history pruned step.0 (inr refl) step.1
  step_tells before after (live history pruned) ask_commits answer next step = no (commits_are _) answer next step.0 tt
  step_tells before after (live history pruned) ask_floor answer next step = no (floor_is _) answer next step.0 tt
  step_tells before after (live history pruned) ask_len answer next step = no (len_is _) answer next step.0 tt
  step_tells before after (live history pruned) (ask_prune location) answer next step = ⊎_elim
      (λ done. no (pruned_to _) answer next done.1 tt)
      (⊎_elim (λ past. no (refused _) answer next past.0 tt) (λ lacks. no (refused _) answer next lacks.0 tt))
      step.0
  step_tells before after (failed history commit) ask_open answer next step = no still_open answer next step.0 tt
  step_tells before after (failed history commit) ask_crash answer next step = no still_open answer next step.0 tt
  step_tells before after (failed history commit) ask_config answer next step = no is_set answer next step.0 tt
  step_tells before after (failed history commit) (ask_cut calls) answer next step = no is_set answer next step.0 tt
  step_tells before after (failed history commit) ask_close answer next step = no has_closed answer next step.0 tt
  step_tells before after (failed history commit) (ask_commit words metadata) answer next step = no (refused _) answer next step.0 tt
  step_tells before after (failed history commit) (ask_get key) answer next step = no (refused _) answer next step.0 tt
  step_tells before after (failed history commit) (ask_proof question) answer next step = no (refused _) answer next step.0 tt
  step_tells before after (failed history commit) ask_root answer next step = no (refused _) answer next step.0 tt
  step_tells before after (failed history commit) ask_commits answer next step = no (refused _) answer next step.0 tt
  step_tells before after (failed history commit) ask_floor answer next step = no (refused _) answer next step.0 tt
  step_tells before after (failed history commit) ask_len answer next step = no (refused _) answer next step.0 tt
  step_tells before after (failed history commit) (ask_prune location) answer next step = no (refused _) answer next step.0 tt

-- the first state of a run of sound states is sound
first_sound : (format : Format) (see : State → State) (m : Machine) (before : Power) (first : State) (requests : List Request)
    (answers : List Answer) (after : Power) (last : State) (ran : IsRunSeen see m before first requests answers after last)
    → HasSoundStates format see m before first requests answers after last ran → IsSoundState format first
first_sound format see m before first [] [] after last ran sound = sound
first_sound format see m before first (request ∷ requests) (answer ∷ answers) after last ran sound = sound.0
first_sound format see m before first [] (answer ∷ answers) after last ran sound = absurd ran
first_sound format see m before first (request ∷ requests) [] after last ran sound = absurd ran

-- a run
pub run_tells : (format : Format) (see : State → State) (m : Machine) (before : Power) (first : State) (requests : List Request)
    (answers : List Answer) (after : Power) (last : State) (ran : IsRunSeen see m before first requests answers after last)
    → HasSoundStates format see m before first requests answers after last ran
    → TellsRoots format see m before first requests answers after last ran
run_tells format see m before first [] [] after last ran sound = tt
run_tells format see m before first (request ∷ requests) (answer ∷ answers) after last ran sound = (
  step_tells m format before ran.0 (see first) request answer ran.1 ran.2
      (first_sound format see m ran.0 ran.1 requests answers after last ran.4 sound.1),
  run_tells format see m ran.0 ran.1 requests answers after last ran.4 sound.1,
)
run_tells format see m before first [] (answer ∷ answers) after last ran sound = absurd ran
run_tells format see m before first (request ∷ requests) [] after last ran sound = absurd ran
