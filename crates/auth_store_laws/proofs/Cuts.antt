-- A cut of the power that stands: nothing is acknowledged under it, and it stays until a crash is asked for.
use Rattle.std.proofs.Common.{◌≡◌, ◌≤◌, ℕ, Bool, true, false, List, [], ◌∷◌, Some, refl, sym, ◌∙◌, ap, subst, ⊎_elim, arith}
use Rattle.std.specs.Prelude.{IsFalse, Result, Ok, Err}
use Rattle.std.proofs.lemmas.Bool.{false_from_ne_true}
use Rattle.auth_store_machine.specs.declared.error.StoreError.TheVariants.{Failed, Memory, PastFloor}
use Rattle.auth_store_proving.specs.declared.error.Unprovable.{Unprovable as NoProof}
use Rattle.auth_store_device.specs.Devices.{after_asking, is_cut}
use Rattle.auth_store_machine.specs.Machine.{Machine, Power, State, closed, live, failed, doubtful, Request, ask_open}
use Rattle.auth_store_machine.specs.Machine.{ask_commit, ask_get, ask_root, ask_commits, ask_floor, ask_len}
use Rattle.auth_store_machine.specs.Machine.{ask_prune, ask_proof, ask_close, ask_crash, ask_config, ask_cut, Answer}
use Rattle.auth_store_machine.specs.Machine.{Proved, proof_of, told_proof, value, root_is, commits_are, floor_is}
use Rattle.auth_store_machine.specs.Machine.{len_is, pruned_to, has_closed, has_crashed, is_set, refused}
use Rattle.auth_store_machine.specs.Machine.{not_open, still_open, IsStep, IsRun, IsSpent, Passes, turned, AskNoCrash}
use Rattle.auth_store_machine.specs.Machine.{acknowledges, AcknowledgeNone}

plain : {A : Type 0} (answer said : Answer) → acknowledges answer ≡ true → answer ≡ said → acknowledges said ≡ false → A
plain answer said ack is none = let bad : true ≡ false = sym ack ∙ (ap acknowledges is ∙ none) in absurd (cc)

told_no_commit : (found : Result Proved NoProof) → acknowledges (told_proof found) ≡ false
told_no_commit (Ok proved) = refl
told_no_commit (Err why) = refl

-- what a step acknowledges was under no cut
uncut : (m : Machine) (before after : Power) (state : State) (request : Request) (answer : Answer) (next : State)
    → IsStep m before after state request answer next → acknowledges answer ≡ true → IsFalse (is_cut before.left)
uncut m before after (closed history pending) ask_open answer next step ack = ⊎_elim
    (λ opens. opens.1)
    (λ refuses. plain answer (refused refuses.0) ack refuses.1 refl)
    step
uncut m before after (closed history pending) (ask_commit words metadata) answer next step ack = plain answer not_open ack step.0 refl
uncut m before after (closed history pending) (ask_get key) answer next step ack = plain answer not_open ack step.0 refl
uncut m before after (closed history pending) ask_root answer next step ack = plain answer not_open ack step.0 refl
uncut m before after (closed history pending) ask_commits answer next step ack = plain answer not_open ack step.0 refl
uncut m before after (closed history pending) ask_floor answer next step ack = plain answer not_open ack step.0 refl
uncut m before after (closed history pending) ask_len answer next step ack = plain answer not_open ack step.0 refl
uncut m before after (closed history pending) (ask_prune location) answer next step ack = plain answer not_open ack step.0 refl
uncut m before after (closed history pending) (ask_proof question) answer next step ack = plain answer not_open ack step.0 refl
uncut m before after (closed history pending) ask_close answer next step ack = plain answer not_open ack step.0 refl
uncut m before after (closed history pending) ask_crash answer next step ack = plain answer has_crashed ack step.0 refl
uncut m before after (closed history pending) ask_config answer next step ack = plain answer is_set ack step.0 refl
uncut m before after (closed history pending) (ask_cut calls) answer next step ack = plain answer is_set ack step.0 refl
uncut m before after (doubtful history) ask_open answer next step ack = ⊎_elim
    (λ opens. opens.1)
    (λ refuses. plain answer (refused refuses.0) ack refuses.1 refl)
    step
uncut m before after (doubtful history) (ask_commit words metadata) answer next step ack = plain answer not_open ack step.0 refl
uncut m before after (doubtful history) (ask_get key) answer next step ack = plain answer not_open ack step.0 refl
uncut m before after (doubtful history) ask_root answer next step ack = plain answer not_open ack step.0 refl
uncut m before after (doubtful history) ask_commits answer next step ack = plain answer not_open ack step.0 refl
uncut m before after (doubtful history) ask_floor answer next step ack = plain answer not_open ack step.0 refl
uncut m before after (doubtful history) ask_len answer next step ack = plain answer not_open ack step.0 refl
uncut m before after (doubtful history) (ask_prune location) answer next step ack = plain answer not_open ack step.0 refl
uncut m before after (doubtful history) (ask_proof question) answer next step ack = plain answer not_open ack step.0 refl
uncut m before after (doubtful history) ask_close answer next step ack = plain answer not_open ack step.0 refl
uncut m before after (doubtful history) ask_crash answer next step ack = plain answer has_crashed ack step.0 refl
uncut m before after (doubtful history) ask_config answer next step ack = plain answer is_set ack step.0 refl
uncut m before after (doubtful history) (ask_cut calls) answer next step ack = plain answer is_set ack step.0 refl
uncut m before after (live history pruned) ask_open answer next step ack = plain answer still_open ack step.0 refl
uncut m before after (live history pruned) (ask_commit words metadata) answer next step ack = ⊎_elim
    (λ commits. commits.3)
    (λ refuses. plain answer (refused refuses.0) ack refuses.1 refl)
    step
uncut m before after (live history pruned) (ask_get key) answer next step ack = ⊎_elim
    (λ said. plain answer (value _) ack said refl)
    (λ refuses. plain answer (refused refuses.0) ack refuses.1 refl)
    step.2
uncut m before after (live history pruned) ask_root answer next step ack = plain answer (root_is _) ack step.0 refl
uncut m before after (live history pruned) ask_commits answer next step ack = plain answer (commits_are _) ack step.0 refl
uncut m before after (live history pruned) ask_floor answer next step ack = plain answer (floor_is _) ack step.0 refl
uncut m before after (live history pruned) ask_len answer next step ack = plain answer (len_is _) ack step.0 refl
uncut m before after (live history pruned) (ask_prune location) answer next step ack = ⊎_elim
    (λ done. plain answer (pruned_to _) ack done.1 refl)
    (⊎_elim (λ past. plain answer (refused PastFloor) ack past.0 refl) (λ lacks. plain answer (refused Memory) ack lacks.0 refl))
    step.0
uncut m before after (live history pruned) (ask_proof question) answer next step ack = ⊎_elim
    (λ said. plain answer (told_proof (proof_of m history pruned question)) ack said
    (told_no_commit (proof_of m history pruned question)))
    (λ refuses. plain answer (refused refuses.0) ack refuses.1 refl)
    step.2
uncut m before after (live history pruned) ask_close answer next step ack = plain answer has_closed ack step.0 refl
uncut m before after (live history pruned) ask_crash answer next step ack = plain answer still_open ack step.0 refl
uncut m before after (live history pruned) ask_config answer next step ack = plain answer is_set ack step.0 refl
uncut m before after (live history pruned) (ask_cut calls) answer next step ack = plain answer is_set ack step.0 refl
uncut m before after (failed history commit) ask_open answer next step ack = plain answer still_open ack step.0 refl
uncut m before after (failed history commit) (ask_commit words metadata) answer next step ack = plain answer (refused Failed) ack step.0 refl
uncut m before after (failed history commit) (ask_get key) answer next step ack = plain answer (refused Failed) ack step.0 refl
uncut m before after (failed history commit) ask_root answer next step ack = plain answer (refused Failed) ack step.0 refl
uncut m before after (failed history commit) ask_commits answer next step ack = plain answer (refused Failed) ack step.0 refl
uncut m before after (failed history commit) ask_floor answer next step ack = plain answer (refused Failed) ack step.0 refl
uncut m before after (failed history commit) ask_len answer next step ack = plain answer (refused Failed) ack step.0 refl
uncut m before after (failed history commit) (ask_prune location) answer next step ack = plain answer (refused Failed) ack step.0 refl
uncut m before after (failed history commit) (ask_proof question) answer next step ack = plain answer (refused Failed) ack step.0 refl
uncut m before after (failed history commit) ask_close answer next step ack = plain answer has_closed ack step.0 refl
uncut m before after (failed history commit) ask_crash answer next step ack = plain answer still_open ack step.0 refl
uncut m before after (failed history commit) ask_config answer next step ack = plain answer is_set ack step.0 refl
uncut m before after (failed history commit) (ask_cut calls) answer next step ack = plain answer is_set ack step.0 refl

-- without a crash what a request makes of the power leaves a cut
stands_turned : (request : Request) (answer : Answer) (power : Power) (requests : List Request) → AskNoCrash (request ∷ requests)
    → power.left ≡ Some 0 → (turned request answer power).left ≡ Some 0
stands_turned ask_open answer power requests none is = is
stands_turned (ask_commit words metadata) answer power requests none is = is
stands_turned (ask_get key) answer power requests none is = is
stands_turned ask_root answer power requests none is = is
stands_turned ask_commits answer power requests none is = is
stands_turned ask_floor answer power requests none is = is
stands_turned ask_len answer power requests none is = is
stands_turned (ask_prune location) answer power requests none is = is
stands_turned (ask_proof question) answer power requests none is = is
stands_turned ask_close answer power requests none is = is
stands_turned ask_crash answer power requests none is = absurd none
stands_turned ask_config answer power requests none is = is
stands_turned (ask_cut calls) answer power requests none is = ap (after_asking calls) is

fewer_crashes : (request : Request) (requests : List Request) → AskNoCrash (request ∷ requests) → AskNoCrash requests
fewer_crashes ask_open requests none = none
fewer_crashes (ask_commit words metadata) requests none = none
fewer_crashes (ask_get key) requests none = none
fewer_crashes ask_root requests none = none
fewer_crashes ask_commits requests none = none
fewer_crashes ask_floor requests none = none
fewer_crashes ask_len requests none = none
fewer_crashes (ask_prune location) requests none = none
fewer_crashes (ask_proof question) requests none = none
fewer_crashes ask_close requests none = none
fewer_crashes ask_crash requests none = absurd none
fewer_crashes ask_config requests none = none
fewer_crashes (ask_cut calls) requests none = none

pub run_under_a_cut : (m : Machine) (before : Power) (first : State) (requests : List Request) (answers : List Answer) (after : Power)
    (last : State) → IsRun m before first requests answers after last → before.left ≡ Some 0 → AskNoCrash requests
    → AcknowledgeNone answers × (after.left ≡ Some 0)
run_under_a_cut m before first [] [] after last ran cut none =
    (tt, subst (λ (p : Power). p.left ≡ Some 0) (sym ran.0) cut)
run_under_a_cut m before first (request ∷ requests) (answer ∷ answers) after last ran cut none =
    let passes : Passes request answer before ran.0 = ran.3 in
    let spent = subst (λ l. IsSpent l ran.0.left) (stands_turned request answer before requests none cut) passes.left in
    let stands : ran.0.left ≡ Some 0 = spent.1 ∙ ap Some (no_more spent.0 spent.2) in
    let rest = run_under_a_cut m ran.0 ran.1 requests answers after last ran.4 stands (fewer_crashes request requests none) in (
      (
        false_from_ne_true (acknowledges answer)
            (λ ack. both (is_cut before.left) (ap is_cut cut) (uncut m before ran.0 first request answer ran.1 ran.2 ack)),
        rest.0,
      ),
      rest.1,
    )
  where
    both : (b : Bool) → b ≡ true → IsFalse b → ⊥
    both b is none = let bad : true ≡ false = sym is ∙ none in cc

    no_more : (n : ℕ) → n ≤ 0 → n ≡ 0
    no_more n few = omega (arith, few)
run_under_a_cut m before first [] (answer ∷ answers) after last ran cut none = absurd ran
run_under_a_cut m before first (request ∷ requests) [] after last ran cut none = absurd ran
