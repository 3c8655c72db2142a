-- A call of an open store is a step of the machine.
use Rattle.std.proofs.Common.{◌≡◌, ◌+◌, ◌<◌, ◌≤◌, ℕ, List, ◌⊎◌}
use Rattle.std.proofs.Common.{Option, Some, None, refl, sym, ◌∙◌, subst, ap, inl, inr, ⊎_elim}
use Rattle.std.specs.Prelude.{Result, Ok, Err, IfOk, IfErr, OnOk, OnErr, option_map}
use Rattle.auth_store_parts.specs.Batch.{Word}
use Rattle.auth_store_parts.specs.History.{History, Commit, latest_map}
use Rattle.auth_store_parts.specs.Map.{value_at}
use Rattle.auth_store_log.specs.Records.{Format}
use Rattle.auth_store_ledger.specs.Store.{commit_after, floor_of, IsPrunedUpTo}
use Rattle.auth_store_proving.specs.declared.error.Unprovable.{Unprovable as NoProof}
use Rattle.auth_store_machine.specs.declared.error.StoreError.{StoreError}
use Rattle.auth_store_machine.specs.declared.error.StoreError.TheVariants.{Fault, PowerCut, NumberEnded, Memory}
use Rattle.auth_store_machine.specs.declared.error.StoreError.TheVariants.{Corrupt, Failed, PastFloor, Inactive}
use Rattle.auth_store_machine.specs.declared.error.StoreError.TheVariants.{OutOfRange, Pruned, EmptyRange, Header}
use Rattle.auth_store_machine.specs.Machine.{Machine, Power, State, closed, live, failed, doubtful, Request, ask_open}
use Rattle.auth_store_machine.specs.Machine.{ask_crash, ask_commit, ask_get, ask_prune, ask_proof, Answer, still_open}
use Rattle.auth_store_machine.specs.Machine.{committed, value, pruned_to, proof, refused, IsStep, IsStepLive}
use Rattle.auth_store_machine.specs.Machine.{IsStepFailed, MayRefuseRead, commit_of, Question, Proved, proof_of}
use Rattle.auth_store_machine.specs.Machine.{told_proof}
use Rattle.auth_store_session.specs.MachineCode.{answer_of, request_of}
use Rattle.auth_store_session.specs.declared.session.Step.{Step}
use Rattle.auth_store_session.specs.declared.session.Step.TheVariants as steps
use Rattle.auth_store_session.specs.declared.sizes.Sizes.{Sizes}
use Rattle.auth_store_machine.proofs.Powers.{leaves_none, stays}
use Rattle.auth_store_machine.specs.Standing.{AnswersProof, Commits, IsLeftOpen, StandsFor, MovesOpen, StepsOpen, power_of, result_of}
use Rattle.auth_store_machine.specs.Stores.{LiveState, StoreState, IsLiveAt, OpeningsShow, with_pruned}

-- what a failed store answers to a request
abbrev pub IsRefusedOnceFailed : Request → Type 0
IsRefusedOnceFailed request =
    (power : Power) (history : History) (commit : Commit) (answer : Answer) → answer ≡ refused Failed
    → IsStepFailed power power history commit request answer (failed history commit)

-- a failed store stays as it is
pub stays_failed : {R T : Type 0} (m : Machine) (format : Format) (old new : StoreState R) (request : Request) (said : T → Answer)
    (result : Result T StoreError) (history : History) (commit : Commit) → (result ≡ Err Failed) × (new ≡ old)
    → IsRefusedOnceFailed request → StandsFor format None (Some old) (failed history commit)
    → (next : State) × IsStep m (power_of old.device old.cache) (power_of new.device new.cache) (failed history commit) request
    (answer_of said result) next × StandsFor format None (Some new) next
stays_failed m format old new request said result history commit lost is stands = (
  failed history commit,
  subst (λ s. IsStepFailed (power_of old.device old.cache) (power_of s.device s.cache) history commit request (answer_of said result)
      (failed history commit)) (sym lost.1)
      (is (power_of old.device old.cache) history commit (answer_of said result) (ap (answer_of said) lost.0)),
  subst (λ s. StandsFor format None (Some s) (failed history commit)) (sym lost.1) stands,
)

-- a commit
pub commits_in : {R D : Type 0} (m : Machine) (format : Format) (encoding : D → List ℕ) (words : List Word) (metadata : Option (List ℕ))
    (old new : StoreState R) (result : Result D StoreError) → m.page_size ≡ new.cache.page_size + 12 → new.pruned ≡ old.pruned
    → ((history : History) → IsLiveAt old history → Commits m format words metadata history old (result_of encoding result) new)
    → (old.live ≡ None → (result ≡ Err Failed) × (new ≡ old))
    → MovesOpen m format old (ask_commit words metadata) (answer_of (λ root. committed (encoding root)) result) new
commits_in m format encoding words metadata old new (Ok root) sized kept commits lost (live history pruned) stands =
    let c = commits history stands.0 in
    (live (commit_after words metadata history) pruned, inl (ap committed c.0, refl, c.2, c.3), (c.1, kept ∙ stands.1))
commits_in m format encoding words metadata old new (Err e) sized kept commits lost (live history pruned) stands = ⊎_elim
    (λ at. (live history pruned, inr (e, refl, inl (refl, at.1)), (at.0, kept ∙ stands.1)))
    (λ gone. (
      failed history (commit_of words metadata history),
      inr (e, refl, inr (refl, gone.1, gone.3)),
      (gone.0, subst (λ size. OpeningsShow format size history (Some (commit_of words metadata history)) new.device.calls) sized gone.2),
    ))
    (commits history stands.0)
commits_in m format encoding words metadata old new result sized kept commits lost (failed history commit) stands =
    stays_failed m format old new (ask_commit words metadata) (λ root. committed (encoding root)) result history commit (lost stands.0)
    (λ power h c answer is. (is, refl, refl)) stands
commits_in m format encoding words metadata old new result sized kept commits lost (closed history pending) stands = absurd stands
commits_in m format encoding words metadata old new result sized kept commits lost (doubtful history) stands = absurd stands

-- a value that is read
pub gets_in : {R V : Type 0} (m : Machine) (format : Format) (encoding : V → List ℕ) (key : List ℕ) (old new : StoreState R)
    (result : Result (Option V) StoreError)
    → ((history : History) → IsLiveAt old history
    → IfOk result (λ found. option_map encoding found ≡ value_at (latest_map history) key))
    → ((history : History) → IsLiveAt old history
    → IfErr result (MayRefuseRead (power_of old.device old.cache) (power_of new.device new.cache)))
    → ((history : History) → IsLiveAt old history → IsLiveAt new history) → new.pruned ≡ old.pruned
    → new.device.calls ≡ old.device.calls → (old.live ≡ None → (result ≡ Err Failed) × (new ≡ old))
    → MovesOpen m format old (ask_get key) (answer_of (λ found. value (option_map encoding found)) result) new
gets_in m format encoding key old new (Ok found) is refuses stays kept calls lost (live history pruned) stands =
    (live history pruned, (refl, calls, inl (ap value (is history stands.0))), (stays history stands.0, kept ∙ stands.1))
gets_in m format encoding key old new (Err e) is refuses stays kept calls lost (live history pruned) stands =
    (live history pruned, (refl, calls, inr (e, refl, refuses history stands.0)), (stays history stands.0, kept ∙ stands.1))
gets_in m format encoding key old new result is refuses stays kept calls lost (failed history commit) stands =
    stays_failed m format old new (ask_get key) (λ found. value (option_map encoding found)) result history commit (lost stands.0)
    (λ power h c answer at. (at, refl, refl)) stands
gets_in m format encoding key old new result is refuses stays kept calls lost (closed history pending) stands = absurd stands
gets_in m format encoding key old new result is refuses stays kept calls lost (doubtful history) stands = absurd stands

-- a read may be refused for any proof
pub refused_read : {A : Type 0} (before after : Power) (said : A → Proved) (expected : Result Proved NoProof) (e : StoreError)
    → MayRefuseRead before after e → AnswersProof before after said expected (Err e)
refused_read before after said expected (Fault kind) cause = cause
refused_read before after said expected PowerCut cause = cause
refused_read before after said expected NumberEnded cause = cause
refused_read before after said expected Memory cause = cause
refused_read before after said expected Corrupt cause = cause
refused_read before after said expected Failed cause = cause
refused_read before after said expected PastFloor cause = cause
refused_read before after said expected (Header fault) cause = cause
refused_read before after said expected Inactive cause = absurd cause
refused_read before after said expected OutOfRange cause = absurd cause
refused_read before after said expected Pruned cause = absurd cause
refused_read before after said expected EmptyRange cause = absurd cause

-- what a call that is asked for a proof tells
told_in : {P : Type 0} (before after : Power) (said : P → Proved) (expected : Result Proved NoProof) (result : Result P StoreError)
    → AnswersProof before after said expected result
    → (answer_of (λ found. proof (said found)) result ≡ told_proof expected)
    ⊎ ((error : StoreError) × (answer_of (λ found. proof (said found)) result ≡ refused error) × MayRefuseRead before after error)
told_in before after said expected (Ok found) is = inl (sym (ap told_proof is))
told_in before after said expected (Err Inactive) is = inl (sym (ap told_proof is))
told_in before after said expected (Err OutOfRange) is = inl (sym (ap told_proof is))
told_in before after said expected (Err Pruned) is = inl (sym (ap told_proof is))
told_in before after said expected (Err EmptyRange) is = inl (sym (ap told_proof is))
told_in before after said expected (Err (Fault kind)) is = inr (Fault kind, refl, is)
told_in before after said expected (Err PowerCut) is = inr (PowerCut, refl, is)
told_in before after said expected (Err NumberEnded) is = inr (NumberEnded, refl, is)
told_in before after said expected (Err Memory) is = inr (Memory, refl, is)
told_in before after said expected (Err Corrupt) is = inr (Corrupt, refl, is)
told_in before after said expected (Err Failed) is = inr (Failed, refl, is)
told_in before after said expected (Err PastFloor) is = inr (PastFloor, refl, is)
told_in before after said expected (Err (Header fault)) is = inr (Header fault, refl, is)

-- a proof that is made
pub proves_in : {R P : Type 0} (m : Machine) (format : Format) (said : P → Proved) (question : Question) (old new : StoreState R)
    (result : Result P StoreError)
    → ((history : History) → IsLiveAt old history → AnswersProof (power_of old.device old.cache) (power_of new.device new.cache) said
    (proof_of m history old.pruned question) result)
    → ((history : History) → IsLiveAt old history → IsLiveAt new history) → new.pruned ≡ old.pruned
    → new.device.calls ≡ old.device.calls → (old.live ≡ None → (result ≡ Err Failed) × (new ≡ old))
    → MovesOpen m format old (ask_proof question) (answer_of (λ found. proof (said found)) result) new
proves_in m format said question old new result is stays kept calls lost (live history pruned) stands =
    let before = power_of old.device old.cache in
    let after = power_of new.device new.cache in (
      live history pruned,
      (
        refl,
        calls,
        told_in before after said (proof_of m history pruned question) result
            (subst (λ (n : ℕ). AnswersProof before after said (proof_of m history n question) result) stands.1 (is history stands.0)),
      ),
      (stays history stands.0, kept ∙ stands.1),
    )
proves_in m format said question old new result is stays kept calls lost (failed history commit) stands =
    stays_failed m format old new (ask_proof question) (λ found. proof (said found)) result history commit (lost stands.0)
    (λ power h c answer at. (at, refl, refl)) stands
proves_in m format said question old new result is stays kept calls lost (closed history pending) stands = absurd stands
proves_in m format said question old new result is stays kept calls lost (doubtful history) stands = absurd stands

-- a store that is pruned
pub prunes_in : {R : Type 0} (m : Machine) (format : Format) (location : ℕ) (old new : StoreState R) (result : Result ℕ StoreError)
    → OnOk result (new ≡ record old { live = with_pruned old.live new.pruned; pruned = new.pruned })
    → ((history : History) → IsLiveAt old history → IfOk result (λ chunks. (new.pruned ≡ chunks) × (location ≤ floor_of history)
    × IsPrunedUpTo m.setting history old.pruned location chunks))
    → ((history : History) → IsLiveAt old history → IfErr result (λ e. ((e ≡ PastFloor) × (floor_of history < location))
    ⊎ ((e ≡ Memory) × (location ≤ floor_of history))))
    → OnErr result (new ≡ old) → (old.live ≡ None → result ≡ Err Failed)
    → MovesOpen m format old (ask_prune location) (answer_of pruned_to result) new
prunes_in {R = R} m format location old new (Ok chunks) rest done past same lost (live history pruned) stands =
    let d = done history stands.0 in (
      live history chunks,
      (
        inl (chunks, refl, refl, d.1, subst (λ n. IsPrunedUpTo m.setting history n location chunks) stands.1 d.2),
        ap (λ (s : StoreState R). power_of s.device s.cache) rest,
      ),
      (
        (
          record stands.0.0 { pruned = new.pruned },
          ap (λ (s : StoreState R). s.live) rest ∙ ap (λ (l : Option LiveState). with_pruned l new.pruned) stands.0.1,
          stands.0.2,
        ),
        d.0,
      ),
    )
prunes_in {R = R} m format location old new (Err e) rest done past same lost (live history pruned) stands = (
  live history pruned,
  (
    ⊎_elim (λ p. inr (inl (ap refused p.0, refl, p.1))) (λ lacks. inr (inr (ap refused lacks.0, refl, lacks.1))) (past history stands.0),
    ap (λ (s : StoreState R). power_of s.device s.cache) same,
  ),
  subst (λ (s : StoreState R). StandsFor format None (Some s) (live history pruned)) (sym same) stands,
)
prunes_in {R = R} m format location old new (Ok chunks) rest done past same lost (failed history commit) stands =
    absurd (ok_err chunks Failed (lost stands.0))
  where
    ok_err : (n : ℕ) (e : StoreError) → Ok n ≡ Err e → ⊥
    ok_err n e is = cc
prunes_in {R = R} m format location old new (Err e) rest done past same lost (failed history commit) stands =
    stays_failed m format old new (ask_prune location) pruned_to (Err e) history commit (lost stands.0, same)
    (λ power h c answer at. (at, refl, refl)) stands
prunes_in m format location old new result rest done past same lost (closed history pending) stands = absurd stands
prunes_in m format location old new result rest done past same lost (doubtful history) stands = absurd stands

-- what an open store tells of itself
pub tells_in : {R T : Type 0} (m : Machine) (format : Format) (store : StoreState R) (request : Request) (said : T → Answer)
    (told : History → T) (result : Result T StoreError)
    → ((history : History) → IsLiveAt store history → result ≡ Ok (told history))
    → (store.live ≡ None → result ≡ Err Failed)
    → ((power : Power) (history : History) (pruned : ℕ) (answer : Answer) → answer ≡ said (told history)
    → IsStepLive m power power history pruned request answer (live history pruned))
    → IsRefusedOnceFailed request
    → MovesOpen m format store request (answer_of said result) store
tells_in m format store request said told result is lost steps fails (live history pruned) stands = (
  live history pruned,
  steps (power_of store.device store.cache) history pruned (answer_of said result)
      (ap (answer_of said) (is history stands.0)),
  stands,
)
tells_in m format store request said told result is lost steps fails (failed history commit) stands =
    stays_failed m format store store request said result history commit (lost stands.0, refl) fails stands
tells_in m format store request said told result is lost steps fails (closed history pending) stands = absurd stands
tells_in m format store request said told result is lost steps fails (doubtful history) stands = absurd stands

-- a store that stays as it is
pub stays_in : {R : Type 0} (m : Machine) (format : Format) (old new : StoreState R) (request : Request) (answer : Answer)
    → new.cache ≡ old.cache → new.live ≡ old.live → new.pruned ≡ old.pruned → new.device.calls ≡ old.device.calls
    → ((history : History) (pruned : ℕ)
    → IsStepLive m (power_of old.device old.cache) (power_of new.device new.cache) history pruned request answer (live history pruned))
    → ((history : History) (commit : Commit) → IsStepFailed (power_of old.device old.cache) (power_of new.device new.cache) history commit
    request answer (failed history commit))
    → MovesOpen m format old request answer new
stays_in m format old new request answer cache alive kept calls steps fails (live history pruned) stands = (
  live history pruned,
  steps history pruned,
  ((stands.0.0, alive ∙ stands.0.1, stands.0.2), kept ∙ stands.1),
)
stays_in m format old new request answer cache alive kept calls steps fails (failed history commit) stands = (
  failed history commit,
  fails history commit,
  (
    alive ∙ stands.0,
    subst (λ c. OpeningsShow format (c.page_size + 12) history (Some commit) new.device.calls) (sym cache)
        (subst (OpeningsShow format (old.cache.page_size + 12) history (Some commit)) (sym calls) stands.1),
  ),
)
stays_in m format old new request answer cache alive kept calls steps fails (closed history pending) stands = absurd stands
stays_in m format old new request answer cache alive kept calls steps fails (doubtful history) stands = absurd stands

-- an open store that is to be opened, or to crash
pub still_open_in : {R K V : Type 0} (m : Machine) (format : Format) (keys : K → List ℕ) (values : V → List ℕ) (step : Step K V)
    (store : StoreState R) → ((sizes : Sizes) × (step ≡ steps.Open sizes)) ⊎ ((step ≡ steps.Crash) ⊎ (step ≡ steps.Close))
    → IsLeftOpen (request_of keys values step) → StepsOpen m format store (request_of keys values step) still_open store
still_open_in m format keys values step store (inl is) left =
    subst (λ s. StepsOpen m format store (request_of keys values s) still_open store) (sym is.1) (
      stays 1 None (power_of store.device store.cache) refl refl,
      stays_in m format store store ask_open still_open refl refl refl refl (λ history pruned. (refl, refl, refl)) (λ history commit. (refl, refl, refl)),
    )
still_open_in m format keys values step store (inr (inl is)) left =
    subst (λ s. StepsOpen m format store (request_of keys values s) still_open store) (sym is) (
      leaves_none None store.device store.cache refl refl,
      stays_in m format store store ask_crash still_open refl refl refl refl (λ history pruned. (refl, refl, refl)) (λ history commit. (refl, refl, refl)),
    )
still_open_in m format keys values step store (inr (inr is)) left = absurd (subst (λ s. IsLeftOpen (request_of keys values s)) is left)
