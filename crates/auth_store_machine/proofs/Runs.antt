-- A run and one step more.
use Rattle.std.proofs.Common.{◌≡◌, ◌+◌, ℕ, Bool, List, [], ◌∷◌, ◌++◌}
use Rattle.std.proofs.Common.{Option, Some, None, is_some, refl, sym, ◌∙◌, ap, subst, append_assoc}
use Rattle.std.proofs.lemmas.List.{append-nil}
use Rattle.fault_storage_parts.specs.Crc32.{crc32}
use Rattle.paged_blob_parts.specs.Caches.{Cache}
use Rattle.paged_blob_parts.specs.Calls.{Call}
use Rattle.paged_blob_parts.specs.Chance.{NoneByChance}
use Rattle.paged_blob_parts.specs.Moments.{Grows, here}
use Rattle.auth_store_device.specs.Devices.{DeviceState}
use Rattle.auth_store_log.specs.Records.{Format}
use Rattle.auth_store_machine.specs.Machine.{Machine, Power, State, closed, live, failed, doubtful, Request, Answer}
use Rattle.auth_store_machine.specs.Machine.{IsStep, IsRunSeen, IsAnswerTo, AreAnswersTo, is_open_after, Passes}
use Rattle.auth_store_machine.specs.Machine.{as_it_is, at_rest, in_doubt}
use Rattle.auth_store_machine.specs.Sound.{IsSoundState, HasSoundStates, IsSoundRun}
use Rattle.auth_store_machine.specs.Standing.{SessionState, StandsFor, IsSure, Steps, Runs, RunsInDoubt, RunsToRest}
use Rattle.auth_store_machine.specs.Standing.{RunsToRestInDoubt, RunsWhole, calls_in, closed_at, page_size_in}
use Rattle.auth_store_machine.specs.Standing.{power_in, power_of}
use Rattle.auth_store_machine.specs.Stores.{StoreState}
use Rattle.auth_store_machine.proofs.Opens.{fewer, grows_on}

-- one step more
pub one_more : (see : State → State) (m : Machine) (before : Power) (first : State) (requests : List Request) (answers : List Answer)
    (at : Power) (now : State) (request : Request) (answer : Answer) (after : Power) (next : State)
    → IsRunSeen see m before first requests answers at now → IsStep m at after (see now) request answer next
    → Passes request answer at after
    → IsRunSeen see m before first (requests ++ request ∷ []) (answers ++ answer ∷ []) after next
one_more see m before first [] [] at now request answer after next ran step passes = (
  after,
  next,
  subst (λ s. IsStep m before after (see s) request answer next) ran.1
      (subst (λ p. IsStep m p after (see now) request answer next) ran.0 step),
  subst (λ p. Passes request answer p after) ran.0 passes,
  (refl, refl),
)
one_more see m before first (r ∷ requests) (a ∷ answers) at now request answer after next ran step passes =
    (ran.0, ran.1, ran.2, ran.3, one_more see m ran.0 ran.1 requests answers at now request answer after next ran.4 step passes)
one_more see m before first [] (a ∷ answers) at now request answer after next ran step passes = absurd ran
one_more see m before first (r ∷ requests) [] at now request answer after next ran step passes = absurd ran

-- and its states are sound
one_more_sound : (format : Format) (see : State → State) (m : Machine) (before : Power) (first : State) (requests : List Request)
    (answers : List Answer) (at : Power) (now : State) (request : Request) (answer : Answer) (after : Power) (next : State)
    (ran : IsRunSeen see m before first requests answers at now) (step : IsStep m at after (see now) request answer next)
    (passes : Passes request answer at after)
    → HasSoundStates format see m before first requests answers at now ran → IsSoundState format next
    → HasSoundStates format see m before first (requests ++ request ∷ []) (answers ++ answer ∷ []) after next
    (one_more see m before first requests answers at now request answer after next ran step passes)
unfolding one_more
one_more_sound format see m before first [] [] at now request answer after next ran step passes sound later = (sound, later)
one_more_sound format see m before first (r ∷ requests) (a ∷ answers) at now request answer after next ran step passes sound later = (
  sound.0,
  one_more_sound format see m ran.0 ran.1 requests answers at now request answer after next ran.4 step passes sound.1 later,
)
one_more_sound format see m before first [] (a ∷ answers) at now request answer after next ran step passes sound later = absurd ran
one_more_sound format see m before first (r ∷ requests) [] at now request answer after next ran step passes sound later = absurd ran

-- so of a run of sound states
goes_on : (format : Format) (see : State → State) (m : Machine) (before : Power) (first : State) (requests : List Request)
    (answers : List Answer) (at : Power) (now : State) (request : Request) (answer : Answer) (after : Power) (next : State)
    → IsSoundRun format see m before first requests answers at now → IsStep m at after (see now) request answer next
    → Passes request answer at after → IsSoundState format next
    → IsSoundRun format see m before first (requests ++ request ∷ []) (answers ++ answer ∷ []) after next
goes_on format see m before first requests answers at now request answer after next (ran, sound) step passes later = (
  one_more see m before first requests answers at now request answer after next ran step passes,
  one_more_sound format see m before first requests answers at now request answer after next ran step passes sound later,
)

-- where no opening is by chance, none is from any state
sure_of : (size : ℕ) (calls : List Call) (state : State) → NoneByChance crc32 size calls → IsSure size calls state
sure_of size calls (closed history pending) none = none
sure_of size calls (live history pruned) none = tt
sure_of size calls (failed history commit) none = tt
sure_of size calls (doubtful history) none = tt

-- in doubt each opening may be
sure_in_doubt : (size : ℕ) (calls : List Call) (state : State) → IsSure size calls (in_doubt state)
sure_in_doubt size calls (closed history pending) = tt
sure_in_doubt size calls (live history pruned) = tt
sure_in_doubt size calls (failed history commit) = tt
sure_in_doubt size calls (doubtful history) = tt

-- what stands for a state stands for it in doubt
pub stands_in_doubt : {R : Type 0} (format : Format) (parts : Option (DeviceState R × Cache)) (store : Option (StoreState R))
    (state : State) → StandsFor format parts store state → StandsFor format parts store (in_doubt state)
stands_in_doubt format parts store (live history pruned) stands = stands
stands_in_doubt format parts store (failed history commit) stands = stands
stands_in_doubt format parts store (doubtful history) stands = stands
stands_in_doubt format (Some parts) None (closed history pending) stands = (stands.0.written, stands.0.kept, stands.1)
stands_in_doubt format None None (closed history pending) stands = absurd stands
stands_in_doubt format None (Some store) (closed history pending) stands = absurd stands
stands_in_doubt format (Some parts) (Some store) (closed history pending) stands = absurd stands

-- the states for which a session stands are sound
abbrev pub AreSound : {R : Type 0} → Format → SessionState R → Type 0
AreSound format now = (state : State) → StandsFor format now.parts now.store state → IsSoundState format state

-- a run of a session with a step behind it is one
pub runs_go_on : {R : Type 0} (m : Machine) (format : Format) (first now next : SessionState R) (requests : List Request)
    (answers : List Answer) (request : Request) (answer : Answer) → page_size_in next.parts next.store ≡ page_size_in now.parts now.store
    → Grows (calls_in now.parts now.store) (calls_in next.parts next.store) → Runs m format first requests answers now
    → Steps m format now request answer next → AreSound format next
    → Runs m format first (requests ++ request ∷ []) (answers ++ answer ∷ []) next
runs_go_on m format first now next requests answers request answer sized grows runs steps sound chance state stands =
    let at = runs (subst (λ size. NoneByChance crc32 size (calls_in now.parts now.store)) sized
    (fewer crc32 (page_size_in next.parts next.store) grows chance)) state stands in
    let sure = sure_of (page_size_in next.parts next.store) (calls_in next.parts next.store) at.0 chance in
    let step = steps.1 at.0 sure at.2 in (
      step.0,
      goes_on format as_it_is m (power_in first.parts first.store) state requests answers (power_in now.parts now.store) at.0
          request answer (power_in next.parts next.store) step.0 at.1 step.1 steps.0 (sound step.0 step.2),
      step.2,
    )

-- no step is a run
pub runs_none : {R : Type 0} (m : Machine) (format : Format) (first : SessionState R) → AreSound format first
    → Runs m format first [] [] first
runs_none m format first sound chance state stands = (state, ((refl, refl), sound state stands), stands)

-- so in doubt
pub runs_go_on_in_doubt : {R : Type 0} (m : Machine) (format : Format) (first now next : SessionState R) (requests : List Request)
    (answers : List Answer) (request : Request) (answer : Answer) → RunsInDoubt m format first requests answers now
    → Steps m format now request answer next → AreSound format next
    → RunsInDoubt m format first (requests ++ request ∷ []) (answers ++ answer ∷ []) next
runs_go_on_in_doubt m format first now next requests answers request answer runs steps sound state stands =
    let at = runs state stands in
    let step = steps.1 (in_doubt at.0) (sure_in_doubt (page_size_in next.parts next.store) (calls_in next.parts next.store) at.0)
    (stands_in_doubt format now.parts now.store at.0 at.2) in (
      step.0,
      goes_on format in_doubt m (power_in first.parts first.store) state requests answers (power_in now.parts now.store) at.0
          request answer (power_in next.parts next.store) step.0 at.1 step.1 steps.0 (sound step.0 step.2),
      step.2,
    )

runs_none_in_doubt : {R : Type 0} (m : Machine) (format : Format) (first : SessionState R) → AreSound format first
    → RunsInDoubt m format first [] [] first
runs_none_in_doubt m format first sound state stands = (state, ((refl, refl), sound state stands), stands)

-- whether a store is open after answers
pub opens : Bool → List Answer → Bool
opens before [] = before
opens before (answer ∷ answers) = opens (is_open_after before answer) answers

opens_next : (before : Bool) (answers : List Answer) (answer : Answer)
    → opens before (answers ++ answer ∷ []) ≡ is_open_after (opens before answers) answer
unfolding opens
opens_next before [] answer = refl
opens_next before (a ∷ answers) answer = opens_next (is_open_after before a) answers answer

-- one answer more of its kind
answers_next : (before : Bool) (requests : List Request) (answers : List Answer) (request : Request) (answer : Answer)
    → AreAnswersTo before requests answers → IsAnswerTo (opens before answers) request answer
    → AreAnswersTo before (requests ++ request ∷ []) (answers ++ answer ∷ [])
unfolding opens
answers_next before [] [] request answer kinds kind = (kind, tt)
answers_next before (r ∷ requests) (a ∷ answers) request answer kinds kind =
    (kinds.0, answers_next (is_open_after before a) requests answers request answer kinds.1 kind)
answers_next before [] (a ∷ answers) request answer kinds kind = absurd kinds
answers_next before (r ∷ requests) [] request answer kinds kind = absurd kinds

-- what was taken of some requests, and what is left
pub record Taken {R : Type 0} (m : Machine) (format : Format) (first : SessionState R) (whole rest : List Request) (given : List Answer)
    (now : SessionState R) : Type 0 where
  pub before : List Request
  pub is : before ++ rest ≡ whole
  pub ran : Runs m format first before given now
  pub ran_in_doubt : RunsInDoubt m format first before given now
  pub kinds : AreAnswersTo (is_some first.store) before given
  pub is_open : is_some now.store ≡ opens (is_some first.store) given
  pub sized : page_size_in now.parts now.store ≡ page_size_in first.parts first.store
  pub grown : Grows (calls_in first.parts first.store) (calls_in now.parts now.store)

pub taken_none : {R : Type 0} (m : Machine) (format : Format) (first : SessionState R) (whole rest : List Request) (given : List Answer)
    → rest ≡ whole → given ≡ [] → AreSound format first → Taken m format first whole rest given first
unfolding opens
taken_none m format first whole rest given is none sound = record {
  before = [];
  is = is;
  ran = subst (λ answers. Runs m format first [] answers first) (sym none) (runs_none m format first sound);
  ran_in_doubt = subst (λ answers. RunsInDoubt m format first [] answers first) (sym none) (runs_none_in_doubt m format first sound);
  kinds = subst (λ answers. AreAnswersTo (is_some first.store) [] answers) (sym none) tt;
  is_open = subst (λ answers. is_some first.store ≡ opens (is_some first.store) answers) (sym none) refl;
  sized = refl;
  grown = here tt;
}

-- one step more
pub taken_next : {R : Type 0} (make : ℕ → Machine) (format : Format) (first : SessionState R) (whole left rest : List Request)
    (given more : List Answer) (now next : SessionState R) (request : Request) (answer : Answer)
    → Taken (make (page_size_in first.parts first.store)) format first whole left given now → left ≡ request ∷ rest
    → Steps (make (page_size_in now.parts now.store)) format now request answer next
    → IsAnswerTo (is_some now.store) request answer → is_some next.store ≡ is_open_after (is_some now.store) answer
    → Grows (calls_in now.parts now.store) (calls_in next.parts next.store)
    → page_size_in next.parts next.store ≡ page_size_in now.parts now.store → more ≡ given ++ answer ∷ [] → AreSound format next
    → Taken (make (page_size_in first.parts first.store)) format first whole rest more next
taken_next make format first whole left rest given more now next request answer taken is steps kind opens_to grows sized gives sound =
    let m = make (page_size_in first.parts first.store) in
    let was = is_some first.store in
    let step = subst (λ size. Steps (make size) format now request answer next) taken.sized steps in
    record {
      before = taken.before ++ request ∷ [];
      is = append_assoc taken.before (request ∷ []) rest ∙ (ap (λ l. taken.before ++ l) (sym is) ∙ taken.is);
      ran = subst (λ answers. Runs m format first (taken.before ++ request ∷ []) answers next) (sym gives)
          (runs_go_on m format first now next taken.before given request answer sized grows taken.ran
          step sound);
      ran_in_doubt = subst (λ answers. RunsInDoubt m format first (taken.before ++ request ∷ []) answers next) (sym gives)
          (runs_go_on_in_doubt m format first now next taken.before given request answer taken.ran_in_doubt step sound);
      kinds = subst (λ answers. AreAnswersTo was (taken.before ++ request ∷ []) answers) (sym gives)
          (answers_next was taken.before given request answer taken.kinds
          (subst (λ is_open. IsAnswerTo is_open request answer) taken.is_open kind));
      is_open = opens_to ∙ (ap (λ is_open. is_open_after is_open answer) taken.is_open
          ∙ (sym (opens_next was given answer) ∙ ap (opens was) (sym gives)));
      sized = sized ∙ taken.sized;
      grown = grows_on (calls_in first.parts first.store) (calls_in now.parts now.store) (calls_in next.parts next.store) taken.grown grows;
    }

pub taken_end : {R : Type 0} (m : Machine) (format : Format) (first : SessionState R) (whole left : List Request) (given : List Answer)
    (now : SessionState R) → Taken m format first whole left given now → left ≡ [] → Runs m format first whole given now
taken_end m format first whole left given now taken none =
    subst (λ requests. Runs m format first requests given now)
    (sym (append-nil taken.before) ∙ (ap (λ l. taken.before ++ l) (sym none) ∙ taken.is)) taken.ran

pub taken_end_in_doubt : {R : Type 0} (m : Machine) (format : Format) (first : SessionState R) (whole left : List Request)
    (given : List Answer) (now : SessionState R) → Taken m format first whole left given now → left ≡ []
    → RunsInDoubt m format first whole given now
taken_end_in_doubt m format first whole left given now taken none =
    subst (λ requests. RunsInDoubt m format first requests given now)
    (sym (append-nil taken.before) ∙ (ap (λ l. taken.before ++ l) (sym none) ∙ taken.is)) taken.ran_in_doubt

pub taken_kinds : {R : Type 0} (m : Machine) (format : Format) (first : SessionState R) (whole left : List Request) (given : List Answer)
    (now : SessionState R) → Taken m format first whole left given now → left ≡ [] → AreAnswersTo (is_some first.store) whole given
taken_kinds m format first whole left given now taken none =
    subst (λ requests. AreAnswersTo (is_some first.store) requests given)
    (sym (append-nil taken.before) ∙ (ap (λ l. taken.before ++ l) (sym none) ∙ taken.is)) taken.kinds

-- a run of a session that is closed at its end
pub runs_to_rest : {R : Type 0} (m : Machine) (format : Format) (first now : SessionState R) (requests : List Request)
    (answers : List Answer) (device : DeviceState R) (cache : Cache)
    → Runs m format first requests answers now → device.calls ≡ calls_in now.parts now.store
    → m.page_size ≡ page_size_in now.parts now.store → power_of device cache ≡ power_in now.parts now.store
    → ((state : State) → StandsFor format now.parts now.store state → StandsFor format (Some (device, cache)) None (at_rest state))
    → RunsToRest m format first requests answers device cache
runs_to_rest m format first now requests answers device cache runs calls paged power rests chance state stands =
    let ran = runs (subst (λ size. NoneByChance crc32 size (calls_in now.parts now.store)) paged
    (subst (NoneByChance crc32 m.page_size) calls chance)) state stands in (
      ran.0,
      subst (λ p. IsSoundRun format as_it_is m (power_in first.parts first.store) state requests answers p ran.0) (sym power) ran.1,
      rests ran.0 ran.2,
    )

-- so in doubt
pub runs_to_rest_in_doubt : {R : Type 0} (m : Machine) (format : Format) (first now : SessionState R) (requests : List Request)
    (answers : List Answer) (device : DeviceState R) (cache : Cache)
    → RunsInDoubt m format first requests answers now → power_of device cache ≡ power_in now.parts now.store
    → ((state : State) → StandsFor format now.parts now.store state → StandsFor format (Some (device, cache)) None (at_rest state))
    → RunsToRestInDoubt m format first requests answers device cache
runs_to_rest_in_doubt m format first now requests answers device cache runs power rests state stands =
    let ran = runs state stands in (
      ran.0,
      subst (λ p. IsSoundRun format in_doubt m (power_in first.parts first.store) state requests answers p ran.0) (sym power) ran.1,
      rests ran.0 ran.2,
    )

-- so of a closed session
pub runs_whole : {R : Type 0} (m : Machine) (format : Format) (first now : SessionState R) (requests : List Request)
    (answers : List Answer) (device new : DeviceState R) (cache last : Cache) → first ≡ closed_at device cache
    → Runs m format first requests answers now → new.calls ≡ calls_in now.parts now.store
    → last.page_size + 12 ≡ page_size_in now.parts now.store → m.page_size ≡ page_size_in now.parts now.store
    → power_of new last ≡ power_in now.parts now.store
    → ((state : State) → StandsFor format now.parts now.store state → StandsFor format (Some (new, last)) None (at_rest state))
    → RunsWhole m format device cache requests answers new last
runs_whole m format first now requests answers device new cache last is runs calls sized paged power rests =
    subst (λ s. RunsToRest m format s requests answers new last) is
    (runs_to_rest m format first now requests answers new last runs calls paged power rests)
