-- Steps of a session without an open store, and what closing leaves.
use Rattle.std.proofs.Common.{◌≡◌, ◌⊎◌, ◌+◌, ℕ, Bool, List, ◌∷◌, Option}
use Rattle.std.proofs.Common.{Some, None, true, false, is_some, refl, sym, ◌∙◌, subst, ap, inl, inr}
use Rattle.fault_storage_parts.specs.Crc32.{crc32}
use Rattle.paged_blob_parts.specs.Caches.{Cache}
use Rattle.paged_blob_parts.specs.Calls.{Call, opened, file_of}
use Rattle.paged_blob_parts.specs.Chance.{NoneByChance}
use Rattle.paged_blob_parts.specs.Images.{IsImage}
use Rattle.paged_blob_parts.specs.Moments.{Grows, Through, here}
use Rattle.auth_store_parts.specs.History.{History, Commit}
use Rattle.auth_store_log.specs.Records.{Format, begun, history_bytes, recovered_log}
use Rattle.auth_store_log.specs.Shown.{IsShown}
use Rattle.auth_store_device.specs.Devices.{DeviceState, is_cut}
use Rattle.std.specs.Prelude.{IsFalse, IfSome}
use Rattle.fault_storage.specs.Stores.{Store}
use Rattle.auth_store_device.specs.Logs.{HasOwnHeader}
use Rattle.auth_store_machine.specs.declared.error.StoreError.{StoreError}
use Rattle.auth_store_machine.specs.declared.error.StoreError.TheVariants.{Fault, PowerCut, NumberEnded, Memory}
use Rattle.auth_store_machine.specs.declared.error.StoreError.TheVariants.{Corrupt, Failed, PastFloor, Inactive}
use Rattle.auth_store_machine.specs.declared.error.StoreError.TheVariants.{OutOfRange, Pruned, EmptyRange, Header}
use Rattle.auth_store_machine.specs.Machine as machine
use Rattle.auth_store_machine.specs.Machine.{Machine, Power, State, closed, live, failed, doubtful, Request, ask_open}
use Rattle.auth_store_machine.specs.Machine.{Answer, refused, at_rest, IsShownOf, IsStepClosed, IsStepInDoubt}
use Rattle.auth_store_machine.specs.Machine.{IsAnswerTo, IsSaid, is_open_after, MayRefuseOpening}
use Rattle.auth_store_session.specs.MachineCode.{request_of, config_after, config_after_all, IsLeftBy}
use Rattle.auth_store_session.specs.declared.session.Step.{Step}
use Rattle.auth_store_session.specs.declared.session.Step.TheVariants as steps
use Rattle.fault_storage_parts.specs.declared.config.Config.{Config}
use Rattle.auth_store_machine.specs.Standing.{StandsFor, Moves, Steps, StepsOpen, SessionState, IsSession, IsAtRest}
use Rattle.auth_store_machine.specs.Standing.{IsLeftOpen, calls_in, closed_at, page_size_in, IsOpenedThrough}
use Rattle.auth_store_machine.specs.Standing.{IsShownThrough, IsRecovered, IsOpenError, power_of, shown_of}
use Rattle.auth_store_machine.specs.Stores.{StoreState, IsCache, IsLiveAt, IsNoHistory, IsWritten, OpeningsKeep, OpeningsShow}
use Rattle.auth_store_machine.proofs.Kept.{begun_same, some_bytes, opened_keeps, opening_begins}
use Rattle.auth_store_machine.proofs.Opens.{fewer, opening_shows, still_shows, grown, behind}

-- what a law says of an opening
abbrev pub ShowsWhatStood : Type 0
ShowsWhatStood =
    (format : Format) (size : ℕ) (history now : History) (pending : Option Commit) (calls : List Call) (shown : List ℕ)
    → OpeningsShow format size history pending calls → IsWritten format now → IsImage (file_of calls) shown
    → NoneByChance crc32 size (opened shown ∷ calls) → history_bytes format now ≡ begun format (recovered_log format crc32 size shown)
    → IsShownOf history pending now

abbrev pub open_at : {R : Type 0} → StoreState R → SessionState R
open_at store = record { parts = None; store = Some store }

-- an opening
pub opens_in : {R : Type 0} (m : Machine) (format : Format) (device : DeviceState R) (cache : Cache) (store : StoreState R)
    → ShowsWhatStood → store.cache.page_size ≡ cache.page_size → IsFalse (is_cut device.left) → store.pruned ≡ 0
    → ((history : History) × IsLiveAt store history × IsRecovered format (cache.page_size + 12) (shown_of device) history)
    → IsShownThrough format (cache.page_size + 12) (shown_of device) device.calls store.device.calls
    → Moves m format (closed_at device cache) ask_open machine.opened (open_at store)
opens_in m format device cache store law sized uncut whole recovered shown (closed history pending) none stands =
    let size = cache.page_size + 12 in
    let now = subst (λ s. NoneByChance crc32 (s + 12) store.device.calls) sized none in (
      live recovered.0 0,
      inl (
        refl,
        uncut,
        (
          recovered.0,
          law format size history recovered.0 pending device.calls (shown_of device) stands.0 recovered.2.0 shown.0
              (fewer crc32 size shown.1 now) recovered.2.1,
          refl,
        ),
      ),
      (recovered.1, whole),
    )
opens_in m format device cache store law sized uncut whole recovered shown (doubtful history) none stands =
    let size = cache.page_size + 12 in (
      live recovered.0 0,
      inl (
        refl,
        uncut,
        (
          recovered.0,
          opening_begins format size history recovered.0 device.calls (shown_of device) stands.0 recovered.2.0 stands.1 shown.0 recovered.2.1,
          refl,
        ),
      ),
      (recovered.1, whole),
    )
opens_in m format device cache store law sized uncut whole recovered shown (live history pruned) none stands = absurd stands
opens_in m format device cache store law sized uncut whole recovered shown (failed history commit) none stands = absurd stands

-- what an opening shows is the log of a history
shown_has : (format : Format) (history : History) (pending : Option Commit) (log : List ℕ) → IsWritten format history
    → IfSome pending (λ commit. IsWritten format (commit ∷ history)) → IsShown format history pending log → IsNoHistory format log → ⊥
shown_has format history None log written next (inl shown) none =
    none history written.states written.recorded
    (sym (begun_same format log (λ e. some_bytes format history (sym shown ∙ e)) ∙ shown))
shown_has format history None log written next (inr empty) none =
    none history written.states written.recorded (ap (history_bytes format) empty.0 ∙ ap (begun format) (sym empty.1))
shown_has format history (Some commit) log written next (inl (inl shown)) none =
    none history written.states written.recorded
    (sym (begun_same format log (λ e. some_bytes format history (sym shown ∙ e)) ∙ shown))
shown_has format history (Some commit) log written next (inl (inr shown)) none =
    none (commit ∷ history) next.states next.recorded
    (sym (begun_same format log (λ e. some_bytes format (commit ∷ history) (sym shown ∙ e)) ∙ shown))
shown_has format history (Some commit) log written next (inr empty) none =
    none history written.states written.recorded (ap (history_bytes format) empty.0 ∙ ap (begun format) (sym empty.1))

-- why an opening is refused, where no opening is by chance and the log is the device's own
refuses_for : {R : Type 0} (m : Machine) (format : Format) (device new : DeviceState R) (cache now : Cache) (history : History)
    (pending : Option Commit) (e : StoreError) → OpeningsShow format m.page_size history pending device.calls
    → HasOwnHeader device.storage.inner → NoneByChance crc32 m.page_size new.calls → IsOpenError m format device cache new now e
    → MayRefuseOpening m (power_of device cache) (power_of new now) e
refuses_for m format device new cache now history pending Corrupt shows own none cause =
    absurd (shown_has format history pending (recovered_log format crc32 m.page_size (shown_of device)) shows.written shows.next
    (opening_shows format m.page_size history pending device.calls new.calls (shown_of device) shows cause.1.0 cause.1.1 none) cause.0)
refuses_for m format device new cache now history pending (Header fault) shows own none cause = absurd (cause.1 own)
refuses_for m format device new cache now history pending (Fault kind) shows own none cause = cause
refuses_for m format device new cache now history pending PowerCut shows own none cause = cause
refuses_for m format device new cache now history pending NumberEnded shows own none cause = cause
refuses_for m format device new cache now history pending Memory shows own none cause = cause
refuses_for m format device new cache now history pending Failed shows own none cause = cause
refuses_for m format device new cache now history pending PastFloor shows own none cause = cause
refuses_for m format device new cache now history pending Inactive shows own none cause = cause
refuses_for m format device new cache now history pending OutOfRange shows own none cause = cause
refuses_for m format device new cache now history pending Pruned shows own none cause = cause
refuses_for m format device new cache now history pending EmptyRange shows own none cause = cause

-- and in doubt
doubts_for : {R : Type 0} (m : Machine) (format : Format) (device new : DeviceState R) (cache now : Cache) (e : StoreError)
    → HasOwnHeader device.storage.inner → IsOpenError m format device cache new now e
    → (e ≡ Corrupt) ⊎ MayRefuseOpening m (power_of device cache) (power_of new now) e
doubts_for m format device new cache now Corrupt own cause = inl refl
doubts_for m format device new cache now (Header fault) own cause = absurd (cause.1 own)
doubts_for m format device new cache now (Fault kind) own cause = inr cause
doubts_for m format device new cache now PowerCut own cause = inr cause
doubts_for m format device new cache now NumberEnded own cause = inr cause
doubts_for m format device new cache now Memory own cause = inr cause
doubts_for m format device new cache now Failed own cause = inr cause
doubts_for m format device new cache now PastFloor own cause = inr cause
doubts_for m format device new cache now Inactive own cause = inr cause
doubts_for m format device new cache now OutOfRange own cause = inr cause
doubts_for m format device new cache now Pruned own cause = inr cause
doubts_for m format device new cache now EmptyRange own cause = inr cause

-- an opening that is refused
pub refused_in : {R : Type 0} (m : Machine) (format : Format) (device new : DeviceState R) (cache now : Cache) (e : StoreError)
    → m.page_size ≡ cache.page_size + 12 → now.page_size ≡ cache.page_size
    → IsOpenedThrough format (cache.page_size + 12) (shown_of device) device.calls new.calls
    → (HasOwnHeader device.storage.inner → HasOwnHeader new.storage.inner)
    → IsOpenError m format device cache new now e
    → Moves m format (closed_at device cache) ask_open (refused e) (closed_at new now)
refused_in m format device new cache now e paged sized moments header cause (closed history pending) none stands =
    let at = subst (λ s. NoneByChance crc32 (s + 12) new.calls) sized none in
    let shows = still_shows format (cache.page_size + 12) history pending device.calls new.calls (shown_of device) stands.0 moments at in (
      closed history pending,
      inr (
        e,
        refl,
        refl,
        refuses_for m format device new cache now history pending e
            (subst (λ s. OpeningsShow format s history pending device.calls) (sym paged) stands.0) stands.1
            (subst (λ s. NoneByChance crc32 s new.calls) (sym paged) at) cause,
      ),
      (subst (λ s. OpeningsShow format (s + 12) history pending new.calls) (sym sized) shows, header stands.1),
    )
refused_in m format device new cache now e paged sized moments header cause (doubtful history) none stands =
    let kept = opened_keeps format (cache.page_size + 12) history device.calls new.calls (shown_of device) stands.0 stands.1 moments in (
      doubtful history,
      inr (e, refl, refl, doubts_for m format device new cache now e stands.2 cause),
      (stands.0, subst (λ s. OpeningsKeep format (s + 12) history new.calls) (sym sized) kept, header stands.2),
    )
refused_in m format device new cache now e paged sized moments header cause (live history pruned) none stands = absurd stands
refused_in m format device new cache now e paged sized moments header cause (failed history commit) none stands = absurd stands

-- a closed session that stays as it is
pub rests_in : {R : Type 0} (m : Machine) (format : Format) (device new : DeviceState R) (cache : Cache) (request : Request)
    (answer : Answer) → new.calls ≡ device.calls → (HasOwnHeader device.storage.inner → HasOwnHeader new.storage.inner)
    → ((history : History) (pending : Option Commit)
    → IsStepClosed m (power_of device cache) (power_of new cache) history pending request answer (closed history pending))
    → ((history : History)
    → IsStepInDoubt m (power_of device cache) (power_of new cache) history request answer (doubtful history))
    → Moves m format (closed_at device cache) request answer (closed_at new cache)
rests_in m format device new cache request answer calls header steps doubts (closed history pending) none stands = (
  closed history pending,
  steps history pending,
  (subst (OpeningsShow format (cache.page_size + 12) history pending) (sym calls) stands.0, header stands.1),
)
rests_in m format device new cache request answer calls header steps doubts (doubtful history) none stands = (
  doubtful history,
  doubts history,
  (stands.0, subst (OpeningsKeep format (cache.page_size + 12) history) (sym calls) stands.1, header stands.2),
)
rests_in m format device new cache request answer calls header steps doubts (live history pruned) none stands = absurd stands
rests_in m format device new cache request answer calls header steps doubts (failed history commit) none stands = absurd stands

-- what a store that is closed stands for
pub rests_at : {R : Type 0} (format : Format) (store : StoreState R) (device : DeviceState R) (cache : Cache) (state : State)
    → cache ≡ store.cache → device.calls ≡ store.device.calls → HasOwnHeader device.storage.inner
    → ((history : History) → IsLiveAt store history → OpeningsShow format (store.cache.page_size + 12) history None device.calls)
    → StandsFor format None (Some store) state → StandsFor format (Some (device, cache)) None (at_rest state)
rests_at format store device cache (live history pruned) is calls header shows stands =
    (subst (λ c. OpeningsShow format (c.page_size + 12) history None device.calls) (sym is) (shows history stands.0), header)
rests_at format store device cache (failed history commit) is calls header shows stands = (
  subst (λ c. OpeningsShow format (c.page_size + 12) history (Some commit) device.calls) (sym is)
      (subst (OpeningsShow format (store.cache.page_size + 12) history (Some commit)) (sym calls) stands.1),
  header,
)
rests_at format store device cache (closed history pending) is calls header shows stands = absurd stands
rests_at format store device cache (doubtful history) is calls header shows stands = absurd stands

-- a store that is closed
pub closes_in : {R : Type 0} (m : Machine) (format : Format) (store : StoreState R) (device : DeviceState R) (cache : Cache)
    → power_of device cache ≡ power_of store.device store.cache → cache ≡ store.cache → device.calls ≡ store.device.calls
    → HasOwnHeader device.storage.inner
    → ((history : History) → IsLiveAt store history → OpeningsShow format (store.cache.page_size + 12) history None device.calls)
    → Moves m format (open_at store) machine.ask_close machine.has_closed (closed_at device cache)
closes_in m format store device cache same is calls header shows (live history pruned) none stands =
    (closed history None, (refl, refl, same), rests_at format store device cache (live history pruned) is calls header shows stands)
closes_in m format store device cache same is calls header shows (failed history commit) none stands =
    (closed history (Some commit), (refl, refl, same), rests_at format store device cache (failed history commit) is calls header shows stands)
closes_in m format store device cache same is calls header shows (closed history pending) none stands = absurd stands
closes_in m format store device cache same is calls header shows (doubtful history) none stands = absurd stands

-- a step of an open store is one of the session
pub steps_open : {R : Type 0} (m : Machine) (format : Format) (old new : StoreState R) (request : Request) (answer : Answer)
    → StepsOpen m format old request answer new → Steps m format (open_at old) request answer (open_at new)
steps_open m format old new request answer steps = (steps.0, λ state sure stands. steps.1 state stands)

-- a session whose store is closed, from its parts
pub was_closed : {R : Type 0} (parts : Option (DeviceState R × Cache)) (store : Option (StoreState R)) (device : DeviceState R)
    (cache : Cache) (old : SessionState R) → record { parts = parts; store = store } ≡ old → Some (device, cache) ≡ parts
    → old.store ≡ None → closed_at device cache ≡ old
was_closed parts store device cache old view is none =
    ap (λ p. record { parts = p; store = None }) is
    ∙ (ap (λ s. record { parts = parts; store = s }) (sym (ap (λ (s : SessionState _). s.store) view ∙ none)) ∙ view)

-- a session whose store is open
pub was_open : {R : Type 0} (parts : Option (DeviceState R × Cache)) (store : Option (StoreState R)) (is : StoreState R)
    (old : SessionState R) → record { parts = parts; store = store } ≡ old → Some is ≡ store → IsSession parts store → open_at is ≡ old
was_open None store is old view at session = ap (λ s. record { parts = None; store = s }) at ∙ view
was_open (Some parts) None is old view at session = absurd (cc)
was_open (Some parts) (Some store) is old view at session = absurd session

pub now_closed : {R : Type 0} (parts : Option (DeviceState R × Cache)) (store : Option (StoreState R)) (device : DeviceState R)
    (cache : Cache) (old : SessionState R) → record { parts = parts; store = store } ≡ old → old.store ≡ None
    → closed_at device cache ≡ record { parts = Some (device, cache); store = store }
now_closed parts store device cache old view none =
    ap (λ s. record { parts = Some (device, cache); store = s }) (sym (ap (λ (s : SessionState _). s.store) view ∙ none))

-- steps between what is equal
pub steps_from : {R : Type 0} (m : Machine) (format : Format) (was old now new : SessionState R) (request : Request) (answer : Answer)
    → was ≡ old → now ≡ new → Steps m format was request answer now → Steps m format old request answer new
steps_from m format was old now new request answer is ends steps =
    subst (λ s. Steps m format s request answer new) is (subst (λ s. Steps m format was request answer s) ends steps)

pub grows_from : {R : Type 0} (was old : SessionState R) (calls : List Call) → was ≡ old → calls ≡ calls_in was.parts was.store
    → Grows (calls_in old.parts old.store) calls
grows_from was old calls is same = subst (λ (s : SessionState _). Grows (calls_in s.parts s.store) calls) is
    (subst (λ l. Grows l calls) same (here tt))

-- the header is of what the store has
pub header_same : (old new : Store) → new ≡ old → HasOwnHeader old → HasOwnHeader new
header_same old new is own = subst HasOwnHeader (sym is) own

pub page_from : {R : Type 0} (was old : SessionState R) (now : Cache) → was ≡ old → now.page_size + 12 ≡ page_size_in was.parts was.store
    → now.page_size + 12 ≡ page_size_in old.parts old.store
page_from was old now is same = same ∙ ap (λ (s : SessionState _). page_size_in s.parts s.store) is

-- the calls of an opening that shows something
pub grows_through : {R : Type 0} {P : List Call → Type 0} {call : Call} (was old : SessionState R) (calls : List Call) → was ≡ old
    → Through P (call ∷ calls_in was.parts was.store) calls → Grows (calls_in old.parts old.store) calls
grows_through {call = call} was old calls is moments =
    subst (λ (s : SessionState _). Grows (calls_in s.parts s.store) calls) is (behind _ call calls (grown moments))

pub grows_more : {R : Type 0} (was old : SessionState R) (calls : List Call) → was ≡ old → Grows (calls_in was.parts was.store) calls
    → Grows (calls_in old.parts old.store) calls
grows_more was old calls is more = subst (λ (s : SessionState _). Grows (calls_in s.parts s.store) calls) is more

-- what a closed session does not do
pub record IsRefusedClosed (request : Request) : Type 0 where
  pub steps : (m : Machine) (power : Power) (history : History) (pending : Option Commit)
      → IsStepClosed m power power history pending request machine.not_open (closed history pending)
  pub doubts : (m : Machine) (power : Power) (history : History)
      → IsStepInDoubt m power power history request machine.not_open (doubtful history)
  pub kind : IsAnswerTo false request machine.not_open
  pub turned : (power : Power) → machine.turned request machine.not_open power ≡ power

pub is_refused_closed : {K V : Type 0} (key : K → List ℕ) (value : V → List ℕ) (step : Step K V)
    → IsAtRest (request_of key value step) → (step ≡ steps.Crash → ⊥) → ((config : Config) → step ≡ steps.Config config → ⊥)
    → ((calls : ℕ) → step ≡ steps.CutAfter calls → ⊥) → IsRefusedClosed (request_of key value step)
is_refused_closed key value (steps.Open sizes) rest b c d = absurd rest
is_refused_closed key value steps.Crash rest b c d = absurd (b refl)
is_refused_closed key value (steps.Config config) rest b c d = absurd (c config refl)
is_refused_closed key value (steps.CutAfter calls) rest b c d = absurd (d calls refl)
is_refused_closed key value (steps.Commit batch metadata) rest b c d =
    record { steps = λ m power h p. (refl, refl, refl); doubts = λ m power h. (refl, refl, refl); kind = refl; turned = λ power. refl }
is_refused_closed key value (steps.Get k) rest b c d =
    record { steps = λ m power h p. (refl, refl, refl); doubts = λ m power h. (refl, refl, refl); kind = refl; turned = λ power. refl }
is_refused_closed key value steps.Root rest b c d =
    record { steps = λ m power h p. (refl, refl, refl); doubts = λ m power h. (refl, refl, refl); kind = refl; turned = λ power. refl }
is_refused_closed key value steps.Commits rest b c d =
    record { steps = λ m power h p. (refl, refl, refl); doubts = λ m power h. (refl, refl, refl); kind = refl; turned = λ power. refl }
is_refused_closed key value steps.Floor rest b c d =
    record { steps = λ m power h p. (refl, refl, refl); doubts = λ m power h. (refl, refl, refl); kind = refl; turned = λ power. refl }
is_refused_closed key value steps.Len rest b c d =
    record { steps = λ m power h p. (refl, refl, refl); doubts = λ m power h. (refl, refl, refl); kind = refl; turned = λ power. refl }
is_refused_closed key value (steps.Prune location) rest b c d =
    record { steps = λ m power h p. (refl, refl, refl); doubts = λ m power h. (refl, refl, refl); kind = refl; turned = λ power. refl }
is_refused_closed key value (steps.ProveKey k) rest b c d =
    record { steps = λ m power h p. (refl, refl, refl); doubts = λ m power h. (refl, refl, refl); kind = refl; turned = λ power. refl }
is_refused_closed key value (steps.ProveOperation location) rest b c d =
    record { steps = λ m power h p. (refl, refl, refl); doubts = λ m power h. (refl, refl, refl); kind = refl; turned = λ power. refl }
is_refused_closed key value (steps.ProveRange start stop) rest b c d =
    record { steps = λ m power h p. (refl, refl, refl); doubts = λ m power h. (refl, refl, refl); kind = refl; turned = λ power. refl }
is_refused_closed key value (steps.ProveLog start stop) rest b c d =
    record { steps = λ m power h p. (refl, refl, refl); doubts = λ m power h. (refl, refl, refl); kind = refl; turned = λ power. refl }
is_refused_closed key value steps.Close rest b c d =
    record { steps = λ m power h p. (refl, refl, refl); doubts = λ m power h. (refl, refl, refl); kind = refl; turned = λ power. refl }

-- where a store is open, a session has nothing beside it
pub parts_none : {R : Type 0} (parts : Option (DeviceState R × Cache)) (store : Option (StoreState R)) (is : StoreState R)
    → store ≡ Some is → IsSession parts store → parts ≡ None
parts_none None store is at session = refl
parts_none (Some parts) None is at session = absurd (cc)
parts_none (Some parts) (Some store) is at session = absurd session

pub session_within : {R : Type 0} (parts : Option (DeviceState R × Cache)) (store : Option (StoreState R)) (is now : StoreState R)
    → store ≡ Some is → IsSession parts store → IsSession parts (Some now)
session_within parts store is now at session = subst (λ p. IsSession p (Some now)) (sym (parts_none parts store is at session)) tt

pub now_open : {R : Type 0} (parts : Option (DeviceState R × Cache)) (store : Option (StoreState R)) (is now : StoreState R)
    → store ≡ Some is → IsSession parts store → open_at now ≡ record { parts = parts; store = Some now }
now_open parts store is now at session =
    ap (λ p. record { parts = p; store = Some now }) (sym (parts_none parts store is at session))

-- a closed session that is taken apart
pub closed_rests : {R : Type 0} (format : Format) (parts : Option (DeviceState R × Cache)) (store : Option (StoreState R))
    (is : DeviceState R × Cache) (old : SessionState R) (state : State) → record { parts = parts; store = store } ≡ old
    → parts ≡ Some is → IsSession parts store → StandsFor format old.parts old.store state
    → StandsFor format (Some is) None (at_rest state)
closed_rests format parts store is old state view at session stands =
    at_closed format is store state (subst (λ p. IsSession p store) at session)
    (subst (λ p. StandsFor format p store state) at
    (subst (λ (s : SessionState _). StandsFor format s.parts s.store state) (sym view) stands))
  where
    at_closed : {R : Type 0} (format : Format) (is : DeviceState R × Cache) (store : Option (StoreState R)) (state : State)
        → IsSession (Some is) store → StandsFor format (Some is) store state → StandsFor format (Some is) None (at_rest state)
    at_closed format is None (closed history pending) session stands = stands
    at_closed format is None (doubtful history) session stands = stands
    at_closed format is None (live history pruned) session stands = absurd stands
    at_closed format is None (failed history commit) session stands = absurd stands
    at_closed format is (Some store) state session stands = absurd session

pub closed_parts : {R : Type 0} (parts : Option (DeviceState R × Cache)) (store : Option (StoreState R)) (is : DeviceState R × Cache)
    → parts ≡ Some is → IsSession parts store → (is.0.log ≡ None) × IsCache is.1
closed_parts parts None is at session = subst (λ p. IsSession p None) at session
closed_parts None (Some store) is at session = absurd (cc)
closed_parts (Some parts) (Some store) is at session = absurd session

pub stands_open : {R : Type 0} (format : Format) (store : StoreState R) (old : SessionState R) (state : State) → open_at store ≡ old
    → StandsFor format old.parts old.store state → StandsFor format None (Some store) state
stands_open format store old state is stands =
    subst (λ (s : SessionState _). StandsFor format s.parts s.store state) (sym is) stands

-- whether a store is open
pub none_from : {A : Type 0} (store : Option A) → is_some store ≡ false → store ≡ None
none_from None is = refl
none_from (Some store) is = absurd (cc)

-- a session has a device and a cache where it has no store, and a store where it has one
pub no_parts : {R A : Type 0} (parts : Option (DeviceState R × Cache)) (store : Option (StoreState R)) (old : SessionState R)
    → record { parts = parts; store = store } ≡ old → None ≡ parts → IsSession parts store → old.store ≡ None → A
no_parts None None old view is session at = absurd session
no_parts None (Some store) old view is session at = absurd (some_none store (ap (λ (s : SessionState _). s.store) view ∙ at))
  where
    some_none : {B : Type 0} (b : B) → Some b ≡ None → ⊥
    some_none b e = cc
no_parts (Some parts) store old view is session at = absurd (cc)

pub no_store : {R A : Type 0} (parts : Option (DeviceState R × Cache)) (store : Option (StoreState R)) (old : SessionState R)
    → record { parts = parts; store = store } ≡ old → None ≡ store → is_some old.store ≡ true → A
no_store parts None old view is at = absurd (none_some (ap (λ (s : SessionState _). is_some s.store) view ∙ at))
  where
    none_some : false ≡ true → ⊥
    none_some e = cc
no_store parts (Some store) old view is at = absurd (cc)

pub session_closed : {R : Type 0} (parts : Option (DeviceState R × Cache)) (store : Option (StoreState R)) (is now : DeviceState R × Cache)
    → parts ≡ Some is → IsSession parts store → now.0.log ≡ None → IsCache now.1 → IsSession (Some now) store
session_closed parts None is now at session log cache = (log, cache)
session_closed None (Some store) is now at session log cache = absurd (cc)
session_closed (Some parts) (Some store) is now at session log cache = absurd session

-- each step but one with settings keeps them
pub config_kept : {K V : Type 0} (step : Step K V) → ((config : Config) → step ≡ steps.Config config → ⊥) → (before : Option Config)
    → config_after step before ≡ before
config_kept (steps.Config config) other before = absurd (other config refl)
config_kept (steps.Open sizes) other before = refl
config_kept (steps.Commit batch metadata) other before = refl
config_kept (steps.Get k) other before = refl
config_kept steps.Root other before = refl
config_kept steps.Commits other before = refl
config_kept steps.Floor other before = refl
config_kept steps.Len other before = refl
config_kept (steps.Prune location) other before = refl
config_kept (steps.ProveKey k) other before = refl
config_kept (steps.ProveOperation location) other before = refl
config_kept (steps.ProveRange start stop) other before = refl
config_kept (steps.ProveLog start stop) other before = refl
config_kept steps.Close other before = refl
config_kept steps.Crash other before = refl
config_kept (steps.CutAfter calls) other before = refl

-- each step but a cut may leave as many calls as before
pub left_kept : {K V : Type 0} (step : Step K V) → ((calls : ℕ) → step ≡ steps.CutAfter calls → ⊥) → (before : Option ℕ)
    → IsLeftBy step before before
left_kept (steps.CutAfter calls) other before = absurd (other calls refl)
left_kept (steps.Open sizes) other before = tt
left_kept (steps.Commit batch metadata) other before = tt
left_kept (steps.Get k) other before = tt
left_kept (steps.ProveKey k) other before = tt
left_kept (steps.ProveOperation location) other before = tt
left_kept (steps.ProveRange start stop) other before = tt
left_kept (steps.ProveLog start stop) other before = tt
left_kept steps.Crash other before = tt
left_kept (steps.Config config) other before = refl
left_kept steps.Root other before = refl
left_kept steps.Commits other before = refl
left_kept steps.Floor other before = refl
left_kept steps.Len other before = refl
left_kept (steps.Prune location) other before = refl
left_kept steps.Close other before = refl

-- one step of several is taken
pub config_taken : {K V : Type 0} (left rest : List (Step K V)) (step : Step K V) (before after last : Option Config)
    → left ≡ step ∷ rest → after ≡ config_after step before → config_after_all left before ≡ last → config_after_all rest after ≡ last
config_taken left rest step before after last is now all =
    ap (config_after_all rest) now ∙ (sym (ap (λ steps. config_after_all steps before) is) ∙ all)

-- a session whose old state has no store has none
pub still_none : {R : Type 0} (parts : Option (DeviceState R × Cache)) (store : Option (StoreState R)) (old : SessionState R)
    → record { parts = parts; store = store } ≡ old → old.store ≡ None → store ≡ None
still_none parts store old view none = ap (λ (s : SessionState _). s.store) view ∙ none

-- an answer of a kind, and not that a store is closed, leaves one open
said_open : (is_kind : Answer → Bool) (answer : Answer) → is_kind machine.has_closed ≡ false → IsSaid is_kind answer
    → is_open_after true answer ≡ true
said_open is_kind machine.opened not_closed said = refl
said_open is_kind machine.has_closed not_closed said = absurd (false_true (sym not_closed ∙ said))
  where
    false_true : false ≡ true → ⊥
    false_true e = cc
said_open is_kind (machine.committed root) not_closed said = refl
said_open is_kind (machine.value found) not_closed said = refl
said_open is_kind (machine.root_is root) not_closed said = refl
said_open is_kind (machine.commits_are count) not_closed said = refl
said_open is_kind (machine.floor_is location) not_closed said = refl
said_open is_kind (machine.len_is count) not_closed said = refl
said_open is_kind (machine.pruned_to chunks) not_closed said = refl
said_open is_kind (machine.proof found) not_closed said = refl
said_open is_kind machine.has_crashed not_closed said = refl
said_open is_kind machine.is_set not_closed said = refl
said_open is_kind (machine.refused error) not_closed said = refl
said_open is_kind machine.not_open not_closed said = refl
said_open is_kind machine.still_open not_closed said = refl

-- each request but one to close leaves an open store open
pub stays_open : (request : Request) (answer : Answer) → IsLeftOpen request → IsAnswerTo true request answer
    → is_open_after true answer ≡ true
stays_open machine.ask_close answer left kind = absurd left
stays_open ask_open answer left kind = ap (is_open_after true) kind
stays_open machine.ask_crash answer left kind = ap (is_open_after true) kind
stays_open machine.ask_config answer left kind = ap (is_open_after true) kind
stays_open (machine.ask_cut calls) answer left kind = ap (is_open_after true) kind
stays_open (machine.ask_commit words metadata) answer left kind = said_open machine.is_root_of_commit answer refl kind
stays_open (machine.ask_get key) answer left kind = said_open machine.is_value answer refl kind
stays_open machine.ask_root answer left kind = said_open machine.is_root answer refl kind
stays_open machine.ask_commits answer left kind = said_open machine.is_commits answer refl kind
stays_open machine.ask_floor answer left kind = said_open machine.is_floor answer refl kind
stays_open machine.ask_len answer left kind = said_open machine.is_len answer refl kind
stays_open (machine.ask_prune location) answer left kind = said_open machine.is_pruned answer refl kind
stays_open (machine.ask_proof key) answer left kind = said_open machine.is_proof answer refl kind
