-- Which states of the machine a session stands for, and when its calls are steps of the machine.
use Rattle.std.specs.Prelude.{◌≡◌, ◌⊎◌, ◌+◌, ◌≤◌, ◌^◌, ℕ, ⊤, IsFalse, List, [], ◌∷◌, length, Option, Some, None}
use Rattle.std.specs.Prelude.{is_some, Result, Ok, Err, MatchResult}
use Rattle.fault_storage_parts.specs.Crc32.{crc32}
use Rattle.fault_storage_parts.specs.declared.config.Config.{Config}
use Rattle.paged_blob_parts.specs.Caches.{Cache}
use Rattle.paged_blob_parts.specs.Calls.{Call, opened, file_of}
use Rattle.paged_blob_parts.specs.Images.{IsImage}
use Rattle.paged_blob_parts.specs.Moments.{Grows, Through}
use Rattle.paged_blob_parts.specs.Chance.{NoneByChance}
use Rattle.auth_store_parts.specs.Batch.{Word}
use Rattle.auth_store_parts.specs.History.{History, log_of}
use Rattle.auth_store_device.specs.Devices.{DeviceState, is_cut, log_fault}
use Rattle.auth_store_device.specs.Logs.{behind_header, durable_log, HasOwnHeader}
use Rattle.auth_store_log.specs.Records.{Format, begun, history_bytes, recovered_log}
use Rattle.auth_store_log.specs.Shown.{IsKeptThrough}
use Rattle.auth_store_ledger.specs.Store.{commit_after, root_of_history}
use Rattle.auth_store_proving.specs.declared.error.Unprovable.{Unprovable}
use Rattle.auth_store_proving.specs.declared.error.Unprovable.TheVariants.{EmptyRange, OutOfRange, Pruned, Inactive}
use Rattle.auth_store_machine.specs.declared.error.StoreError.{StoreError}
use Rattle.auth_store_machine.specs.declared.error.StoreError.TheVariants as refusals
use Rattle.auth_store_machine.specs.Machine.{Machine, Power, State, closed, live, failed, doubtful, Request, ask_open}
use Rattle.auth_store_machine.specs.Machine.{ask_close, Answer, as_it_is, at_rest, in_doubt, Proved, IsStep}
use Rattle.auth_store_machine.specs.Machine.{AreAnswersTo, Passes, MayRefuseAppend, MayRefuseBatch}
use Rattle.auth_store_machine.specs.Machine.{MayRefuseOpening, MayRefuseRead, commit_of}
use Rattle.auth_store_machine.specs.Sound.{IsSoundRun}
use Rattle.auth_store_machine.specs.Stores.{StoreState, IsCache, IsLiveAt, IsNoHistory, IsWritten, OpeningsKeep}
use Rattle.auth_store_machine.specs.Stores.{OpeningsShow}

-- a session: the device and the cache while no store is open, or the store
pub record SessionState (R : Type 0) : Type 0 where
  pub parts : Option (DeviceState R × Cache)
  pub store : Option (StoreState R)

-- what is durable of a device's log, behind its header
abbrev pub shown_of : {R : Type 0} → DeviceState R → List ℕ
shown_of device = behind_header (durable_log device.storage.inner)

-- what the machine sees of a device and a cache
abbrev pub power_of : {R : Type 0} → DeviceState R → Cache → Power
power_of device cache = record {
  injected = device.storage.injections;
  refused = device.refused;
  names = cache.next_id;
  files = device.storage.inner.next;
  calls = device.calls;
  left = device.left;
}

-- the digest's encoding where a root is answered
abbrev pub result_of : {D E : Type 0} → (D → List ℕ) → Result D E → Result (List ℕ) E
result_of encoding (Ok root) = Ok (encoding root)
result_of encoding (Err e) = Err e

-- what a call answers that is asked for a proof, where this is the proof, or why there is none, and the power before it
-- and after it: that, or what a read is refused for
abbrev pub AnswersProof : {A : Type 0} → Power → Power → (A → Proved) → Result Proved Unprovable → Result A StoreError
    → Type 0
AnswersProof before after said expected (Ok found) = expected ≡ Ok (said found)
AnswersProof before after said expected (Err refusals.Inactive) = expected ≡ Err Inactive
AnswersProof before after said expected (Err refusals.OutOfRange) = expected ≡ Err OutOfRange
AnswersProof before after said expected (Err refusals.Pruned) = expected ≡ Err Pruned
AnswersProof before after said expected (Err refusals.EmptyRange) = expected ≡ Err EmptyRange
AnswersProof before after said expected (Err error) = MayRefuseRead before after error

-- a commit of a batch: it is in, with the root of the history with it, and no cut stood before; or it is refused before
-- anything is appended, and the store is as it was, or while it is made durable, and the store has failed, and openings
-- show it or not
abbrev pub Commits : {R : Type 0} → Machine → Format → List Word → Option (List ℕ) → History → StoreState R
    → Result (List ℕ) StoreError → StoreState R → Type 0
Commits m format words metadata history old result new =
    let later = commit_after words metadata history in
    MatchResult result
    (λ root. (root ≡ root_of_history m.setting m.key_size m.value_size later) × IsLiveAt new later
    × (length (log_of later) ≤ 2 ^ 62) × IsFalse (is_cut old.device.left))
    (λ error. (IsLiveAt new history
    × MayRefuseBatch m (power_of old.device old.cache) (power_of new.device new.cache) later error)
    ⊎ ((new.live ≡ None) × (length (log_of later) ≤ 2 ^ 62)
    × OpeningsShow format m.page_size history (Some (commit_of words metadata history)) new.device.calls
    × MayRefuseAppend m (power_of old.device old.cache) (power_of new.device new.cache) later error))

-- The calls of an opening of these bytes, which an image has, and at each moment after it openings show what is
-- recovered of them.
abbrev pub IsShownThrough : Format → ℕ → List ℕ → List Call → List Call → Type 0
IsShownThrough format size shown old new =
    IsImage (file_of old) shown
    × Through (IsKeptThrough format crc32 size (recovered_log format crc32 size shown)) (opened shown ∷ old) new

-- The calls of an opening: none, or so.
abbrev pub IsOpenedThrough : Format → ℕ → List ℕ → List Call → List Call → Type 0
IsOpenedThrough format size shown old new = (new ≡ old) ⊎ IsShownThrough format size shown old new

-- the log of the history is what is recovered of these bytes, begun where that is nothing
abbrev pub IsRecovered : Format → ℕ → List ℕ → History → Type 0
IsRecovered format size shown history =
    IsWritten format history × (history_bytes format history ≡ begun format (recovered_log format crc32 size shown))

-- Why an opening is refused, chance or not.
abbrev pub IsOpenError : {R : Type 0} → Machine → Format → DeviceState R → Cache → DeviceState R → Cache
    → StoreError → Type 0
IsOpenError m format old cache new now refusals.Corrupt =
    IsNoHistory format (recovered_log format crc32 m.page_size (shown_of old))
    × IsShownThrough format m.page_size (shown_of old) old.calls new.calls
IsOpenError m format old cache new now (refusals.Header fault) =
    (log_fault old.storage.inner ≡ Some fault) × (HasOwnHeader old.storage.inner → ⊥)
IsOpenError m format old cache new now error = MayRefuseOpening m (power_of old cache) (power_of new now) error

-- so for what a session has: there is none where it has neither device nor store, which no session has
abbrev pub power_in : {R : Type 0} → Option (DeviceState R × Cache) → Option (StoreState R) → Power
power_in (Some parts) store = power_of parts.0 parts.1
power_in None (Some store) = power_of store.device store.cache
power_in None None =
    record { injected = 0; refused = 0; names = 0; files = 0; calls = []; left = None }

-- the settings by which its device fails
abbrev pub config_in : {R : Type 0} → Option (DeviceState R × Cache) → Option (StoreState R) → Option Config
config_in (Some parts) store = Some parts.0.storage.config
config_in None (Some store) = Some store.device.storage.config
config_in None None = None

-- how many of its calls are let through until its power is cut, where that was asked for
abbrev pub left_in : {R : Type 0} → Option (DeviceState R × Cache) → Option (StoreState R) → Option ℕ
left_in (Some parts) store = parts.0.left
left_in None (Some store) = store.device.left
left_in None None = None

-- the calls that were made of its device
abbrev pub calls_in : {R : Type 0} → Option (DeviceState R × Cache) → Option (StoreState R) → List Call
calls_in (Some parts) store = parts.0.calls
calls_in None (Some store) = store.device.calls
calls_in None None = []

-- how many bytes a page of it has on the disk
abbrev pub page_size_in : {R : Type 0} → Option (DeviceState R × Cache) → Option (StoreState R) → ℕ
page_size_in (Some parts) store = parts.1.page_size + 12
page_size_in None (Some store) = store.cache.page_size + 12
page_size_in None None = 0

-- A session has a closed device or an open store, and not both.
abbrev pub IsSession : {R : Type 0} → Option (DeviceState R × Cache) → Option (StoreState R) → Type 0
IsSession (Some parts) None = (parts.0.log ≡ None) × IsCache parts.1
IsSession None (Some store) = ⊤
IsSession _ _ = ⊥

-- it stands for a state
abbrev pub StandsFor : {R : Type 0} → Format → Option (DeviceState R × Cache) → Option (StoreState R) → State → Type 0
StandsFor format (Some parts) None (closed history pending) =
    OpeningsShow format (parts.1.page_size + 12) history pending parts.0.calls × HasOwnHeader parts.0.storage.inner
StandsFor format (Some parts) None (doubtful history) =
    IsWritten format history × OpeningsKeep format (parts.1.page_size + 12) history parts.0.calls
    × HasOwnHeader parts.0.storage.inner
StandsFor format None (Some store) (live history pruned) = IsLiveAt store history × (store.pruned ≡ pruned)
StandsFor format None (Some store) (failed history commit) =
    (store.live ≡ None) × OpeningsShow format (store.cache.page_size + 12) history (Some commit) store.device.calls
StandsFor format _ _ _ = ⊥

-- From a closed session that is not in doubt, no opening is by chance.
abbrev pub IsSure : ℕ → List Call → State → Type 0
IsSure size calls (closed history pending) = NoneByChance crc32 size calls
IsSure size calls _ = ⊤

-- The call is a step of the machine from each state for which the session stood, to one for which it stands.
abbrev pub Moves : {R : Type 0} → Machine → Format → SessionState R → Request → Answer → SessionState R → Type 0
Moves m format old request answer new =
    (state : State) → IsSure (page_size_in new.parts new.store) (calls_in new.parts new.store) state
    → StandsFor format old.parts old.store state
    → (next : State) × IsStep m (power_in old.parts old.store) (power_in new.parts new.store) state request answer next
    × StandsFor format new.parts new.store next

-- It is, and the power before it and after it are those of one step.
abbrev pub Steps : {R : Type 0} → Machine → Format → SessionState R → Request → Answer → SessionState R → Type 0
Steps m format old request answer new =
    Passes request answer (power_in old.parts old.store) (power_in new.parts new.store)
    × Moves m format old request answer new

-- so a call of an open store
abbrev pub MovesOpen : {R : Type 0} → Machine → Format → StoreState R → Request → Answer → StoreState R → Type 0
MovesOpen m format old request answer new =
    (state : State) → StandsFor format None (Some old) state
    → (next : State) × IsStep m (power_of old.device old.cache)
    (power_of new.device new.cache) state request answer next
    × StandsFor format None (Some new) next

abbrev pub StepsOpen : {R : Type 0} → Machine → Format → StoreState R → Request → Answer → StoreState R → Type 0
StepsOpen m format old request answer new =
    Passes request answer (power_of old.device old.cache) (power_of new.device new.cache)
    × MovesOpen m format old request answer new

-- the request leaves an open store open
abbrev pub IsLeftOpen : Request → Type 0
IsLeftOpen ask_close = ⊥
IsLeftOpen _ = ⊤

-- the request opens no store
abbrev pub IsAtRest : Request → Type 0
IsAtRest ask_open = ⊥
IsAtRest _ = ⊤

-- so many steps, one after the other
abbrev pub Runs : {R : Type 0} → Machine → Format → SessionState R → List Request → List Answer
    → SessionState R → Type 0
Runs m format old requests answers new =
    NoneByChance crc32 (page_size_in new.parts new.store) (calls_in new.parts new.store)
    → (first : State) → StandsFor format old.parts old.store first
    → (last : State) × IsSoundRun format as_it_is m (power_in old.parts old.store) first requests answers
    (power_in new.parts new.store) last
    × StandsFor format new.parts new.store last

-- So, in doubt: by chance or not.
abbrev pub RunsInDoubt : {R : Type 0} → Machine → Format → SessionState R → List Request → List Answer
    → SessionState R → Type 0
RunsInDoubt m format old requests answers new =
    (first : State) → StandsFor format old.parts old.store first
    → (last : State) × IsSoundRun format in_doubt m (power_in old.parts old.store) first requests answers
    (power_in new.parts new.store) last
    × StandsFor format new.parts new.store last

-- So many steps of a session that is taken apart then, closed: where no opening is by chance they are a run of the
-- machine from each state for which it stood, each history of which is sound, and device and cache stand for the last
-- one at rest.
abbrev pub RunsToRest : {R : Type 0} → Machine → Format → SessionState R → List Request → List Answer → DeviceState R
    → Cache → Type 0
RunsToRest m format old requests answers device cache =
    NoneByChance crc32 m.page_size device.calls
    → (first : State) → StandsFor format old.parts old.store first
    → (last : State) × IsSoundRun format as_it_is m (power_in old.parts old.store) first requests answers
    (power_of device cache) last
    × StandsFor format (Some (device, cache)) None (at_rest last)

-- So, in doubt: by chance or not.
abbrev pub RunsToRestInDoubt : {R : Type 0} → Machine → Format → SessionState R → List Request → List Answer
    → DeviceState R → Cache
    → Type 0
RunsToRestInDoubt m format old requests answers device cache =
    (first : State) → StandsFor format old.parts old.store first
    → (last : State) × IsSoundRun format in_doubt m (power_in old.parts old.store) first requests answers
    (power_of device cache) last
    × StandsFor format (Some (device, cache)) None (at_rest last)

-- a closed session over a device and a cache
abbrev pub closed_at : {R : Type 0} → DeviceState R → Cache → SessionState R
closed_at device cache = record { parts = Some (device, cache); store = None }

-- A whole run of a device and a cache, closed before it and after it.
abbrev pub RunsWhole : {R : Type 0} → Machine → Format → DeviceState R → Cache → List Request → List Answer
    → DeviceState R → Cache
    → Type 0
RunsWhole m format device cache requests answers new now =
    RunsToRest m format (closed_at device cache) requests answers new now

-- All that is promised of a whole run of a session: it is a run of the machine; by chance or not it is one in doubt, in
-- which what was acknowledged begins the log of each later history, and it has an answer for each request, of its kind;
-- in both each history is sound, so that a client's yes under an answered root is true of it, or strings collide; the
-- device's record only grows; and device and cache are left closed, so that another session may be begun with them.
pub record HasRunToRest {R : Type 0} (m : Machine) (format : Format) (old : SessionState R) (requests : List Request)
    (answers : List Answer) (device : DeviceState R) (cache : Cache) : Type 0 where
  pub runs : RunsToRest m format old requests answers device cache
  pub in_doubt : RunsToRestInDoubt m format old requests answers device cache
  pub kinds : AreAnswersTo (is_some old.store) requests answers
  pub grows : Grows (calls_in old.parts old.store) device.calls
  pub is_closed : device.log ≡ None
  pub is_cache : IsCache cache
  pub page_size : cache.page_size + 12 ≡ page_size_in old.parts old.store
