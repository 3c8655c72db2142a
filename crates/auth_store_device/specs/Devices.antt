-- The device: a log of the store that fails, the calls that were made of it, and a cut of the power.
use Rattle.std.specs.Prelude.{◌≡◌, ℕ, ◌+◌, ◌-◌, ◌<◌, ◌^◌, ◌==◌, Bool, false, if◌then◌else◌, ◌⊎◌, Option, Some, None}
use Rattle.std.specs.Prelude.{is_some, IfSome}
use Rattle.std.specs.Prelude.{Result, Ok, Err, IsOk, List, []}
use Rattle.rand_core.specs.Stream.{Stream}
use Rattle.fault_storage_parts.specs.declared.error.Call.TheVariants.{Open}
use Rattle.fault_storage_parts.specs.declared.error.Error.{Error as StorageError}
use Rattle.fault_storage_parts.specs.declared.error.Error.TheVariants.{Header, Injected, BlobInsufficientLength}
use Rattle.fault_storage_parts.specs.declared.error.Error.TheVariants.{NumberEnded, Memory}
use Rattle.fault_storage_parts.specs.declared.error.HeaderError.{HeaderError}
use Rattle.fault_storage.specs.declared.storage.Opened.{Opened}
use Rattle.fault_storage.specs.declared.faulty.Blob.{Blob}
use Rattle.fault_storage.specs.declared.faulty.Storage.{Storage}
use Rattle.fault_storage.specs.declared.storage.WriteMode.{WriteMode}
use Rattle.fault_storage.specs.declared.storage.WriteMode.TheVariants.{Plain, Sync}
use Rattle.fault_storage.specs.Directory.{fault_in, admitted, IsMissing}
use Rattle.fault_storage.specs.Faults.{IsFaultyCall, FaultyOpens}
use Rattle.fault_storage.specs.Stores.{Store, Handle}
use Rattle.paged_blob_parts.specs.Answers.{Failures, used_up}
use Rattle.paged_blob_parts.specs.Calls.{Call, File, file_of}
use Rattle.paged_blob_parts.specs.declared.blob.WriteMode as blob
use Rattle.paged_blob_parts.specs.declared.blob.WriteMode.TheVariants as blobs
use Rattle.paged_blob_parts.specs.declared.error.CallKind.{CallKind}
use Rattle.paged_blob_parts.specs.declared.error.Error.{Error}
use Rattle.paged_blob_parts.specs.declared.error.Error.TheVariants as refusals
use Rattle.auth_store_device.specs.declared.error.OpenError.{OpenError}
use Rattle.auth_store_device.specs.declared.error.OpenError.TheVariants as openings
use Rattle.auth_store_device.specs.declared.log.Told.{Told}
use Rattle.auth_store_device.specs.declared.log.Told.TheVariants.{Made, Failed, Ended, Unmade}
use Rattle.auth_store_device.specs.Logs.{log_partition, log_name, log_versions, IsOrderly, has_log, log_of, Stands}
use Rattle.auth_store_device.specs.Logs.{IsHandleOf}

-- A device: the store below, the open log, the calls so far, the newest first, how many more the power lasts for, where
-- a cut was asked for, and how many were refused since the last crash.
pub record DeviceState (R : Type 0) : Type 0 where
  pub storage : Storage Store R
  pub log : Option (Blob Handle)
  pub calls : List Call
  pub left : Option ℕ
  pub refused : ℕ

-- what is true of each device
pub record IsDevice {R : Type 0} (state : DeviceState R) : Type 0 where
  pub orderly : IsOrderly state.storage.inner
  pub stands : Stands (file_of state.calls) (log_of state.storage.inner)
  pub handle : IfSome state.log (λ log. IsHandleOf state.storage.inner (file_of state.calls) log.inner)
  pub cut : 0 < state.refused → state.left ≡ Some 0

-- the store has no mutation of the log that is pending
pub record IsSettled (store : Store) : Type 0 where
  pub orderly : IsOrderly store
  pub settled : (log_of store).log ≡ []

-- whether a cut of the power stands
abbrev pub is_cut : Option ℕ → Bool
is_cut (Some left) = left == 0
is_cut None = false

-- how many calls are left where n were to be let through, unless a cut stands
abbrev pub after_asking : ℕ → Option ℕ → Option ℕ
after_asking n (Some left) = if left == 0 then Some 0 else Some n
after_asking n None = Some n

-- what the store answered a change of the log, or a sync: it was made, a fault was injected, or it counts as not made
abbrev pub told_of : {T : Type 0} → Result T StorageError → Told
told_of (Ok _) = Made
told_of (Err (Injected call)) = Failed
told_of (Err NumberEnded) = Ended
told_of (Err _) = Unmade

-- the mode in which a write reaches the store
abbrev pub mode_below : blob.WriteMode → WriteMode
mode_below blobs.Plain = Plain
mode_below blobs.Sync = Sync

-- what the store refused, as a blob of this kind of call refuses it
abbrev pub refusal_of : CallKind → StorageError → Error
refusal_of kind (Injected call) = refusals.Injected kind
refusal_of kind NumberEnded = refusals.NumberEnded
refusal_of kind Memory = refusals.Memory
refusal_of kind BlobInsufficientLength = refusals.BlobInsufficientLength
refusal_of kind _ = refusals.BlobMissing

abbrev pub answer_of : {T : Type 0} → CallKind → Result T StorageError → Result T Error
answer_of kind (Ok value) = Ok value
answer_of kind (Err e) = Err (refusal_of kind e)

-- The call is that of the store, with its answer; or there was no room for its record, and nothing has changed.
abbrev pub Passes : {R T : Type 0} → CallKind → (Blob Handle → Storage Store R → Result T StorageError → Blob Handle
    → Storage Store R → Type 0)
    → Blob Handle → Storage Store R → Result T Error → Blob Handle → Storage Store R → Type 0
Passes {T = T} kind Answers log storage result log_now storage_now =
    ((result ≡ Err refusals.Memory) × (log_now ≡ log) × (storage_now ≡ storage))
    ⊎ ((answer : Result T StorageError) × Answers log storage answer log_now storage_now
    × (result ≡ answer_of kind answer))

-- how many calls are left after one
abbrev pub left_after : {T : Type 0} → Result T Error → Option ℕ → Option ℕ
left_after result None = None
left_after result (Some left) = Some (left - used_up result)

-- how many calls are let through until the power is cut, where a cut was asked for
abbrev pub calls_left : Option ℕ → ℕ
calls_left None = 0
calls_left (Some left) = left

-- what has refused calls of a log of the store so far, where so many were refused by a cut, if one was asked for
abbrev pub failures_in : {R : Type 0} → Storage Store R → ℕ → Bool → Bool → Failures
failures_in storage refused is_open is_asked = record {
  injected = storage.injections;
  refused = refused;
  is_open = is_open;
  is_asked = is_asked;
  settings = Some storage.config;
  files = storage.inner.next;
}

-- what has refused calls of the device so far
abbrev pub failures_of : {R : Type 0} → DeviceState R → Failures
failures_of state = failures_in state.storage state.refused (is_some state.log) (is_some state.left)

-- one of the counts stands at its last value
abbrev pub HasEnded : {R : Type 0} → DeviceState R → Type 0
HasEnded state = (state.storage.injections ≡ 2 ^ 64 - 1) ⊎ (state.refused ≡ 2 ^ 64 - 1)

-- A call before it reaches the store: where a count has ended it is not made; under a cut it is refused, and that is
-- counted.
abbrev pub IsStopped : {R T : Type 0} → DeviceState R → Result T Error → DeviceState R → Type 0
IsStopped old result new =
    (HasEnded old × (result ≡ Err refusals.NumberEnded) × (new ≡ old))
    ⊎ ((old.storage.injections < 2 ^ 64 - 1) × (old.refused < 2 ^ 64 - 1) × (old.left ≡ Some 0)
    × (result ≡ Err refusals.PowerCut)
    × (new ≡ record old { refused = old.refused + 1 }))

-- no count has ended, and no cut of the power stands
abbrev pub IsLetThrough : {R : Type 0} → DeviceState R → Type 0
IsLetThrough state =
    (state.storage.injections < 2 ^ 64 - 1) × (state.refused < 2 ^ 64 - 1) × (state.left ≡ Some 0 → ⊥)

-- A call of the device: it is stopped; or it is let through, and the log is not open, or it is the store's own.
abbrev pub IsDeviceCall : {R T : Type 0} → CallKind → (Blob Handle → Storage Store R → Result T StorageError
    → Blob Handle → Storage Store R → Type 0)
    → DeviceState R → Result T Error → DeviceState R → Type 0
IsDeviceCall kind Answers old result new =
    IsStopped old result new
    ⊎ (IsLetThrough old × (old.log ≡ None) × (result ≡ Err refusals.BlobMissing) × (new ≡ old))
    ⊎ (IsLetThrough old × (new.left ≡ left_after result old.left) × (new.refused ≡ old.refused)
    × ((log : Blob Handle) × (now : Blob Handle) × (old.log ≡ Some log) × (new.log ≡ Some now)
    × Passes kind Answers log old.storage result now new.storage))

-- the first fault of the log's header, where it is opened in that version
abbrev pub log_fault : Store → Option HeaderError
log_fault store = fault_in log_partition log_name log_versions store.files

-- an opening makes the log anew, since there is none or none with a header, and the store has no number left for it
abbrev pub HasNoNumber : Store → Type 0
HasNoNumber store = IsMissing log_partition log_name store.files × (store.next ≡ 2 ^ 64 - 1)

-- what the store refused, as an opening does
abbrev pub opening_refusal : StorageError → OpenError
opening_refusal (Header fault) = openings.Header fault
opening_refusal (Injected call) = openings.Injected
opening_refusal NumberEnded = openings.NumberEnded
opening_refusal _ = openings.Memory

abbrev pub opening_answer : Result (Opened (Blob Handle)) StorageError → Result (Blob Handle) OpenError
opening_answer (Ok opened) = Ok opened.blob
opening_answer (Err e) = Err (opening_refusal e)

-- how many faults were injected after an opening
abbrev pub injected_after : {T : Type 0} → Result T OpenError → ℕ → ℕ
injected_after (Err openings.Injected) injected = injected + 1
injected_after result injected = injected

-- the log as it was shown, of which nothing is pending
abbrev pub shown_file : List ℕ → File
shown_file shown = record { base = shown; changes = []; failed = false }

-- how many calls a cut has refused after an opening, and how many are left until one
abbrev pub refused_after : {T : Type 0} → Result T OpenError → ℕ → ℕ
refused_after (Err openings.PowerCut) refused = refused + 1
refused_after result refused = refused

-- an opening that counts as not made, or that a cut refused, uses none up
abbrev pub left_after_opening : {T : Type 0} → Result T OpenError → Option ℕ → Option ℕ
left_after_opening (Err openings.NumberEnded) left = left
left_after_opening (Err openings.Memory) left = left
left_after_opening (Err openings.PowerCut) left = left
left_after_opening result None = None
left_after_opening result (Some left) = Some (left - 1)

-- why an opening is refused before it reaches the store
abbrev pub stopped_opening : Error → OpenError
stopped_opening refusals.NumberEnded = openings.NumberEnded
stopped_opening refusals.PowerCut = openings.PowerCut
stopped_opening _ = openings.Memory

-- a store that an opening left, after a log that was there is admitted; of one that was made anew there is nothing to
-- admit
abbrev pub after_admission : Store → Result (Opened (Blob Handle)) StorageError → Store → Store
after_admission old (Ok opened) left = if has_log old then admitted log_partition log_name left else left
after_admission old (Err e) left = left

-- an opening's answer is Ok where the store's is, and else the store's refusal
abbrev pub TellsOpening : Result (Opened (Blob Handle)) StorageError → Result ℕ OpenError → Type 0
TellsOpening (Ok opened) result = IsOk result
TellsOpening (Err e) result = result ≡ Err (opening_refusal e)

-- An opening of the device: it is stopped; or it is let through, and there is no memory for what it shows, and nothing
-- has changed; or it is the store's own, whose draws and count of faults stay, and after one that opened the log that
-- is admitted, and nothing else.
abbrev pub IsOpeningCall : {R : Type 0} → (R → Stream) → DeviceState R → Result ℕ OpenError → DeviceState R → Type 0
IsOpeningCall {R = R} stream old result new =
    ((e : Error) × IsStopped {T = Unit} old (Err e) new × (result ≡ Err (stopped_opening e)))
    ⊎ (IsLetThrough old × (result ≡ Err openings.Memory) × (new ≡ old))
    ⊎ (IsLetThrough old
    × ((answer : Result (Opened (Blob Handle)) StorageError) × (below : Storage Store R)
    × IsFaultyCall stream Open old.storage.config.«open» (FaultyOpens log_partition log_name log_versions)
    old.storage answer below
    × TellsOpening answer result
    × (new.storage ≡ record below { inner = after_admission old.storage.inner answer below.inner })))
