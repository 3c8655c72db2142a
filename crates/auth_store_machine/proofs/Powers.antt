-- What the calls of a request leave of the power of a device and its cache.
use Rattle.std.proofs.Common.{Bool, true, false, cond, List}
use Rattle.rand_core.specs.Stream.{Stream}
use Rattle.fault_storage_parts.specs.declared.error.Call.TheVariants.{Open}
use Rattle.fault_storage_parts.specs.declared.error.Error.{Error as StorageError}
use Rattle.fault_storage.specs.declared.faulty.Blob.{Blob}
use Rattle.fault_storage.specs.declared.faulty.Storage.{Storage}
use Rattle.fault_storage.specs.declared.storage.Opened.{Opened}
use Rattle.fault_storage.specs.Directory.{admitted}
use Rattle.fault_storage.specs.Faults.{IsFaultyCall, FaultyOpens}
use Rattle.fault_storage_parts.specs.declared.header.Versions.{Versions}
use Rattle.fault_storage.specs.Stores.{Store, Handle}
use Rattle.std.proofs.Common.{◌≡◌, ◌⊎◌, inl, inr, ◌+◌, ◌*◌, ◌≤◌, ℕ, Option, Some}
use Rattle.std.proofs.Common.{None, Result, Ok, Err, is_some, refl, sym, ◌∙◌, ap, subst, arith}
use Rattle.paged_blob_parts.specs.Answers.{Failures, failures_after}
use Rattle.paged_blob_parts.specs.Caches.{Cache}
use Rattle.paged_blob_parts.specs.Calls.{Call}
use Rattle.paged_blob_parts.specs.Moments.{Grows, here}
use Rattle.paged_blob_parts.specs.declared.error.Error.{Error}
use Rattle.paged_blob_parts.specs.declared.error.Error.TheVariants.{Injected, BlobMissing, BlobInsufficientLength}
use Rattle.paged_blob_parts.specs.declared.error.Error.TheVariants.{NumberEnded, Memory, PowerCut, ChecksumMismatch}
use Rattle.auth_store_device.specs.declared.error.OpenError.{OpenError}
use Rattle.auth_store_device.specs.declared.error.OpenError.TheVariants as openings
use Rattle.auth_store_device.specs.Devices.{DeviceState, calls_left, failures_of, injected_after, refused_after, left_after_opening}
use Rattle.auth_store_device.specs.Devices.{IsOpeningCall, after_admission}
use Rattle.auth_store_device.specs.Logs.{log_partition, log_name, log_versions, has_log}
use Rattle.auth_store_ledger.specs.declared.error.LedgerError.{LedgerError}
use Rattle.auth_store_ledger.specs.declared.error.LedgerError.TheVariants as ledgers
use Rattle.auth_store_log.specs.Causes.{failures_after_reading}
use Rattle.auth_store_log.specs.declared.error.LogError.{LogError}
use Rattle.auth_store_log.specs.declared.error.LogError.TheVariants.{Corrupt, Refused}
use Rattle.auth_store_machine.specs.Machine.{Power, Leaves, Passes, IsCrash, IsSpent, asked_to_cut, faults_in, cuts_in, ask_cut, ask_crash, is_set, has_crashed}
use Rattle.auth_store_machine.specs.Refusals.{of_blob, of_ledger, of_log, of_opening}
use Rattle.auth_store_machine.specs.declared.error.StoreError.{StoreError}
use Rattle.auth_store_machine.specs.declared.error.StoreError.TheVariants as refusals
use Rattle.auth_store_machine.specs.Standing.{power_of}
use Rattle.auth_store_machine.specs.Stores.{Raises}

-- no call
pub raises_none : (refusal : Option StoreError) (failures : Failures) → faults_in refusal ≡ 0 → cuts_in refusal ≡ 0
    → Raises refusal failures failures
raises_none refusal failures faults cuts =
    record { injected = omega (arith, faults); refused = omega (arith, cuts); asked = refl; files = refl }

pub raises_same : (before after : Failures) → after ≡ before → Raises None before after
raises_same before after same = subst (Raises None before) (sym same) (raises_none None before refl refl)

-- calls of which the last is refused
raises_after : (e : Error) (failures : Failures) → Raises (Some (of_blob e)) failures (failures_after {T = Unit {0}} (Err e) failures)
raises_after (Injected kind) failures = record { injected = omega arith; refused = omega arith; asked = refl; files = refl }
raises_after PowerCut failures = record { injected = omega arith; refused = omega arith; asked = refl; files = refl }
raises_after BlobMissing failures = raises_none (Some (of_blob BlobMissing)) failures refl refl
raises_after BlobInsufficientLength failures = raises_none (Some (of_blob BlobInsufficientLength)) failures refl refl
raises_after NumberEnded failures = raises_none (Some (of_blob NumberEnded)) failures refl refl
raises_after Memory failures = raises_none (Some (of_blob Memory)) failures refl refl
raises_after ChecksumMismatch failures = raises_none (Some (of_blob ChecksumMismatch)) failures refl refl

pub raises_refused : (e : Error) (before after : Failures) → after ≡ failures_after {T = Unit {0}} (Err e) before
    → Raises (Some (of_blob e)) before after
raises_refused e before after is = subst (Raises (Some (of_blob e)) before) (sym is) (raises_after e before)

pub raises_read : (e : LogError) (failures : Failures) → (e ≡ Refused Memory) ⊎ (e ≡ Corrupt) → Raises (Some (of_log e)) failures failures
raises_read e failures (inl is) =
    subst (λ x. Raises (Some (of_log x)) failures failures) (sym is) (raises_none (Some refusals.Memory) failures refl refl)
raises_read e failures (inr is) =
    subst (λ x. Raises (Some (of_log x)) failures failures) (sym is) (raises_none (Some refusals.Corrupt) failures refl refl)

-- a ledger refuses for no call
pub raises_ledger : (e : LedgerError) (failures : Failures) → Raises (Some (of_ledger e)) failures failures
raises_ledger ledgers.NumberEnded failures = raises_none (Some (of_ledger ledgers.NumberEnded)) failures refl refl
raises_ledger ledgers.Memory failures = raises_none (Some (of_ledger ledgers.Memory)) failures refl refl

-- so a reading of an operation
reading_after : (e : LogError) (failures : Failures)
    → Raises (Some (of_log e)) failures (failures_after_reading {T = Unit {0}} (Err e) failures)
reading_after Corrupt failures = raises_none (Some (of_log Corrupt)) failures refl refl
reading_after (Refused e) failures = raises_after e failures

pub raises_reading : (e : LogError) (before after : Failures) → after ≡ failures_after_reading {T = Unit {0}} (Err e) before
    → Raises (Some (of_log e)) before after
raises_reading e before after is = subst (Raises (Some (of_log e)) before) (sym is) (reading_after e before)

-- what is let through after calls, given how much that is in numbers
spent_by : (old new : Option ℕ) → is_some new ≡ is_some old → calls_left new ≤ calls_left old → IsSpent old new
spent_by None None asked fewer = refl
spent_by None (Some left) asked fewer = absurd (cc)
spent_by (Some before) None asked fewer = absurd (cc)
spent_by (Some before) (Some left) asked fewer = (left, refl, fewer)

-- calls of a device
pub leaves_of : {R : Type 0} (openings : ℕ) (refusal : Option StoreError) (old new : DeviceState R) (cache now : Cache)
    → Raises refusal (failures_of old) (failures_of new) → calls_left new.left ≤ calls_left old.left
    → (cache.next_id ≤ now.next_id) × (now.next_id ≤ cache.next_id + 3 * openings) → Grows old.calls new.calls
    → Leaves openings refusal (power_of old cache) (power_of new now)
leaves_of openings refusal old new cache now raises fewer given grows =
    let files : new.storage.inner.next ≡ old.storage.inner.next = raises.files in
    record {
      injected = raises.injected;
      refused = raises.refused;
      left = spent_by old.left new.left raises.asked fewer;
      numbers = record {
        names = given;
        files = (omega (arith, files), omega (arith, files));
        calls = grows;
      };
    }

-- calls that give no name
pub leaves_named : {R : Type 0} (refusal : Option StoreError) (old new : DeviceState R) (cache now : Cache)
    → Raises refusal (failures_of old) (failures_of new) → calls_left new.left ≤ calls_left old.left → now.next_id ≡ cache.next_id
    → Grows old.calls new.calls → Leaves 0 refusal (power_of old cache) (power_of new now)
leaves_named refusal old new cache now raises fewer same =
    leaves_of 0 refusal old new cache now raises fewer (omega (arith, same), omega (arith, same))

-- the record of no call goes on, and one that stays
pub same_grows : (old new : List Call) → new ≡ old → Grows old new
same_grows old new is = subst (Grows old) (sym is) (here tt)

-- an opening lets fewer calls through, or as many
pub opening_left : {T : Type 0} (result : Result T OpenError) (left : Option ℕ)
    → calls_left (left_after_opening result left) ≤ calls_left left
opening_left (Ok value) None = omega arith
opening_left (Ok value) (Some left) = omega arith
opening_left (Err openings.Injected) None = omega arith
opening_left (Err openings.Injected) (Some left) = omega arith
opening_left (Err (openings.Header fault)) None = omega arith
opening_left (Err (openings.Header fault)) (Some left) = omega arith
opening_left (Err openings.NumberEnded) left = omega arith
opening_left (Err openings.Memory) left = omega arith
opening_left (Err openings.PowerCut) left = omega arith

-- nothing is called
pub stays : (openings : ℕ) (refusal : Option StoreError) (power : Power) → faults_in refusal ≡ 0 → cuts_in refusal ≡ 0
    → Leaves openings refusal power power
stays openings refusal power faults cuts = record {
  injected = omega (arith, faults);
  refused = omega (arith, cuts);
  left = kept power.left;
  numbers = record {
    names = (omega arith, omega arith);
    files = (omega arith, omega arith);
    calls = here tt;
  };
}
  where
    kept : (left : Option ℕ) → IsSpent left left
    kept None = refl
    kept (Some left) = (left, refl, omega arith)

pub leaves_none : {R : Type 0} (refusal : Option StoreError) (device : DeviceState R) (cache : Cache) → faults_in refusal ≡ 0
    → cuts_in refusal ≡ 0 → Leaves 0 refusal (power_of device cache) (power_of device cache)
leaves_none refusal device cache = stays 0 refusal (power_of device cache)

-- nor of a store that refuses because it had failed
pub leaves_failed : {R : Type 0} (e : StoreError) (device : DeviceState R) (cache : Cache) → e ≡ refusals.Failed
    → Leaves 0 (Some e) (power_of device cache) (power_of device cache)
leaves_failed e device cache is =
    subst (λ x. Leaves 0 (Some x) (power_of device cache) (power_of device cache)) (sym is)
    (leaves_none (Some refusals.Failed) device cache refl refl)

-- nor of a store that refuses to be pruned
pub leaves_unpruned : {R : Type 0} (e : StoreError) (device : DeviceState R) (cache : Cache)
    → (e ≡ refusals.PastFloor) ⊎ (e ≡ refusals.Memory) ⊎ (e ≡ refusals.Failed) → Leaves 0 (Some e) (power_of device cache) (power_of device cache)
leaves_unpruned e device cache (inl is) =
    subst (λ x. Leaves 0 (Some x) (power_of device cache) (power_of device cache)) (sym is)
    (leaves_none (Some refusals.PastFloor) device cache refl refl)
leaves_unpruned e device cache (inr (inl is)) =
    subst (λ x. Leaves 0 (Some x) (power_of device cache) (power_of device cache)) (sym is)
    (leaves_none (Some refusals.Memory) device cache refl refl)
leaves_unpruned e device cache (inr (inr is)) = leaves_failed e device cache is

-- what is equal has the same power
pub leaves_same : {R : Type 0} (old new : DeviceState R) (cache now : Cache) → power_of new now ≡ power_of old cache
    → Leaves 0 None (power_of old cache) (power_of new now)
leaves_same old new cache now is =
    subst (Leaves 0 None (power_of old cache)) (sym is) (leaves_none None old cache refl refl)

-- an opening of the device that is refused
opening_after : (e : OpenError) (before after : Failures) → after.injected ≡ injected_after {T = ℕ} (Err e) before.injected
    → after.refused ≡ refused_after {T = ℕ} (Err e) before.refused → after.is_asked ≡ before.is_asked
    → after.files ≡ before.files → Raises (Some (of_opening e)) before after
opening_after openings.Injected before after injected refused asked files =
    record { injected = injected; refused = omega (arith, refused); asked = asked; files = files }
opening_after (openings.Header fault) before after injected refused asked files =
    record { injected = omega (arith, injected); refused = omega (arith, refused); asked = asked; files = files }
opening_after openings.NumberEnded before after injected refused asked files =
    record { injected = omega (arith, injected); refused = omega (arith, refused); asked = asked; files = files }
opening_after openings.Memory before after injected refused asked files =
    record { injected = omega (arith, injected); refused = omega (arith, refused); asked = asked; files = files }
opening_after openings.PowerCut before after injected refused asked files =
    record { injected = omega (arith, injected); refused = refused; asked = asked; files = files }

pub raises_opening : {R : Type 0} (e : OpenError) (old new : DeviceState R)
    → new.storage.injections ≡ injected_after {T = ℕ} (Err e) old.storage.injections
    → new.refused ≡ refused_after {T = ℕ} (Err e) old.refused → is_some new.left ≡ is_some old.left
    → new.storage.inner ≡ old.storage.inner → Raises (Some (of_opening e)) (failures_of old) (failures_of new)
raises_opening e old new injected refused asked same =
    opening_after e (failures_of old) (failures_of new) injected refused asked (ap (λ (s : Store). s.next) same)

-- an opening of the store in memory gives one number of a file at most
memory_next : (name : List ℕ) (versions : Versions) (partition : List ℕ) (old new : Store)
    (answer : Result (Opened (Blob Handle)) StorageError) → FaultyOpens partition name versions old answer new
    → (old.next ≤ new.next) × (new.next ≤ old.next + 1)
memory_next name versions partition old new (Ok opened) (named, inl there) =
    let same = ap (λ (s : Store). s.next) there.3 in (omega (arith, same), omega (arith, same))
memory_next name versions partition old new (Ok opened) (named, inr made) =
    let more = ap (λ (s : Store). s.next) made.2 in (omega (arith, more), omega (arith, more))
memory_next name versions partition old new (Err e) (same, why) =
    let is = ap (λ (s : Store). s.next) same in (omega (arith, is), omega (arith, is))

-- its admission gives none
admitted_next : (old : Store) (answer : Result (Opened (Blob Handle)) StorageError) (left : Store)
    → (after_admission old answer left).next ≡ left.next
admitted_next old (Ok opened) left = by (has_log old)
  where
    by : (there : Bool) → (cond there (admitted log_partition log_name left) left).next ≡ left.next
    by true = refl
    by false = refl
admitted_next old (Err e) left = refl

-- and so an opening of the device
module _ {R : Type 0} (stream : R → Stream) (old new : DeviceState R) where
  same_next : new ≡ old → (old.storage.inner.next ≤ new.storage.inner.next) × (new.storage.inner.next ≤ old.storage.inner.next + 1)
  same_next is = let same = ap (λ (d : DeviceState R). d.storage.inner.next) is in (omega (arith, same), omega (arith, same))

  pub opening_next : (result : Result ℕ OpenError) → IsOpeningCall stream old result new
      → (old.storage.inner.next ≤ new.storage.inner.next) × (new.storage.inner.next ≤ old.storage.inner.next + 1)
  opening_next result (inl (e, inl ended, told)) = same_next ended.2
  opening_next result (inl (e, inr cut, told)) =
      let same = ap (λ (d : DeviceState R). d.storage.inner.next) cut.4 in (omega (arith, same), omega (arith, same))
  opening_next result (inr (inl lacks)) = same_next lacks.2
  opening_next result (inr (inr (through, (answer, below, call, tells, is)))) =
      let last = ap (λ (s : Storage Store R). s.inner.next) is ∙ admitted_next old.storage.inner answer below.inner in
      let both = called below answer call in (omega (arith, last, both), omega (arith, last, both))
    where
      called : (below : Storage Store R) (answer : Result (Opened (Blob Handle)) StorageError)
          → IsFaultyCall stream Open old.storage.config.«open» (FaultyOpens log_partition log_name log_versions) old.storage answer below
          → (old.storage.inner.next ≤ below.inner.next) × (below.inner.next ≤ old.storage.inner.next + 1)
      called below answer (inl ended) =
          let same = ap (λ (s : Storage Store R). s.inner.next) ended.2 in (omega (arith, same), omega (arith, same))
      called below answer (inr (inl unmade)) =
          let same = ap (λ (s : Storage Store R). s.inner.next) unmade.3 in (omega (arith, same), omega (arith, same))
      called below answer (inr (inr (inl lost))) =
          let same = ap (λ (s : Storage Store R). s.inner.next) lost.3 in (omega (arith, same), omega (arith, same))
      called below answer (inr (inr (inr answers))) =
          memory_next log_name log_versions log_partition old.storage.inner below.inner answer answers.3

-- an opening of the device that succeeds, and calls behind it
pub leaves_behind : {R : Type 0} (refusal : Option StoreError) (old mid new : DeviceState R) (cache now : Cache)
    → mid.storage.injections ≡ old.storage.injections → mid.refused ≡ old.refused → is_some mid.left ≡ is_some old.left
    → (old.storage.inner.next ≤ mid.storage.inner.next) × (mid.storage.inner.next ≤ old.storage.inner.next + 1)
    → Raises refusal (failures_of mid) (failures_of new) → calls_left new.left ≤ calls_left old.left
    → (cache.next_id ≤ now.next_id) × (now.next_id ≤ cache.next_id + 3) → Grows old.calls new.calls
    → Leaves 1 refusal (power_of old cache) (power_of new now)
leaves_behind refusal old mid new cache now injected refused asked given raises fewer names grows =
    let files : new.storage.inner.next ≡ mid.storage.inner.next = raises.files in
    record {
      injected = subst (λ n. new.storage.injections ≡ n + faults_in refusal) injected raises.injected;
      refused = subst (λ n. new.refused ≡ n + cuts_in refusal) refused raises.refused;
      left = spent_by old.left new.left (raises.asked ∙ asked) fewer;
      numbers = record {
        names = names;
        files = (omega (arith, files, given), omega (arith, files, given));
        calls = grows;
      };
    }

-- a cut that is asked for
pub passes_asking : {R : Type 0} (device new : DeviceState R) (cache now : Cache) (calls : ℕ)
    → power_of new now ≡ asked_to_cut calls (power_of device cache)
    → Passes (ask_cut calls) is_set (power_of device cache) (power_of new now)
passes_asking device new cache now calls is =
    subst (Leaves 0 None (asked_to_cut calls (power_of device cache))) (sym is)
    (stays 0 None (asked_to_cut calls (power_of device cache)) refl refl)

-- a crash
pub passes_crash : {R : Type 0} (device new : DeviceState R) (cache : Cache) → new.storage.injections ≡ device.storage.injections
    → new.refused ≡ 0 → new.left ≡ None → new.storage.inner.next ≡ device.storage.inner.next → new.calls ≡ device.calls
    → Passes ask_crash has_crashed (power_of device cache) (power_of new cache)
passes_crash device new cache injected refused left files calls = record {
  injected = omega (arith, injected);
  refused = omega (arith, refused);
  left = left;
  numbers = record {
    names = (omega arith, omega arith);
    files = (omega (arith, files), omega (arith, files));
    calls = same_grows device.calls new.calls calls;
  };
}

pub is_crash : {R : Type 0} (device new : DeviceState R) (cache : Cache) → new.storage.injections ≡ device.storage.injections
    → new.refused ≡ 0 → new.left ≡ None → new.storage.inner.next ≡ device.storage.inner.next → new.calls ≡ device.calls
    → IsCrash (power_of device cache) (power_of new cache)
is_crash device new cache injected refused left files calls =
    ap (λ n. record (power_of new cache) { injected = n }) injected
    ∙ ap (λ n. record (power_of new cache) { injected = device.storage.injections; refused = n }) refused
    ∙ ap (λ l. record (power_of new cache) { injected = device.storage.injections; refused = 0; left = l }) left
    ∙ ap (λ n. record (power_of new cache) { injected = device.storage.injections; refused = 0; left = None; files = n }) files
    ∙ ap (λ c. record (power_of device cache) { refused = 0; left = None; calls = c }) calls
