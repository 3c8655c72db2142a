-- Why a store on a device refuses, from the causes of its parts; and what its calls leave.
use Rattle.std.proofs.Common.{◌≡◌, ◌⊎◌, ◌+◌, ◌-◌, ◌<◌, ◌≤◌, ◌^◌}
use Rattle.std.proofs.Common.{◌==◌, is_some, ℕ, List, ◌∷◌, Option, Some, None, Result, Ok, Err}
use Rattle.std.proofs.Common.{inl, inr, refl, sym, subst, ap, ◌∙◌, ⊎_elim, length, arith}
use Rattle.std.specs.Prelude.{IsTrue, IsFalse, OnOk, IfSome, IsSomeAnd}
use Rattle.std.proofs.lemmas.Bool.{false_from_ne_true, eqb-true}
use Rattle.fault_storage_parts.specs.declared.error.HeaderError.{HeaderError}
use Rattle.fault_storage_parts.specs.Crc32.{crc32}
use Rattle.paged_format.specs.Tips.{Tip}
use Rattle.paged_blob_parts.specs.declared.flush.DurableSlot.{DurableSlot}
use Rattle.paged_blob_parts.specs.Caches.{Cache}
use Rattle.paged_blob_parts.specs.Answers.{RecordsOpening}
use Rattle.paged_blob_parts.specs.Calls.{Call, content, opened, file_of}
use Rattle.paged_blob_parts.specs.Images.{IsImage}
use Rattle.paged_blob_parts.specs.Moments.{Through}
use Rattle.paged_blob_parts.specs.Writers.{Keeps, IsWriterOf}
use Rattle.auth_store_parts.specs.Batch.{Word}
use Rattle.auth_store_parts.specs.History.{History, log_of}
use Rattle.auth_store_device.specs.declared.error.OpenError.{OpenError}
use Rattle.auth_store_device.specs.declared.error.OpenError.TheVariants as openings
use Rattle.auth_store_device.specs.Devices.{DeviceState, HasEnded, HasNoNumber, calls_left, is_cut, log_fault, failures_of, injected_after, left_after_opening}
use Rattle.auth_store_device.specs.Logs.{HasOwnHeader}
use Rattle.auth_store_ledger.specs.Store.{commit_after, root_of_history}
use Rattle.auth_store_log.specs.Records.{Format, recovered_log, history_bytes, log_bytes, AreRecorded}
use Rattle.auth_store_log.specs.Shown.{MayShow, IsKeptThrough}
use Rattle.auth_store_machine.specs.declared.error.StoreError.{StoreError}
use Rattle.auth_store_machine.specs.declared.error.StoreError.TheVariants.{Fault, PowerCut, NumberEnded, Memory}
use Rattle.auth_store_machine.specs.declared.error.StoreError.TheVariants.{Corrupt, Failed, PastFloor, Inactive}
use Rattle.auth_store_machine.specs.declared.error.StoreError.TheVariants.{OutOfRange, Pruned, EmptyRange, Header}
use Rattle.auth_store_machine.specs.Commits.{CommitsOver}
use Rattle.auth_store_machine.specs.Refusals.{of_opening}
use Rattle.auth_store_machine.specs.Machine.{Machine, IsEndingOpening, MayRefuseRead, MayRefuseBatch, MayRefuseAppend, PassesLimit}
use Rattle.auth_store_machine.specs.Stores.{StoreState, LiveState, IsStore, IsLive, IsLiveAt, IsNoHistory, IsPruned, OpeningsShow}
use Rattle.auth_store_machine.specs.Stores.{IsReadRefusal, IsOpenRefusal, IsBatchRefusal, IsAppendRefusal, EndsDisk, EndsOpening}
use Rattle.auth_store_machine.proofs.Kept.{keeps_history}
use Rattle.auth_store_machine.specs.Standing.{power_of, shown_of, result_of, Commits, IsOpenError, IsShownThrough}
use Rattle.auth_store_machine.proofs.Grown.{keeps_live}

-- where no call is left a cut stands, and else none
pub cut_stands : (left : Option ℕ) → left ≡ Some 0 → IsTrue (is_cut left)
cut_stands left is = ap is_cut is

pub not_cut : (left : Option ℕ) → (left ≡ Some 0 → ⊥) → IsFalse (is_cut left)
not_cut None lasts = refl
not_cut (Some left) lasts = false_from_ne_true (left == 0) (λ is. lasts (ap Some (eqb-true _ _ is)))

-- an opening that succeeds was under no cut
pub opened_uncut : {R T : Type 0} (old : DeviceState R) (result : Result T OpenError)
    → (old.left ≡ Some 0 → HasEnded old ⊎ (result ≡ Err openings.PowerCut)) → (HasEnded old → result ≡ Err openings.NumberEnded)
    → OnOk result (IsFalse (is_cut old.left))
opened_uncut old (Ok value) cut ended = not_cut old.left (λ is. ⊎_elim (λ has. not_err (ended has)) not_err (cut is))
  where
    not_err : {T : Type 0} {value : T} {e : OpenError} → Ok value ≡ Err e → ⊥
    not_err is = cc
opened_uncut old (Err e) cut ended = tt

-- a device that the opening refuses
module _ {R T : Type 0} (m : Machine) (format : Format) (old new : DeviceState R) (cache : Cache)
  where
    pub device_refused : (e : OpenError) (result : Result T OpenError) → result ≡ Err e
        → new.storage.injections ≡ injected_after result old.storage.injections
        → (result ≡ Err openings.NumberEnded → HasEnded old ⊎ HasNoNumber old.storage.inner)
        → (result ≡ Err openings.PowerCut → old.left ≡ Some 0)
        → ((fault : HeaderError) → result ≡ Err (openings.Header fault) → log_fault old.storage.inner ≡ Some fault)
        → ((fault : HeaderError) → HasOwnHeader old.storage.inner → result ≡ Err (openings.Header fault) → ⊥)
        → new.left ≡ left_after_opening result old.left → IsOpenError m format old cache new cache (of_opening e)
    device_refused (openings.Header fault) result is count numbers power header own left = (header fault is, λ has. own fault has is)
    device_refused openings.Injected result is count numbers power header own left =
        let counted : new.storage.injections ≡ old.storage.injections + 1 =
        count ∙ ap (λ (r : Result T OpenError). injected_after r old.storage.injections) is in
        omega (arith, counted)
    device_refused openings.Memory result is count numbers power header own left = tt
    device_refused openings.PowerCut result is count numbers power header own left =
        cut_stands new.left (left ∙ (ap (λ (r : Result T OpenError). left_after_opening r old.left) is ∙ power is))
    device_refused openings.NumberEnded result is count numbers power header own left = inl (ends (numbers is))
      where
        ends : HasEnded old ⊎ HasNoNumber old.storage.inner
            → IsEndingOpening (power_of old cache)
        ends (inl (inl full)) = inl (inl (omega (arith, full)))
        ends (inl (inr full)) = inl (inr (omega (arith, full)))
        ends (inr (missing, last)) = inr (inr (inr (omega (arith, last))))

-- a recovery that is refused after the device was opened
module _ {R : Type 0} (m : Machine) (format : Format) (old mid new : DeviceState R) (cache now : Cache)
  where
    pub recovery_on_device : (e : StoreError) → mid.storage.injections ≡ old.storage.injections → mid.refused ≡ old.refused
        → content mid.calls ≡ shown_of old → (0 < new.refused → new.left ≡ Some 0)
        → IsShownThrough format m.page_size (shown_of old) old.calls new.calls
        → IsOpenRefusal (failures_of mid) (failures_of new)
        (EndsOpening m.page_size (m.key_size, m.value_size) cache.next_id (length (content mid.calls)))
        (IsNoHistory format (recovered_log format crc32 m.page_size (content mid.calls))) e
        → IsOpenError m format old cache new now e
    recovery_on_device (Fault kind) injected refused shown law through cause = omega (arith, injected, cause)
    recovery_on_device PowerCut injected refused shown law through cause =
        cut_stands new.left (law (omega (arith, cause)))
    recovery_on_device NumberEnded injected refused shown law through (inl (inl full)) = inl (inl (inl (omega (arith, full, injected))))
    recovery_on_device NumberEnded injected refused shown law through (inl (inr full)) = inl (inl (inr (omega (arith, full, refused))))
    recovery_on_device NumberEnded injected refused shown law through (inr (inl names)) = inl (inr (inl names))
    recovery_on_device NumberEnded injected refused shown law through (inr (inr (inl long))) =
        inl (inr (inr (inl (shown_of old, through.0, subst (λ (bytes : List ℕ). 2 ^ 64 ≤ length bytes + 4096) shown long))))
    recovery_on_device NumberEnded injected refused shown law through (inr (inr (inr first))) = inr first
    recovery_on_device Memory injected refused shown law through cause = tt
    recovery_on_device Corrupt injected refused shown law through cause =
        (subst (λ bytes. IsNoHistory format (recovered_log format crc32 m.page_size bytes)) shown cause, through)
    recovery_on_device Failed injected refused shown law through cause = absurd cause
    recovery_on_device PastFloor injected refused shown law through cause = absurd cause
    recovery_on_device Inactive injected refused shown law through cause = absurd cause
    recovery_on_device OutOfRange injected refused shown law through cause = absurd cause
    recovery_on_device Pruned injected refused shown law through cause = absurd cause
    recovery_on_device EmptyRange injected refused shown law through cause = absurd cause
    recovery_on_device (Header fault) injected refused shown law through cause = absurd cause

-- a read that is refused
module _ {R : Type 0} (old new : DeviceState R) (cache now : Cache)
  where
    pub read_on_device : (e : StoreError) → (0 < new.refused → new.left ≡ Some 0) → IsReadRefusal (failures_of old) (failures_of new) e
        → MayRefuseRead (power_of old cache) (power_of new now) e
    read_on_device (Fault kind) law cause = cause
    read_on_device PowerCut law cause = cut_stands new.left (law (omega (arith, cause)))
    read_on_device NumberEnded law (inl (inl full)) = inl full
    read_on_device NumberEnded law (inl (inr full)) = inr full
    read_on_device NumberEnded law (inr none) = absurd none
    read_on_device Memory law cause = tt
    read_on_device Corrupt law cause = absurd cause
    read_on_device Failed law cause = absurd cause
    read_on_device PastFloor law cause = absurd cause
    read_on_device Inactive law cause = absurd cause
    read_on_device OutOfRange law cause = absurd cause
    read_on_device Pruned law cause = absurd cause
    read_on_device EmptyRange law cause = absurd cause
    read_on_device (Header fault) law cause = absurd cause

    -- and a commit before anything is appended
    pub batch_on_device : (m : Machine) (next : History) (e : StoreError) → (0 < new.refused → new.left ≡ Some 0)
        → IsBatchRefusal (failures_of old) (failures_of new) (PassesLimit next) e
        → MayRefuseBatch m (power_of old cache) (power_of new now) next e
    batch_on_device m next (Fault kind) law cause = cause
    batch_on_device m next PowerCut law cause = cut_stands new.left (law (omega (arith, cause)))
    batch_on_device m next NumberEnded law (inl (inl full)) = inl (inl full)
    batch_on_device m next NumberEnded law (inl (inr full)) = inl (inr full)
    batch_on_device m next NumberEnded law (inr limit) = inr limit
    batch_on_device m next Memory law cause = tt
    batch_on_device m next Corrupt law cause = absurd cause
    batch_on_device m next Failed law cause = absurd cause
    batch_on_device m next PastFloor law cause = absurd cause
    batch_on_device m next Inactive law cause = absurd cause
    batch_on_device m next OutOfRange law cause = absurd cause
    batch_on_device m next Pruned law cause = absurd cause
    batch_on_device m next EmptyRange law cause = absurd cause
    batch_on_device m next (Header fault) law cause = absurd cause

    -- and while it is made durable
    pub append_on_device : (m : Machine) (next : History) (e : StoreError) → (0 < new.refused → new.left ≡ Some 0)
        → IsAppendRefusal (failures_of old) (failures_of new)
        (EndsDisk m.page_size (log_bytes m.key_size m.value_size (log_of next))) e
        → MayRefuseAppend m (power_of old cache) (power_of new now) next e
    append_on_device m next (Fault kind) law cause = cause
    append_on_device m next PowerCut law cause = cut_stands new.left (law (omega (arith, cause)))
    append_on_device m next NumberEnded law (inl (inl full)) = inl (inl full)
    append_on_device m next NumberEnded law (inl (inr full)) = inl (inr full)
    append_on_device m next NumberEnded law (inr disk) = inr disk
    append_on_device m next Memory law cause = tt
    append_on_device m next Corrupt law cause = absurd cause
    append_on_device m next Failed law cause = absurd cause
    append_on_device m next PastFloor law cause = absurd cause
    append_on_device m next Inactive law cause = absurd cause
    append_on_device m next OutOfRange law cause = absurd cause
    append_on_device m next Pruned law cause = absurd cause
    append_on_device m next EmptyRange law cause = absurd cause
    append_on_device m next (Header fault) law cause = absurd cause

-- a store of which this is true has not failed
pub is_live : (live : Option LiveState) (history : History) → IsSomeAnd live (λ now. now.history ≡ history)
    → (now : LiveState) × (live ≡ Some now) × (now.history ≡ history)
is_live (Some now) history is = (now, refl, is)
is_live None history is = absurd is

-- what a commit says of a history
module _ {R : Type 0} (m : Machine) (format : Format) (keys : format.key_size ≡ m.key_size) (values : format.value_size ≡ m.value_size)
    (words : List Word) (metadata : Option (List ℕ)) (old new : StoreState R)
  where
    abbrev pub CommitsHere : {D : Type 0} → (D → List ℕ) → Result D StoreError → History → Type 0
    CommitsHere encoding result history =
        CommitsOver m.setting format m.page_size words metadata history (failures_of old.device) (calls_left old.device.left) encoding
        result (failures_of new.device) new.device.calls new.live

    commits_of : {D : Type 0} (encoding : D → List ℕ) (result : Result D StoreError) (history : History)
        → (0 < new.device.refused → new.device.left ≡ Some 0) → CommitsHere encoding result history
        → Commits m format words metadata history old (result_of encoding result) new
    commits_of encoding (Ok root) history law said =
        let next = commit_after words metadata history in (
          said.0 ∙ (ap (λ k. root_of_history m.setting k format.value_size next) keys
              ∙ ap (λ v. root_of_history m.setting m.key_size v next) values),
          is_live new.live _ said.1,
          said.2,
          not_cut old.device.left (λ is. said.3 (ap is_some is, ap calls_left is)),
        )
    commits_of encoding (Err e) history law said = ⊎_elim
        (λ kept. inl (
          is_live new.live history kept.0,
          batch_on_device old.device new.device old.cache new.cache m (commit_after words metadata history) e law kept.1,
        ))
        (λ lost. inr (
          lost.0,
          lost.1.0,
          lost.1.1,
          append_on_device old.device new.device old.cache new.cache m (commit_after words metadata history) e law
              (subst (λ bytes. IsAppendRefusal (failures_of old.device) (failures_of new.device) (EndsDisk m.page_size bytes) e)
              (ap (λ k. log_bytes k format.value_size (log_of (commit_after words metadata history))) keys
              ∙ ap (λ v. log_bytes m.key_size v (log_of (commit_after words metadata history))) values) lost.1.2),
        ))
        said

    pub commits_on_device : {D : Type 0} (encoding : D → List ℕ) (result : Result D StoreError) (history : History)
        → (0 < new.device.refused → new.device.left ≡ Some 0)
        → IfSome old.live (λ was. CommitsHere encoding result was.history) → IsLiveAt old history
        → Commits m format words metadata history old (result_of encoding result) new
    commits_on_device encoding result history law all (was, is, same) =
        commits_of encoding result history law
        (subst (CommitsHere encoding result) same
        (subst (λ (l : Option LiveState). IfSome l (λ was. CommitsHere encoding result was.history)) is all))

-- a store of these parts
abbrev pub store_of : {R : Type 0} → DeviceState R → Cache → Option LiveState → ℕ → StoreState R
store_of device cache live pruned = record { device = device; cache = cache; live = live; pruned = pruned }

pub same_store : {R : Type 0} (device other : DeviceState R) (cache names : Cache) (live now : Option LiveState) (pruned : ℕ)
    → device ≡ other → cache ≡ names → live ≡ now → store_of device cache live pruned ≡ store_of other names now pruned
same_store device other cache names live now pruned d k l =
    ap (λ x. store_of x cache live pruned) d ∙ (ap (λ x. store_of other x live pruned) k ∙ ap (λ x. store_of other names x pruned) l)

-- the history of a live store is that of what it has
pub one_history : {R : Type 0} (device : DeviceState R) (cache : Cache) (live : Option LiveState) (pruned : ℕ) (at : StoreState R)
    (now : LiveState) (history : History) → store_of device cache live pruned ≡ at → live ≡ Some now → IsLiveAt at history → now.history ≡ history
one_history {R = R} device cache live pruned at now history view is (other, stands, same) =
    let all : Some now ≡ Some other = sym is ∙ (ap (λ (s : StoreState R). s.live) view ∙ stands) in
    let one : now ≡ other = cc in ap (λ (l : LiveState). l.history) one ∙ same

-- what holds of the history and of the pruned chunks that it has holds of the store's
pub carried : {R : Type 0} (P : History → ℕ → Type 0) (device : DeviceState R) (cache : Cache) (live : Option LiveState) (pruned : ℕ)
    (at : StoreState R) (now made : LiveState) (history : History) → store_of device cache live pruned ≡ at → live ≡ Some now
    → IsPruned live pruned → made ≡ now → IsLiveAt at history → P made.history made.pruned → P history at.pruned
carried {R = R} P device cache live pruned at now made history view is are same stands holds =
    let one : made.history ≡ history = ap (λ (l : LiveState). l.history) same
    ∙ one_history device cache live pruned at now history view is stands in
    let number : made.pruned ≡ at.pruned = ap (λ (l : LiveState). l.pruned) same
    ∙ (subst (λ (l : Option LiveState). IsPruned l pruned) is are ∙ ap (λ (s : StoreState R). s.pruned) view) in
    subst (P history) number (subst (λ (h : History). P h made.pruned) one holds)

-- what a live store has on its blob shows its history
pub live_shows : (format : Format) (calls : List Call) (cache : Cache) (now : LiveState)
    → ((sum : List ℕ → ℕ) (size : ℕ) (calls : List Call) (content : List ℕ) (synced : ℕ) (tip : Tip) (slot : Option DurableSlot)
    → 12 ≤ size → IsWriterOf sum size calls content synced tip slot → Keeps sum size content synced calls)
    → ((format : Format) (sum : List ℕ → ℕ) (size : ℕ) (calls : List Call) (history : History) → AreRecorded format (log_of history)
    → Keeps sum size (history_bytes format history) (length (history_bytes format history)) calls → MayShow format sum size history None calls)
    → IsLive format calls cache now → OpeningsShow format (cache.page_size + 12) now.history None calls
live_shows format calls cache now keeps whole is =
    let durable = keeps_live format calls cache now keeps (omega (arith, is.sized)) is in
    let size = cache.page_size + 12 in
    record {
      written = is.log;
      next = tt;
      shown = whole format crc32 size calls now.history is.log.recorded durable;
      kept = keeps_history format size now.history calls durable;
    }

-- what the parts of an open store show
pub parts_show : {R : Type 0} (format : Format) (device : DeviceState R) (cache : Cache) (live : Option LiveState) (pruned : ℕ)
    (at : StoreState R) (history : History) → store_of device cache live pruned ≡ at → IsStore format (store_of device cache live pruned)
    → IfSome live (λ now. (calls : List Call) (cache : Cache) → IsLive format calls cache now
    → OpeningsShow format (cache.page_size + 12) now.history None calls)
    → IsLiveAt at history → OpeningsShow format (at.cache.page_size + 12) history None at.device.calls
parts_show {R = R} format device cache (Some now) pruned at history view is shown live =
    subst (λ (s : StoreState R). OpeningsShow format (s.cache.page_size + 12) history None s.device.calls) view
    (subst (λ h. OpeningsShow format (cache.page_size + 12) h None device.calls)
    (one_history device cache (Some now) pruned at now history view refl live) (shown device.calls cache is.live))
parts_show {R = R} format device cache None pruned at history view is shown (now, stands, same) =
    let all : None ≡ Some now = ap (λ (s : StoreState R). s.live) view ∙ stands in absurd (cc)

-- an opening that is recorded with what it shows shows an image
pub opened_image : (old mid : List Call) (shown : List ℕ) → mid ≡ opened shown ∷ old → RecordsOpening old mid → IsImage (file_of old) shown
opened_image old mid shown is (other, image, same) =
    let all : opened other ∷ old ≡ opened shown ∷ old = sym same ∙ is in
    let one : other ≡ shown = cc in subst (IsImage (file_of old)) one image

-- what a recovery leaves at each moment after such an opening
pub shown_through : (format : Format) (size : ℕ) (old mid new : List Call) (shown : List ℕ) → mid ≡ opened shown ∷ old → RecordsOpening old mid
    → Through (IsKeptThrough format crc32 size (recovered_log format crc32 size (content mid))) mid new → IsShownThrough format size shown old new
shown_through format size old mid new shown is records through = (
  opened_image old mid shown is records,
  subst (λ (m : List Call). Through (IsKeptThrough format crc32 size (recovered_log format crc32 size (content m))) m new) is through,
)

-- a device that is closed then was refused for the same reason
pub refused_closed : {R : Type 0} (m : Machine) (format : Format) (old new : DeviceState R) (cache now : Cache) (e : StoreError)
    → IsOpenError m format old cache new now e → IsOpenError m format old cache (record new { log = None }) now e
refused_closed m format old new cache now (Fault kind) why = why
refused_closed m format old new cache now PowerCut why = why
refused_closed m format old new cache now NumberEnded why = why
refused_closed m format old new cache now Memory why = why
refused_closed m format old new cache now Corrupt why = why
refused_closed m format old new cache now Failed why = why
refused_closed m format old new cache now PastFloor why = why
refused_closed m format old new cache now Inactive why = why
refused_closed m format old new cache now OutOfRange why = why
refused_closed m format old new cache now Pruned why = why
refused_closed m format old new cache now EmptyRange why = why
refused_closed m format old new cache now (Header fault) why = why
