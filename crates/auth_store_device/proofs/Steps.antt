-- How a device is carried on by each call.
use Rattle.std.proofs.Common.{◌≡◌, ℕ, zero, suc, ◌<◌, Bool, true, false, Option, Some, None}
use Rattle.std.proofs.Common.{List, [], ◌∷◌, length, drop, sym, ◌∙◌, ap, subst, refl, arith}
use Rattle.std.specs.Prelude.{IfNone, IfSome, ◌⊎◌}
use Rattle.std.specs.declared.alloc.Global.{Global}
use Rattle.std.specs.declared.vec.Vec.{Vec}
use Rattle.std.proofs.Common.{inl, inr}
use Rattle.std.proofs.lemmas.Bool.{both_ways, false_from_ne_true}
use Rattle.rand_core.specs.Stream.{Stream}
use Rattle.fault_storage_parts.specs.Files as files
use Rattle.fault_storage_parts.specs.Files.{Mutation, ArePast, IsLeftOf, left_by, durable_bytes}
use Rattle.fault_storage.specs.declared.faulty.Blob.{Blob}
use Rattle.fault_storage.specs.declared.faulty.Storage.{Storage}
use Rattle.fault_storage.specs.Stores.{Store, Handle, AreLeftOf, crashed_store}
use Rattle.fault_storage.specs.Directory.{has_partition, HasFile, LacksName}
use Rattle.fault_storage_parts.specs.declared.error.Error.{Error}
use Rattle.fault_storage_parts.specs.declared.error.Error.TheVariants.{PartitionMissing, BlobMissing, Memory}
use Rattle.fault_storage.proofs.Leaving.{crash-leaves}
use Rattle.fault_storage_parts.proofs.Left.{left-keeps}
use Rattle.paged_blob_parts.specs.Calls.{Call, opened, synced, File, file_of}
use Rattle.std.proofs.Common.{Result, Ok, Err}
use Rattle.paged_blob_parts.specs.declared.error.Error as refusals
use Rattle.paged_blob_parts.specs.declared.error.Error.TheVariants.{NumberEnded, PowerCut}
use Rattle.paged_blob_parts.specs.Images.{IsImage, IsReached}
use Rattle.paged_blob_parts.proofs.Live.{reached_image}
use Rattle.auth_store_device.specs.Logs.{IsOrderly, IsHandleOf, are_numbered, log_partition, log_name, has_log, log_of, durable_log, behind_header}
use Rattle.auth_store_device.specs.Logs.{log_versions, HasHeader, IsForeign, Stands, IsOpenLog, HasOwnHeader}
use Rattle.auth_store_device.specs.Devices.{DeviceState, IsDevice, IsStopped, IsLetThrough, HasEnded, shown_file, log_fault, opening_answer}
use Rattle.auth_store_device.specs.Devices.{opening_refusal, stopped_opening, TellsOpening, after_admission, IsOpeningCall}
use Rattle.auth_store_device.specs.declared.error.OpenError.{OpenError}
use Rattle.auth_store_device.specs.declared.error.OpenError.TheVariants as openings
use Rattle.fault_storage_parts.specs.declared.error.HeaderError.{HeaderError}
use Rattle.fault_storage.specs.declared.storage.Opened.{Opened}
use Rattle.fault_storage.specs.Faults.{IsFaultyCall, FaultyOpens}
use Rattle.fault_storage_parts.specs.declared.error.Call.TheVariants.{Open}
use Rattle.auth_store_device.proofs.Headers.{made_fine}
use Rattle.auth_store_device.proofs.Reached.{reached_base}
use Rattle.auth_store_device.proofs.Places.{file-none, file-left, has-left, numbered-left}
use Rattle.auth_store_device.proofs.Outcomes.{durable-left, left-left, left-headed, made-headed, past-drop}

-- what choices leave of a file with a header has one, and a foreign one stays as it is
headed_left : (log left : files.File) → IsLeftOf log.base log.log left.base left.log → ArePast 8 log.log → HasHeader log.base ⊎ IsForeign log
    → HasHeader left.base ⊎ IsForeign left
headed_left log left by past (inl headed) = inl (left-headed log.base left.base log.log left.log by past headed)
headed_left log left by past (inr foreign) = inr (subst IsForeign (sym same) foreign)
  where
    drop-none : (n : ℕ) → drop n log.log ≡ []
    drop-none n = ap (drop n) foreign.settled ∙ none n
      where
        none : (n : ℕ) → drop {A = Mutation} n [] ≡ []
        none zero = refl
        none (suc n) = refl

    base : left.base ≡ log.base
    base = by.is ∙ ap (left_by by.choices log.base) foreign.settled ∙ kept by.choices
      where
        kept : (choices : List (List Bool)) → left_by choices log.base [] ≡ log.base
        kept [] = refl
        kept (choice ∷ choices) = refl

    same : left ≡ log
    same =
        ap (λ (b : List ℕ). record { base = b; log = left.log }) base
        ∙ ap (λ (l : List Mutation). record { base = log.base; log = l }) (by.rest ∙ drop-none (length by.choices) ∙ sym foreign.settled)

-- what choices left of each file is as orderly
pub orderly_left : (store left : Store) → AreLeftOf store.files left.files → left.next ≡ store.next → left.partitions ≡ store.partitions
    → IsOrderly store → IsOrderly left
orderly_left store left by numbers listed o =
    let file = file-left store.files left.files by in
    let has = has-left store.files left.files by in
    record {
      numbered = ap (λ n. are_numbered n left.files) numbers ∙ numbered-left store.next store.files left.files by ∙ o.numbered;
      listed = λ there. ap (has_partition log_partition) listed ∙ o.listed (sym has ∙ there);
      headed = λ there. headed_left (log_of store) (log_of left) file o.past (o.headed (sym has ∙ there));
      past = subst (ArePast 8) (sym file.rest) (past-drop 8 (length file.choices) (log_of store).log o.past);
    }

pub stands_left : (file : File) (log left : files.File) → IsLeftOf log.base log.log left.base left.log → Stands file log → Stands file left
stands_left file log left by s = record { each = λ last is. s.each last (left-left log.base left.base last log.log left.log [] by is) }

-- where the log begins as one that the device makes, what a crash leaves of it does
pub own_left : (store left : Store) → AreLeftOf store.files left.files → IsOrderly store → HasOwnHeader store → HasOwnHeader left
own_left store left by o own there =
    let has : has_log store ≡ true = sym (has-left store.files left.files by) ∙ there in
    left-keeps 8 (log_of store).base (log_of left).base (log_of store).log (log_of left).log
    (file-left store.files left.files by) (made-headed (log_of store).base (own has)).long o.past
    ∙ own has

pub own_crashed : (store left : Store) (words after : Stream) → ◌≡◌ {A = Store × Stream} (left, after) (crashed_store store words)
    → IsOrderly store → HasOwnHeader store → HasOwnHeader left
own_crashed store left words after is =
    own_left store left (subst (AreLeftOf store.files) (sym (ap (λ (p : Store × Stream). p.0.files) is)) (crash-leaves store.files store.order words))

-- and no opening refuses its header
pub own_fine : (store : Store) → IsOrderly store → HasOwnHeader store → has_log store ≡ true → log_fault store ≡ None
own_fine store o own there =
    let file = log_of store in
    let durable = durable_log store in
    made_fine durable
    (left-keeps 8 file.base durable file.log [] (durable-left file.base file.log) (made-headed file.base (own there)).long o.past ∙ own there)

module _ {R : Type 0} where
  -- a crash of a closed device
  pub crashed : (old new : DeviceState R) (words after : Stream)
      → ◌≡◌ {A = Store × Stream} (new.storage.inner, after) (crashed_store old.storage.inner words)
      → old.log ≡ None → new.log ≡ old.log → new.calls ≡ old.calls → new.refused ≡ 0 → IsDevice old → IsDevice new
  crashed old new words after is closed log calls none d =
      let store = old.storage.inner in
      let left = new.storage.inner in
      let by : AreLeftOf store.files left.files =
      subst (AreLeftOf store.files) (sym (ap (λ (p : Store × Stream). p.0.files) is)) (crash-leaves store.files store.order words) in
      record {
        orderly = orderly_left store left by (ap (λ (p : Store × Stream). p.0.next) is) (ap (λ (p : Store × Stream). p.0.partitions) is) d.orderly;
        stands = subst (λ c. Stands (file_of c) (log_of left)) (sym calls)
            (stands_left (file_of old.calls) (log_of store) (log_of left) (file-left store.files left.files by) d.stands);
        handle = subst (λ l. IfSome l (λ log. IsHandleOf left (file_of new.calls) log.inner)) (sym (log ∙ closed)) tt;
        cut = λ some. absurd (omega (arith, some, none));
      }

-- a file of which nothing is pending, whose bytes are the base
pub stands_base : (log : files.File) → log.log ≡ [] → Stands (file_of (synced (behind_header (durable_bytes log.base log.log)) true ∷ [])) log
stands_base log none =
    record {
      each = λ left is.
          let now : left ≡ durable_bytes log.base log.log = is.is ∙ ap (files.left_by is.choices log.base) none
          ∙ sym (ap (durable_bytes log.base) none) in
          subst (λ (b : List ℕ). IsReached (file_of (synced (behind_header (durable_bytes log.base log.log)) true ∷ [])) (behind_header b)) (sym now)
          (reached_base (behind_header (durable_bytes log.base log.log)) false);
    }

-- where there is no log, nothing is behind its header
pub nothing_behind : (store : Store) → has_log store ≡ false → [] ≡ behind_header (durable_log store)
nothing_behind store none = ap (λ (log : files.File). behind_header (durable_bytes log.base log.log)) (sym (file-none store.files none))

-- what a copy of the durable bytes has behind its header, or nothing where there is no log
pub shown_is : (store : Store) (copied : Option (Vec ℕ Global)) (shown : List ℕ) → IfNone copied (has_log store ≡ false)
    → IfSome copied (λ bytes. (has_log store ≡ true) × (bytes.items ≡ durable_log store)) → IfNone copied (shown ≡ [])
    → IfSome copied (λ bytes. shown ≡ behind_header bytes.items) → shown ≡ behind_header (durable_log store)
shown_is store None shown none some empty behind = empty ∙ nothing_behind store none
shown_is store (Some bytes) shown none some empty behind = behind ∙ ap behind_header some.1

-- where the store refuses the log as one that is not there, it is not there
pub lacks_partition : (store : Store) (e : Error) → (has_log store ≡ true → has_partition log_partition store.partitions ≡ true)
    → LacksName log_partition log_name store e ⊎ ((e ≡ Memory) × HasFile log_partition log_name store) → e ≡ PartitionMissing
    → has_log store ≡ false
lacks_partition store e listed (inl (inl (inl (is, valid)))) missing = cc
lacks_partition store e listed (inl (inl (inr (is, valid, none)))) missing =
    false_from_ne_true _ (λ there. both_ways _ none (listed there))
lacks_partition store e listed (inl (inr (is, some, none))) missing = none
lacks_partition store e listed (inr (is, there)) missing = cc

pub lacks_blob : (store : Store) (e : Error) → LacksName log_partition log_name store e ⊎ ((e ≡ Memory) × HasFile log_partition log_name store)
    → e ≡ BlobMissing → has_log store ≡ false
lacks_blob store e (inl (inl (inl (is, valid)))) missing = cc
lacks_blob store e (inl (inl (inr (is, valid, none)))) missing = cc
lacks_blob store e (inl (inr (is, some, none))) missing = none
lacks_blob store e (inr (is, there)) missing = cc

-- what is durable is an image
pub durable_image : (file : File) (log : files.File) → Stands file log → IsImage file (behind_header (durable_bytes log.base log.log))
durable_image file log s =
    reached_image file (behind_header (durable_bytes log.base log.log)) (s.each (durable_bytes log.base log.log) (durable-left log.base log.log))

module _ {R : Type 0} where
  -- a device whose log was opened
  pub opened_device : (storage : Storage Store R) (log : Blob Handle) (calls earlier : List Call) (shown : List ℕ) (left : Option ℕ) (refused : ℕ)
      → IsOpenLog storage.inner (shown_file shown) log.inner → calls ≡ opened shown ∷ earlier → (0 < refused → left ≡ Some 0)
      → IsDevice (record { storage = storage; log = Some log; calls = calls; left = left; refused = refused })
  opened_device storage log calls earlier shown left refused o recorded cut = record {
    orderly = o.orderly;
    stands = subst (λ c. Stands (file_of c) (log_of storage.inner)) (sym recorded) o.stands;
    handle = subst (λ c. IsHandleOf storage.inner (file_of c) log.inner) (sym recorded) o.opened;
    cut = cut;
  }

  -- where a count has ended, that is why a call is stopped
  pub stopped_ended : (old new : DeviceState R) (e : refusals.Error) → IsStopped {T = Unit} old (Err e) new → HasEnded old → e ≡ NumberEnded
  stopped_ended old new e (inl (ended, is, same)) has = cc
  stopped_ended old new e (inr (injections, refused, cut, is, same)) (inl full) = absurd (omega (arith, injections, full))
  stopped_ended old new e (inr (injections, refused, cut, is, same)) (inr full) = absurd (omega (arith, refused, full))

  -- a call that is stopped for a number is stopped by a count that has ended
  pub stopped_number : (old new : DeviceState R) (e : refusals.Error) → IsStopped {T = Unit} old (Err e) new
      → stopped_opening e ≡ openings.NumberEnded → HasEnded old
  stopped_number old new e (inl (ended, is, same)) why = ended
  stopped_number old new e (inr (injections, refused, cut, is, same)) why =
      let one : e ≡ PowerCut = cc in absurd (not_number (ap stopped_opening (sym one) ∙ why))
    where
      not_number : openings.PowerCut ≡ openings.NumberEnded → ⊥
      not_number is = cc

-- what the device answers of an opening tells of the store's answer
pub tells_ok : (answer : Result (Opened (Blob Handle)) Error) (log : Blob Handle) (count : ℕ) → Ok log ≡ opening_answer answer
    → TellsOpening answer (Ok count)
tells_ok (Ok shown) log count is = refl
tells_ok (Err e) log count is = cc

pub tells_err : (answer : Result (Opened (Blob Handle)) Error) (e : OpenError) (result : Result ℕ OpenError) → result ≡ Err e
    → Err e ≡ opening_answer answer → TellsOpening answer result
tells_err (Ok shown) e result told is = cc
tells_err (Err refusal) e result told is = let same : e ≡ opening_refusal refusal = cc in told ∙ ap Err same

-- a header that is the device's own is not refused
pub own_refused : (store : Store) (fault : HeaderError) → IsOrderly store → HasOwnHeader store
    → (has_log store ≡ true) × (log_fault store ≡ Some fault) → ⊥
own_refused store fault o own (there, found) = let none = own_fine store o own there in cc

module _ {R : Type 0} (stream : R → Stream) where
  -- an opening that reached the store
  pub draws_opening : (before old new : DeviceState R) (result : Result ℕ OpenError) (answer : Result (Opened (Blob Handle)) Error) (below : Storage Store R)
      → before ≡ old → IsLetThrough before
      → IsFaultyCall stream Open before.storage.config.«open» (FaultyOpens log_partition log_name log_versions) before.storage answer below
      → TellsOpening answer result → new.storage ≡ record below { inner = after_admission before.storage.inner answer below.inner }
      → IsOpeningCall stream old result new
  draws_opening before old new result answer below same lasts call tells left =
      subst (λ (s : DeviceState R). IsOpeningCall stream s result new) same (inr (inr (lasts, (answer, below, call, tells, left))))
