-- An open store over its device: what holds of it while it has not failed, and what its calls say.
use Rattle.std.specs.Prelude.{◌≡◌, ◌⊎◌, ◌+◌, ◌<◌, ◌≤◌, ◌^◌, ℕ, ⊤, true, List, [], ◌∷◌, length, Option, Some, is_some}
use Rattle.std.specs.Prelude.{IfSome, None}
use Rattle.fault_storage_parts.specs.Crc32.{crc32}
use Rattle.paged_format.specs.Footers.{IsPageSize}
use Rattle.paged_blob_parts.specs.Answers.{Failures, HaveEnded}
use Rattle.paged_blob_parts.specs.Caches.{Cache}
use Rattle.paged_blob_parts.specs.CachedContent.{HoldsPagesOf}
use Rattle.paged_blob_parts.specs.Calls.{Call}
use Rattle.state_ops.specs.Operation.{fixed_size}
use Rattle.paged_blob_parts.specs.Flushes.{physical_size}
use Rattle.paged_blob_parts.specs.Writers.{WriterState, IsWriter, written}
use Rattle.auth_store_parts.specs.History.{History, Commit, AreStates, log_of}
use Rattle.auth_store_device.specs.Devices.{DeviceState}
use Rattle.auth_store_log.specs.Records.{Format, AreRecorded, begun, history_bytes}
use Rattle.auth_store_log.specs.Causes.{AreNamed}
use Rattle.auth_store_log.specs.Shown.{MayShow, KeepsLog}
use Rattle.auth_store_machine.specs.declared.error.StoreError.{StoreError}
use Rattle.auth_store_machine.specs.declared.error.StoreError.TheVariants.{Fault, PowerCut, NumberEnded, Memory}
use Rattle.auth_store_machine.specs.declared.error.StoreError.TheVariants.{Corrupt}
use Rattle.auth_store_machine.specs.Refusals.{IsOfChange, IsOfRead}
use Rattle.auth_store_machine.specs.Machine.{faults_in, cuts_in}

-- an open store that has not failed: its history, the writer of its log, and how many chunks are pruned of what it
-- keeps
pub record LiveState : Type 0 where
  pub history : History
  pub writer : WriterState
  pub pruned : ℕ

-- an open store: its device and its cache, what it has while it has not failed, and how many chunks are pruned
pub record StoreState (R : Type 0) : Type 0 where
  pub device : DeviceState R
  pub cache : Cache
  pub live : Option LiveState
  pub pruned : ℕ

-- the cache has pages of a size that may be, under names that it has given
pub record IsCache (cache : Cache) : Type 0 where
  pub size : IsPageSize (cache.page_size + 12)
  pub named : AreNamed cache

-- a history of states whose log is no longer than the greatest, and whose operations are of keys and values and are
-- read again as they were written
pub record IsWritten (format : Format) (history : History) : Type 0 where
  pub states : AreStates history
  pub recorded : AreRecorded format (log_of history)
  pub few : length (log_of history) ≤ 2 ^ 62

-- What is written is the log of the history, all of it durable, and the cache has pages of it alone.
pub record IsLive (format : Format) (calls : List Call) (cache : Cache) (live : LiveState) : Type 0 where
  pub writer : IsWriter crc32 calls live.writer
  pub content : written crc32 calls live.writer ≡ history_bytes format live.history
  pub synced : live.writer.synced ≡ length (history_bytes format live.history)
  pub sized : live.writer.page_size ≡ cache.page_size + 12
  pub named : live.writer.blob_id < cache.next_id
  pub cached : HoldsPagesOf (history_bytes format live.history) cache live.writer.blob_id
  pub log : IsWritten format live.history

-- what is true of each open store
pub record IsStore {R : Type 0} (format : Format) (state : StoreState R) : Type 0 where
  pub opened : is_some state.device.log ≡ true
  pub cache : IsCache state.cache
  pub live : IfSome state.live (IsLive format state.device.calls state.cache)

-- so many chunks are pruned of a store that has not failed
abbrev pub IsPruned : Option LiveState → ℕ → Type 0
IsPruned live pruned = IfSome live (λ now. now.pruned ≡ pruned)

-- what is not failed of a store, with so many chunks pruned
abbrev pub with_pruned : Option LiveState → ℕ → Option LiveState
with_pruned None pruned = None
with_pruned (Some now) pruned = Some (record now { pruned = pruned })

-- What the calls of a request leave of what has refused calls, of which the last was refused for that, or none: an
-- injected fault and a call that a cut refuses are counted, and none asks for a cut or makes a file.
pub record Raises (refusal : Option StoreError) (before after : Failures) : Type 0 where
  pub injected : after.injected ≡ before.injected + faults_in refusal
  pub refused : after.refused ≡ before.refused + cuts_in refusal
  pub asked : after.is_asked ≡ before.is_asked
  pub files : after.files ≡ before.files

-- Why a call over the blob may refuse: a count was raised, a number ended, or there was no memory.
abbrev pub IsRefusal : Failures → Failures → Type 0 → StoreError → Type 0
IsRefusal before after Ends (Fault kind) = before.injected < after.injected
IsRefusal before after Ends PowerCut = before.refused < after.refused
IsRefusal before after Ends NumberEnded = HaveEnded before ⊎ Ends
IsRefusal before after Ends Memory = ⊤
IsRefusal before after Ends _ = ⊥

-- The log that is recovered has a commit, and is the log of no history.
abbrev pub IsNoHistory : Format → List ℕ → Type 0
IsNoHistory format log =
    (history : History) → AreStates history → AreRecorded format (log_of history) → history_bytes format history
    ≡ begun format log → ⊥

-- the pages of so many bytes that have the log end past the numbers of the disk
abbrev pub EndsDisk : ℕ → List ℕ → Type 0
EndsDisk size log = 2 ^ 64 ≤ physical_size size (length log) + 4096

-- the names of a cache, the bytes of a blob, or the pages of the first operation of a log end a number
abbrev pub EndsOpening : ℕ → ℕ × ℕ → ℕ → ℕ → Type 0
EndsOpening size sizes names length =
    (2 ^ 64 ≤ names + 3) ⊎ (2 ^ 64 ≤ length + 4096) ⊎ (2 ^ 64 ≤ physical_size size (fixed_size sizes.0 sizes.1) + 4096)

-- By chance or not, what each opening recovers begins with the log of the history, once it has a commit.
abbrev pub OpeningsKeep : Format → ℕ → History → List Call → Type 0
OpeningsKeep format size [] calls = ⊤
OpeningsKeep format size (commit ∷ history) calls = KeepsLog format crc32 size (commit ∷ history) calls

-- Each opening that is not by chance shows the log of the history, or with the pending commit; and by chance or not,
-- the history is kept.
pub record OpeningsShow (format : Format) (size : ℕ) (history : History) (pending : Option Commit)
    (calls : List Call) : Type 0 where
  pub written : IsWritten format history
  pub next : IfSome pending (λ commit. IsWritten format (commit ∷ history))
  pub shown : MayShow format crc32 size history pending calls
  pub kept : OpeningsKeep format size history calls

-- why an opening may: so, or what it recovered is the log of no history
abbrev pub IsOpenRefusal : Failures → Failures → Type 0 → Type 0 → StoreError → Type 0
IsOpenRefusal before after Ends IsNone Corrupt = IsNone
IsOpenRefusal before after Ends IsNone error = IsRefusal before after Ends error

-- why a read of the log may: so, where a fault came into a read
abbrev pub IsReadRefusal : Failures → Failures → StoreError → Type 0
IsReadRefusal before after (Fault kind) = (before.injected < after.injected) × IsOfRead kind
IsReadRefusal before after error = IsRefusal before after ⊥ error

-- why a commit may before anything is appended: so, where a fault came into a read
abbrev pub IsBatchRefusal : Failures → Failures → Type 0 → StoreError → Type 0
IsBatchRefusal before after Ends (Fault kind) = (before.injected < after.injected) × IsOfRead kind
IsBatchRefusal before after Ends error = IsRefusal before after Ends error

-- and why while it is made durable: so, where a fault came into a write or a sync
abbrev pub IsAppendRefusal : Failures → Failures → Type 0 → StoreError → Type 0
IsAppendRefusal before after Ends (Fault kind) = (before.injected < after.injected) × IsOfChange kind
IsAppendRefusal before after Ends error = IsRefusal before after Ends error

-- the store has not failed, and this is its history
abbrev pub IsLiveAt : {R : Type 0} → StoreState R → History → Type 0
IsLiveAt store history = (now : LiveState) × (store.live ≡ Some now) × (now.history ≡ history)

-- while it has not failed, so many bytes wait in its writer at most
abbrev pub HasBuffer : {R : Type 0} → ℕ → StoreState R → Type 0
HasBuffer bytes store = IfSome store.live (λ live. live.writer.tip.capacity ≡ bytes)
