-- The log of a live store on its blob: which operations its bytes are, when it may be read, and what reads leave.
use Rattle.std.specs.Prelude.{◌≡◌, ◌+◌, ◌<◌, ◌≤◌, ℕ, List, [], ◌∷◌, Option, Some, None, option_map, Result, Ok, Err}
use Rattle.std.specs.Prelude.{true}
use Rattle.std.specs.List.{flat_map}
use Rattle.fault_storage_parts.specs.Crc32.{crc32}
use Rattle.paged_blob_parts.specs.Answers.{Failures}
use Rattle.paged_blob_parts.specs.Caches.{Cache}
use Rattle.paged_blob_parts.specs.CachedContent.{HoldsPagesOf}
use Rattle.paged_blob_parts.specs.Calls.{Call}
use Rattle.paged_blob_parts.specs.Writers.{WriterState, IsWriter, written}
use Rattle.state_ops.specs.Operation.{Operation}
use Rattle.state_ops_parts.specs.Grammar.{Found}
use Rattle.state_theory.specs.Canonical.{Setting}
use Rattle.auth_store_parts.specs.History.{History, history_of}
use Rattle.auth_store_log.specs.Records.{Format, AreRecorded, log_bytes, operation_in, whole_records}
use Rattle.auth_store_log.specs.declared.error.LogError.{LogError}
use Rattle.auth_store_ledger.specs.Store.{LedgerState, IsLedgerOf}
use Rattle.auth_store_proving.specs.declared.error.Unprovable.{Unprovable}
use Rattle.auth_store_proving.specs.declared.error.Unprovable.TheVariants as reasons
use Rattle.auth_store_machine.specs.declared.error.StoreError.{StoreError}
use Rattle.auth_store_machine.specs.declared.error.StoreError.TheVariants.{Inactive, OutOfRange, Pruned, EmptyRange}
use Rattle.auth_store_machine.specs.Refusals.{of_log}
use Rattle.auth_store_machine.specs.Stores.{LiveState, IsCache, IsLive, IsReadRefusal, Raises}

-- ---- the operations that the bytes of a log are

-- the operation that was found, where one was
abbrev pub found_operation : Found Operation → List Operation
found_operation (Ok found) = found.0 ∷ []
found_operation (Err e) = []

-- the operations whose records some bytes are, one behind the other
unfoldable pub operations_in : Format → List ℕ → List Operation
operations_in format bytes =
    flat_map (λ piece. found_operation (operation_in format piece)) (whole_records format bytes)

-- so of what a writer has
abbrev pub log_in : Format → List Call → WriterState → List Operation
log_in format calls writer = operations_in format (written crc32 calls writer)

-- ---- a live store

-- what a store has while it has not failed: what its ledger keeps, and the writer of its log
pub record LiveParts : Type 0 where
  pub ledger : LedgerState
  pub writer : WriterState

-- What they are over the calls of a blob: the history is the one that the bytes of the log say, and stands nowhere
-- else.
abbrev pub live_on : Format → List Call → LiveParts → LiveState
live_on format calls parts = record {
  history = history_of (log_in format calls parts.writer);
  writer = parts.writer;
  pruned = parts.ledger.kept.bits.pruned;
}

-- A store is live on its blob, and its ledger keeps what there is to keep of its log.
pub record IsLiveOn (setting : Setting) (format : Format) (calls : List Call) (cache : Cache) (parts : LiveParts)
    : Type 0 where
  pub live : IsLive format calls cache (live_on format calls parts)
  pub ledger : IsLedgerOf setting format (log_in format calls parts.writer) parts.ledger

-- what those of a store are that may have failed
abbrev pub seen_on : Format → List Call → Option LiveParts → Option LiveState
seen_on format calls parts = option_map (live_on format calls) parts

-- ---- reads

-- what is seen of a blob and of the cache over it
pub record Over : Type 0 where
  pub calls : List Call
  pub failures : Failures
  pub left : ℕ
  pub cache : Cache

abbrev pub over : List Call → Failures → ℕ → Cache → Over
over calls failures left cache = record { calls = calls; failures = failures; left = left; cache = cache }

-- the log of a writer may be read: its blob is open, the cache has pages of it alone under its name, and its bytes are
-- those of a log
pub record IsReadable (format : Format) (now : Over) (w : WriterState) : Type 0 where
  pub writer : IsWriter crc32 now.calls w
  pub opened : now.failures.is_open ≡ true
  pub cache : IsCache now.cache
  pub sized : w.page_size ≡ now.cache.page_size + 12
  pub named : w.blob_id < now.cache.next_id
  pub cached : HoldsPagesOf (written crc32 now.calls w) now.cache w.blob_id
  pub bytes : log_bytes format.key_size format.value_size (log_in format now.calls w)
      ≡ written crc32 now.calls w
  pub recorded : AreRecorded format (log_in format now.calls w)

-- what reads of its log leave of blob and cache, of which none is refused
pub record Leads (format : Format) (writer : WriterState) (one other : Over) : Type 0 where
  pub calls : other.calls ≡ one.calls
  pub failures : other.failures ≡ one.failures
  pub left : other.left ≤ one.left
  pub cache : other.cache ≡ record one.cache { pages = other.cache.pages }
  pub readable : IsReadable format one writer → IsReadable format other writer

-- and of which the last is refused for that
pub record Refuses (format : Format) (writer : WriterState) (one other : Over) (refusal : LogError) : Type 0 where
  pub calls : other.calls ≡ one.calls
  pub raised : Raises (Some (of_log refusal)) one.failures other.failures
  pub opened : other.failures.is_open ≡ one.failures.is_open
  pub settings : other.failures.settings ≡ one.failures.settings
  pub left : other.left ≤ one.left
  pub cache : other.cache ≡ record one.cache { pages = other.cache.pages }
  pub readable : IsReadable format one writer → IsReadable format other writer
  pub cause : IsReadable format one writer → IsReadRefusal one.failures other.failures (of_log refusal)

-- What a request leaves that only reads, of which the last read is refused for that, or none.
pub record LeavesRead (refusal : Option StoreError) (one other : Over) : Type 0 where
  pub calls : other.calls ≡ one.calls
  pub raised : Raises refusal one.failures other.failures
  pub opened : other.failures.is_open ≡ one.failures.is_open
  pub settings : other.failures.settings ≡ one.failures.settings
  pub left : other.left ≤ one.left
  pub cache : other.cache ≡ record one.cache { pages = other.cache.pages }

-- why a request for a proof is refused, where this is the proof, or why there is none: that, or a read was refused
abbrev pub IsProofRefusal : {A : Type 0} → Failures → Failures → Result A Unprovable → StoreError → Type 0
IsProofRefusal before after expected Inactive = expected ≡ Err reasons.Inactive
IsProofRefusal before after expected OutOfRange = expected ≡ Err reasons.OutOfRange
IsProofRefusal before after expected Pruned = expected ≡ Err reasons.Pruned
IsProofRefusal before after expected EmptyRange = expected ≡ Err reasons.EmptyRange
IsProofRefusal before after expected error = IsReadRefusal before after error

-- ---- readers

-- what a reader of a log has: the names of what its blob and its cache are lent through, the writer of the log, and
-- what is seen of blob and cache
pub record ReaderState : Type 0 where
  pub blob : ℕ
  pub cache : ℕ
  pub writer : WriterState
  pub now : Over

-- the operations of the log of what is seen as a reader
abbrev pub log_of_reader : {R : Type 0} → Format → (R → ReaderState) → R → List Operation
log_of_reader format seen reader = log_in format (seen reader).now.calls (seen reader).writer

-- it may read
abbrev pub MayRead : {R : Type 0} → Format → (R → ReaderState) → R → Type 0
MayRead format seen reader = IsReadable format (seen reader).now (seen reader).writer

-- its reads lead from one to the other, through the same references
abbrev pub LeadsTo : {R : Type 0} → Format → (R → ReaderState) → R → R → Type 0
LeadsTo format seen one other = ((seen other).blob ≡ (seen one).blob) × ((seen other).cache ≡ (seen one).cache)
    × ((seen other).writer ≡ (seen one).writer)
    × Leads format (seen one).writer (seen one).now (seen other).now

-- and the last of them is refused for that
abbrev pub RefusesAt : {R : Type 0} → Format → (R → ReaderState) → R → R → LogError → Type 0
RefusesAt format seen one other refusal = ((seen other).blob ≡ (seen one).blob)
    × ((seen other).cache ≡ (seen one).cache) × ((seen other).writer ≡ (seen one).writer)
    × Refuses format (seen one).writer (seen one).now (seen other).now refusal
