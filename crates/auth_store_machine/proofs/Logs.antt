-- The operations that the bytes of a log are, and the log of a live store.
use Rattle.std.proofs.Common.{◌≡◌, ◌+◌, ◌/◌, ◌<◌, ◌++◌, ℕ, List, []}
use Rattle.std.proofs.Common.{◌∷◌, map, length, take, drop, true, refl, ap, sym, subst, ◌∙◌, arith}
use Rattle.std.proofs.Math.Seq.{take-append_seam, drop-append_seam}
use Rattle.std.proofs.Math.Nat.{div-eq_of_eq-mul_left}
use Rattle.std.specs.List.{flat_map}
use Rattle.fault_storage_parts.specs.Crc32.{crc32}
use Rattle.paged_blob_parts.specs.Answers.{Failures}
use Rattle.paged_blob_parts.specs.Caches.{Cache}
use Rattle.paged_blob_parts.specs.CachedContent.{HoldsPagesOf}
use Rattle.paged_blob_parts.specs.Calls.{Call}
use Rattle.paged_blob_parts.specs.Writers.{written}
use Rattle.state_ops.specs.Operation.{Operation}
use Rattle.state_theory.specs.Canonical.{Setting}
use Rattle.auth_store_parts.specs.History.{history_of, log_of}
use Rattle.auth_store_ledger.specs.Store.{IsLedgerOf}
use Rattle.auth_store_log.specs.Records.{Format, AreRecorded, log_bytes, operation_in, pieces, record_of, record_size, whole_records}
use Rattle.auth_store_machine.specs.Reads.{IsLiveOn, IsReadable, LiveParts, Over, found_operation, live_on, log_in, operations_in, over}
use Rattle.auth_store_machine.specs.Stores.{IsCache, IsLive}
use Rattle.auth_store_machine.proofs.Long.{log_length}

module _ (format : Format) where
  some_size : 0 < record_size format
  some_size = omega arith

  -- the records of a log are the pieces of its bytes
  log_pieces : (log : List Operation) → AreRecorded format log
      → pieces (record_size format) (length log) (log_bytes format.key_size format.value_size log) ≡ map (record_of format) log
  log_pieces [] are = refl
  log_pieces (operation ∷ log) are =
      let size = record_size format in
      let front = record_of format operation in
      let more = log_bytes format.key_size format.value_size log in
      let first : take size (front ++ more) ≡ front = ap (λ n. take n (front ++ more)) (sym are.0.sized) ∙ take-append_seam front more in
      let behind : drop size (front ++ more) ≡ more = ap (λ n. drop n (front ++ more)) (sym are.0.sized) ∙ drop-append_seam front more in
      ap (λ l. l ∷ pieces size (length log) (drop size (front ++ more))) first
      ∙ ap (λ l. front ∷ pieces size (length log) l) behind ∙ ap (λ l. front ∷ l) (log_pieces log are.1)

  found_again : (log : List Operation) → AreRecorded format log
      → flat_map (λ piece. found_operation (operation_in format piece)) (map (record_of format) log) ≡ log
  found_again [] are = refl
  found_again (operation ∷ log) are =
      ap (λ found. found_operation found
      ++ flat_map (λ piece. found_operation (operation_in format piece)) (map (record_of format) log)) are.0.again
      ∙ ap (λ l. operation ∷ l) (found_again log are.1)

  -- so that a log is read of its bytes again
  pub log_again : (log : List Operation) → AreRecorded format log
      → operations_in format (log_bytes format.key_size format.value_size log) ≡ log
  unfolding operations_in whole_records
  log_again log are =
      let bytes = log_bytes format.key_size format.value_size log in
      let size = record_size format in
      let count : length bytes / size ≡ length log = div-eq_of_eq-mul_left some_size (log_length format log are) in
      ap (λ n. flat_map (λ piece. found_operation (operation_in format piece)) (pieces size n bytes)) count
      ∙ (ap (flat_map (λ piece. found_operation (operation_in format piece))) (log_pieces log are) ∙ found_again log are)

-- What is said of a blob and a cache that are lent is said of them as they come back.
pub lent : {D : Type 0} (P : D → Cache → Type 0) {blob now : D} {cache left : Cache} → now ≡ blob → left ≡ cache
    → P blob cache → P now left
lent P {blob} {now} {cache} {left} blob_is cache_is holds =
    subst (λ b. P b left) (sym blob_is) (subst (P blob) (sym cache_is) holds)

-- of a live store
module _ (format : Format) (calls : List Call) (cache : Cache) (parts : LiveParts) (is : IsLive format calls cache (live_on format calls parts)) where
  -- the log is that of its history
  pub log_is : log_in format calls parts.writer ≡ log_of (history_of (log_in format calls parts.writer))
  log_is = ap (operations_in format) is.content ∙ log_again format (log_of (history_of (log_in format calls parts.writer))) is.log.recorded

  -- it may be read
  pub readable : (failures : Failures) (left : ℕ) → failures.is_open ≡ true → IsCache cache
      → IsReadable format (over calls failures left cache) parts.writer
  readable failures left stood is_cache = record {
    writer = is.writer;
    opened = stood;
    cache = is_cache;
    sized = is.sized;
    named = is.named;
    cached = subst (λ bytes. HoldsPagesOf bytes cache parts.writer.blob_id) (sym is.content) is.cached;
    bytes = ap (log_bytes format.key_size format.value_size) log_is ∙ sym is.content;
    recorded = subst (AreRecorded format) (sym log_is) is.log.recorded;
  }

  -- and stays live through reads
  pub lives_on : (other : Over) → other.calls ≡ calls → IsReadable format other parts.writer
      → IsLive format other.calls other.cache (live_on format other.calls parts)
  lives_on other same read = subst (λ (c : List Call). IsLive format c other.cache (live_on format c parts)) (sym same) (record {
    writer = is.writer;
    content = is.content;
    synced = is.synced;
    sized = read.sized;
    named = read.named;
    cached = subst (λ bytes. HoldsPagesOf bytes other.cache parts.writer.blob_id) is.content
        (subst (λ (c : List Call). HoldsPagesOf (written crc32 c parts.writer) other.cache parts.writer.blob_id) same read.cached);
    log = is.log;
  })

-- so with its ledger
pub keeps_on : (setting : Setting) (format : Format) (calls : List Call) (cache : Cache) (parts : LiveParts)
    → IsLiveOn setting format calls cache parts → (other : Over) → other.calls ≡ calls → IsReadable format other parts.writer
    → IsLiveOn setting format other.calls other.cache parts
keeps_on setting format calls cache parts is other same read = record {
  live = lives_on format calls cache parts is.live other same read;
  ledger = subst (λ (c : List Call). IsLedgerOf setting format (log_in format c parts.writer) parts.ledger) (sym same) is.ledger;
}
