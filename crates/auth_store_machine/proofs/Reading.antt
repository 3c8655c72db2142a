-- What a read of one operation of the log says, and why it is refused.
use Rattle.std.proofs.Common.{◌≡◌, ◌+◌, ◌-◌, ◌*◌, ◌/◌, ◌<◌, ◌≤◌, ℕ, zero}
use Rattle.std.proofs.Common.{suc, false, List, Some, ap, refl, subst, sym, ◌∙◌, true, length, arith}
use Rattle.std.proofs.lemmas.Nat.{le-div, mul-le}
use Rattle.std.proofs.Math.Nat.{div-mul-le_self}
use Rattle.std.specs.Prelude.{Err, IfErr, Ok, OnOk, Result}
use Rattle.fault_storage_parts.specs.Crc32.{crc32}
use Rattle.paged_format.specs.Footers.{content_size, IsPageSize}
use Rattle.paged_blob_parts.specs.Answers.{Failures, IsPastNumbers}
use Rattle.paged_blob_parts.specs.Caches.{Cache}
use Rattle.paged_blob_parts.specs.CachedContent.{HoldsPagesOf}
use Rattle.paged_blob_parts.specs.Calls.{Call}
use Rattle.paged_blob_parts.specs.Flushes.{physical_size, page_count}
use Rattle.paged_blob_parts.specs.Writers.{IsWriter, WriterState, written}
use Rattle.paged_blob_parts.specs.declared.error.CallKind.TheVariants.{Read}
use Rattle.paged_blob_parts.specs.declared.error.Error.TheVariants.{Injected, BlobMissing, BlobInsufficientLength}
use Rattle.paged_blob_parts.specs.declared.error.Error.TheVariants.{NumberEnded, Memory, PowerCut, ChecksumMismatch}
use Rattle.state_ops.specs.Operation.{update, ordered}
use Rattle.auth_store_log.specs.Causes.{AreNamed, IsRecordCause, failures_after_reading}
use Rattle.auth_store_log.specs.Records.{AreRecorded, Format, log_bytes, record_size}
use Rattle.auth_store_log.specs.declared.error.LogError.{LogError}
use Rattle.auth_store_log.specs.declared.error.LogError.TheVariants.{Corrupt, Refused}
use Rattle.auth_store_machine.specs.Refusals.{of_log}
use Rattle.auth_store_machine.specs.Reads.{IsReadable, Leads, Over, Refuses, log_in}
use Rattle.auth_store_machine.specs.Stores.{IsReadRefusal}
use Rattle.auth_store_machine.proofs.Long.{log_length}
use Rattle.auth_store_machine.proofs.Powers.{raises_reading}
use Rattle.auth_store_machine.proofs.Refused.{refused_by}

-- the pages of a part are no more than those of all
pages_within : (size offset len : ℕ) → 12 < size → offset ≤ len → offset / content_size size * size ≤ physical_size size len
pages_within size offset len some within =
    mul-le (offset / content_size size) size (page_count size len) size
    (le-div (offset / content_size size) (len + (content_size size - 1)) (content_size size) (omega arith)
    (omega (arith, div-mul-le_self offset (content_size size)))) (omega arith)

-- a page has more than its footer
page_some : (size : ℕ) → IsPageSize (size + 12) → 12 < size + 12
page_some zero is = absurd (let none : false ≡ true = is in cc)
page_some (suc n) is = omega arith

-- why the read of an operation of a log is refused
pub read_refused : (T : Type 0) (format : Format) (now : Over) (writer : WriterState) (index : ℕ) (e : LogError)
    → IsReadable format now writer → index < length (log_in format now.calls writer)
    → IsRecordCause format now.failures writer.page_size writer.tip.offset (written crc32 now.calls writer)
    ((index + 1) * record_size format) e
    → IsReadRefusal now.failures (failures_after_reading {T = T} (Err e) now.failures) (of_log e)
read_refused T format now writer index e is within cause = by_cases e cause
  where
    list : List ℕ
    list = written crc32 now.calls writer

    failures : Failures
    failures = now.failures

    some : 12 < writer.page_size
    some = omega (arith, is.sized, page_some now.cache.page_size is.cache.size)

    reach : ℕ
    reach = writer.tip.offset / content_size writer.page_size * writer.page_size

    past : IsPastNumbers reach → ⊥
    past more = omega (arith, more, is.writer.numbers, pages_within writer.page_size writer.tip.offset (length list) some is.writer.tip_within)

    by_cases : (e : LogError)
        → IsRecordCause format failures writer.page_size writer.tip.offset list ((index + 1) * record_size format) e
        → IsReadRefusal failures (failures_after_reading {T = T} (Err e) failures) (of_log e)
    by_cases Corrupt cause = absurd (cause (log_in format now.calls writer) is.recorded is.bytes)
    by_cases (Refused (Injected kind)) cause = (
      refused_by (Unit {0}) failures Read reach ⊥ (Injected kind) is.opened past cause,
      ap (λ k. Some k) cause,
    )
    by_cases (Refused PowerCut) cause = refused_by (Unit {0}) failures Read reach ⊥ PowerCut is.opened past cause
    by_cases (Refused NumberEnded) cause = refused_by (Unit {0}) failures Read reach ⊥ NumberEnded is.opened past cause
    by_cases (Refused Memory) cause = tt
    by_cases (Refused BlobMissing) cause = refused_by (Unit {0}) failures Read reach ⊥ BlobMissing is.opened past cause
    by_cases (Refused ChecksumMismatch) cause = absurd cause
    by_cases (Refused BlobInsufficientLength) cause =
        let log = log_in format now.calls writer in
        let long = ap length (sym is.bytes) ∙ log_length format log is.recorded in
        absurd (omega (
          arith,
          cause,
          long,
          mul-le (index + 1) (record_size format) (length log) (record_size format) (omega (arith, within)) (omega arith),
        ))

-- an update that is read has the value that stands there
pub same_value : (k v n key value next : List ℕ)
    → Some (update (ordered k v n)) ≡ Some (update (ordered key value next)) → v ≡ value
same_value k v n key value next is = cc

-- ---- what a read leaves

-- an opening stands after a read as before it, and the settings stay
stands_after : (e : LogError) (failures : Failures)
    → ((failures_after_reading {T = Unit {0}} (Err e) failures).is_open ≡ failures.is_open)
    × ((failures_after_reading {T = Unit {0}} (Err e) failures).settings ≡ failures.settings)
stands_after Corrupt failures = (refl, refl)
stands_after (Refused (Injected kind)) failures = (refl, refl)
stands_after (Refused PowerCut) failures = (refl, refl)
stands_after (Refused NumberEnded) failures = (refl, refl)
stands_after (Refused Memory) failures = (refl, refl)
stands_after (Refused BlobMissing) failures = (refl, refl)
stands_after (Refused ChecksumMismatch) failures = (refl, refl)
stands_after (Refused BlobInsufficientLength) failures = (refl, refl)

-- A read of an operation leaves the blob's record and its list as they were, and keeps pages of it.
module _ (format : Format) (writer : WriterState) (one other : Over) (calls : other.calls ≡ one.calls) (left : other.left ≤ one.left)
    (cache : other.cache ≡ record one.cache { pages = other.cache.pages })
    (named : AreNamed one.cache → writer.blob_id < one.cache.next_id → AreNamed other.cache)
    (cached : HoldsPagesOf (written crc32 one.calls writer) one.cache writer.blob_id
    → HoldsPagesOf (written crc32 one.calls writer) other.cache writer.blob_id) where
  stays : other.failures.is_open ≡ one.failures.is_open → IsReadable format one writer → IsReadable format other writer
  stays stood is =
      let pages : other.cache.page_size ≡ one.cache.page_size = ap (λ (k : Cache). k.page_size) cache in
      let next : other.cache.next_id ≡ one.cache.next_id = ap (λ (k : Cache). k.next_id) cache in
      let back : one.calls ≡ other.calls = sym calls in
      record {
        writer = subst (λ (c : List Call). IsWriter crc32 c writer) back is.writer;
        opened = stood ∙ is.opened;
        cache = record { size = subst (λ n. IsPageSize (n + 12)) (sym pages) is.cache.size; named = named is.cache.named is.named };
        sized = omega (arith, is.sized, pages);
        named = omega (arith, is.named, next);
        cached = subst (λ (c : List Call). HoldsPagesOf (written crc32 c writer) other.cache writer.blob_id) back (cached is.cached);
        bytes = subst (λ (c : List Call). log_bytes format.key_size format.value_size (log_in format c writer) ≡ written crc32 c writer)
            back is.bytes;
        recorded = subst (λ (c : List Call). AreRecorded format (log_in format c writer)) back is.recorded;
      }

  module _ {T A B C : Type 0} (a : A) (b : B) (c : C) where
    pub read_leads : (result : Result T LogError) → other.failures ≡ failures_after_reading result one.failures
        → OnOk result (A × B × C × Leads format writer one other)
    read_leads (Ok operation) same = (
      a,
      b,
      c,
      record {
        calls = calls;
        failures = same;
        left = left;
        cache = cache;
        readable = stays (ap (λ (f : Failures). f.is_open) same);
      },
    )
    read_leads (Err e) same = tt

    pub read_refuses : (index : ℕ) (result : Result T LogError) → other.failures ≡ failures_after_reading result one.failures
        → index < length (log_in format one.calls writer)
        → IfErr result (IsRecordCause format one.failures writer.page_size writer.tip.offset (written crc32 one.calls writer)
        ((index + 1) * record_size format))
        → IfErr result (λ e. A × B × C × Refuses format writer one other e)
    read_refuses index (Ok operation) same within cause = tt
    read_refuses index (Err e) same within cause =
        let stood = stands_after e one.failures in
        let opened : other.failures.is_open ≡ one.failures.is_open = ap (λ (f : Failures). f.is_open) same ∙ stood.0 in (
          a,
          b,
          c,
          record {
            calls = calls;
            raised = raises_reading e one.failures other.failures same;
            opened = opened;
            settings = ap (λ (f : Failures). f.settings) same ∙ stood.1;
            left = left;
            cache = cache;
            readable = stays opened;
            cause = λ is. subst (λ (f : Failures). IsReadRefusal one.failures f (of_log e)) (sym same)
                (read_refused T format one writer index e is within cause);
          },
        )
