use Rattle.std.proofs.Common.{◌≡◌, ◌∙◌, ◌+◌, ◌++◌, Some, ap, sym, subst, length, length-append, arith}
use Rattle.std.specs.Prelude.{IfErr}
use Rattle.std.proofs.lemmas.Result.{err_from_is_err_and}
use Rattle.fault_storage_parts.specs.Crc32.{crc32}
use Rattle.paged_format.specs.Footers.{IsPageSize}
use Rattle.paged_blob_parts.specs.Answers.{Failures}
use Rattle.paged_blob_parts.specs.Caches.{Cache}
use Rattle.paged_blob_parts.specs.CachedContent.{HoldsPagesOf}
use Rattle.paged_blob_parts.specs.Flushes.{physical_size}
use Rattle.paged_blob_parts.specs.Writers.{written}
use Rattle.auth_store_machine.specs.declared.error.StoreError.{StoreError}
use Rattle.auth_store_machine.specs.Machine.{refusal_of}
use Rattle.auth_store_machine.specs.Stores.{IsAppendRefusal, EndsDisk, Raises}
use Rattle.auth_store_machine.proofs.Refused.{open_after, settings_after, append_refused}
use Rattle.auth_store_machine.proofs.Powers.{raises_refused, raises_same}
use Rattle.auth_store_live.proofs.live.append_log.Goals as goal

pub returns-in_err-appended-clause-open : goal.returns-in_err-appended-clause-open
returns-in_err-appended-clause-open g c = ap (λ (f : Failures). f.is_open) c.append_batch.ensures.failures
    ∙ open_after c.append_batch.result (g.B.Blob.failures c.args.blob.now) c.requires.open

pub returns-in_err-appended-clause-settings : goal.returns-in_err-appended-clause-settings
returns-in_err-appended-clause-settings g c = ap (λ (f : Failures). f.settings) c.append_batch.ensures.failures
    ∙ settings_after c.append_batch.result (g.B.Blob.failures c.args.blob.now)

pub returns-in_err-appended-clause-refused : goal.returns-in_err-appended-clause-refused
returns-in_err-appended-clause-refused g c =
    let before : Failures = g.B.Blob.failures c.args.blob.now in
    let size = c.args.cache.now.page_size + 12 in
    let list = written crc32 (g.B.Blob.calls c.args.blob.now) c.args.writer in
    let e = c.in_err-appended.field-0.0 in
    let log = list ++ c.args.bytes.now in
    let long : length log ≡ length list + length c.args.bytes.now = length-append list c.args.bytes.now in
    let p = err_from_is_err_and c.from_residual.result c.from_residual.ensures.1 in
    let why = append_refused (Unit {0}) before (physical_size c.args.writer.page_size (length list + length c.args.bytes.now)) e c.requires.open
    c.in_err-appended.ensures.cause in
    subst (λ r. IfErr r (IsAppendRefusal before (g.B.Blob.failures c.append_batch.new.blob) (EndsDisk size log))) (sym p.1)
    (subst (λ (x : StoreError). IsAppendRefusal before (g.B.Blob.failures c.append_batch.new.blob) (EndsDisk size log) x) (sym p.2)
    (rw (long, sym c.requires.sized, c.in_err-appended.ensures.failures) why))

pub returns-clause-synced : goal.returns-clause-synced
returns-clause-synced g c =
    let list = written crc32 (g.B.Blob.calls c.args.blob.now) c.args.writer in
    c.in_ok-appended.ensures.synced ∙ (sym (length-append list c.args.bytes.now) ∙ ap length (sym c.in_ok-appended.ensures.content))

pub returns-clause-sized : goal.returns-clause-sized
returns-clause-sized g c =
    let cache : c.append_batch.new.cache.page_size ≡ c.args.cache.now.page_size = ap (λ (k : Cache). k.page_size) c.append_batch.ensures.cache in
    omega (arith, c.in_ok-appended.ensures.same.0, c.requires.sized, cache)

pub returns-clause-named : goal.returns-clause-named
returns-clause-named g c =
    let next : c.append_batch.new.cache.next_id ≡ c.args.cache.now.next_id = ap (λ (k : Cache). k.next_id) c.append_batch.ensures.cache in
    omega (arith, c.in_ok-appended.ensures.same.1, c.requires.named, next)

pub returns-clause-cached : goal.returns-clause-cached
returns-clause-cached g c =
    subst (λ l. HoldsPagesOf l c.append_batch.new.cache c.in_ok-appended.appended.blob_id) (sym c.in_ok-appended.ensures.content)
    (subst (λ id. HoldsPagesOf (written crc32 (g.B.Blob.calls c.args.blob.now) c.args.writer ++ c.args.bytes.now) c.append_batch.new.cache id)
    (sym c.in_ok-appended.ensures.same.1) (c.append_batch.ensures.cached c.requires.cached))

pub returns-clause-cache : goal.returns-clause-cache
returns-clause-cache g c =
    let cache : c.append_batch.new.cache.page_size ≡ c.args.cache.now.page_size = ap (λ (k : Cache). k.page_size) c.append_batch.ensures.cache in
    record {
      size = subst (λ n. IsPageSize (n + 12)) (sym cache) c.requires.cache.size;
      named = c.append_batch.ensures.named c.requires.cache.named c.requires.named;
    }

pub returns-in_err-appended-clause-cache : goal.returns-in_err-appended-clause-cache
returns-in_err-appended-clause-cache g c =
    let cache : c.append_batch.new.cache.page_size ≡ c.args.cache.now.page_size = ap (λ (k : Cache). k.page_size) c.append_batch.ensures.cache in
    record {
      size = subst (λ n. IsPageSize (n + 12)) (sym cache) c.requires.cache.size;
      named = c.append_batch.ensures.named c.requires.cache.named c.requires.named;
    }

pub returns-in_err-appended-clause-raised : goal.returns-in_err-appended-clause-raised
returns-in_err-appended-clause-raised g c =
    let before : Failures = g.B.Blob.failures c.args.blob.now in
    let after : Failures = g.B.Blob.failures c.append_batch.new.blob in
    let p = err_from_is_err_and c.from_residual.result c.from_residual.ensures.1 in
    subst (λ r. Raises (refusal_of r) before after) (sym p.1)
    (subst (λ (x : StoreError). Raises (Some x) before after) (sym p.2)
    (raises_refused c.in_err-appended.field-0.0 before after c.in_err-appended.ensures.failures))

pub returns-clause-raised : goal.returns-clause-raised
returns-clause-raised g c =
    raises_same (g.B.Blob.failures c.args.blob.now) (g.B.Blob.failures c.append_batch.new.blob) c.in_ok-appended.ensures.failures
