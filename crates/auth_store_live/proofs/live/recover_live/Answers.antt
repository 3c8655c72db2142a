use Rattle.std.proofs.Common.{◌≡◌, ◌∙◌, ⊎_elim, ◌+◌, Some, ap, sym, subst, List, ℕ, length, arith}
use Rattle.std.specs.Prelude.{IfErr}
use Rattle.std.proofs.lemmas.List.{length-map}
use Rattle.std.proofs.lemmas.Result.{err_from_is_err_and}
use Rattle.fault_storage_parts.specs.Crc32.{crc32}
use Rattle.paged_format.specs.Footers.{IsPageSize}
use Rattle.paged_blob_parts.specs.Answers.{Failures}
use Rattle.paged_blob_parts.specs.Caches.{Cache}
use Rattle.paged_blob_parts.specs.CachedContent.{HoldsPagesOf}
use Rattle.paged_blob_parts.specs.Calls.{content}
use Rattle.state_ops.specs.Operation.{Operation, meaning_of}
use Rattle.paged_blob_parts.specs.Writers.{written}
use Rattle.state_theory.specs.Canonical.{Setting}
use Rattle.auth_store_parts.specs.History.{history_of, meanings, log_of}
use Rattle.auth_store_parts.specs.Laws.Logs.{history_of-log_of}
use Rattle.auth_store_ledger.specs.Store.{IsLedgerOf, setting_of_width}
use Rattle.auth_store_ledger.specs.declared.error.LedgerError.{LedgerError}
use Rattle.auth_store_ledger.specs.declared.error.LedgerError.TheVariants as ledgers
use Rattle.auth_store_log.specs.Records.{Format, format_of, history_bytes, log_bytes, recovered_log, AreRecorded}
use Rattle.auth_store_machine.specs.declared.error.StoreError.{StoreError}
use Rattle.auth_store_machine.specs.Refusals.{of_ledger, of_log}
use Rattle.auth_store_machine.specs.Machine.{refusal_of}
use Rattle.auth_store_machine.specs.Stores.{IsOpenRefusal, IsNoHistory, EndsOpening, Raises}
use Rattle.auth_store_machine.specs.Reads.{LiveParts, operations_in}
use Rattle.auth_store_machine.proofs.Lives.{live_with}
use Rattle.auth_store_machine.proofs.Logs.{log_again}
use Rattle.auth_store_machine.proofs.Long.{log_long}
use Rattle.auth_store_machine.proofs.Powers.{raises_refused, raises_read, raises_ledger, raises_same}
use Rattle.auth_store_live.proofs.live.recover_live.Goals as goal

pub returns-in_err-ledger-clause-refused : goal.returns-in_err-ledger-clause-refused
returns-in_err-ledger-clause-refused g c =
    let format : Format = format_of (g.K.Read.after tt) (g.V.Read.after tt) g.K.FixedSize.SIZE g.V.FixedSize.SIZE in
    let size = c.args.cache.now.page_size + 12 in
    let shown = content (g.B.Blob.calls c.args.blob.now) in
    let Refused : StoreError → Type 0 = IsOpenRefusal (g.B.Blob.failures c.args.blob.now) (g.B.Blob.failures c.recover.new.blob)
    (EndsOpening size (g.K.FixedSize.SIZE, g.V.FixedSize.SIZE) c.args.cache.now.next_id (length shown))
    (IsNoHistory format (recovered_log format crc32 size shown)) in
    let ops = meanings g.K.Write.encoding g.V.Write.encoding c.in_ok-log.log.operations.items in
    let count = length-map c.in_ok-log.log.operations.items (meaning_of g.K.Write.encoding g.V.Write.encoding) in
    let long = log_long format ops c.in_ok-log.ensures.recorded in
    let bytes = ap length c.in_ok-log.ensures.bytes in
    let p = err_from_is_err_and c.from_residual-in_err-ledger.result c.from_residual-in_err-ledger.ensures.1 in
    subst (λ r. IfErr r Refused) (sym p.1)
    (subst Refused (sym p.2)
    (⊎_elim
    (λ (lacks : c.in_err-ledger.field-0.0 ≡ ledgers.Memory). subst (λ (e : LedgerError). Refused (of_ledger e)) (sym lacks) tt)
    (λ many. absurd (omega (arith, many.1, count, long, bytes, c.deref.ensures.len)))
    c.in_err-ledger.ensures.refused))

pub returns-clause-live : goal.returns-clause-live
returns-clause-live g c =
    let format : Format = format_of (g.K.Read.after tt) (g.V.Read.after tt) g.K.FixedSize.SIZE g.V.FixedSize.SIZE in
    let setting : Setting = setting_of_width g.F.Family.merge_rule g.H.HashFunction.hash_of g.row.N in
    let list : List ℕ = c.in_ok-writer.bytes.items in
    let ops : List Operation = meanings g.K.Write.encoding g.V.Write.encoding c.in_ok-log.log.operations.items in
    let whole : ops ≡ log_of (history_of ops) = c.in_ok-log.ensures.whole in
    let bytes : list ≡ history_bytes format (history_of ops) = sym c.deref.ensures.value
    ∙ (sym c.in_ok-log.ensures.bytes ∙ ap (log_bytes g.K.FixedSize.SIZE g.V.FixedSize.SIZE) whole) in
    let content : written crc32 (g.B.Blob.calls c.recover.new.blob) c.in_ok-writer.writer ≡ history_bytes format (history_of ops) =
    c.in_ok-writer.ensures.content ∙ bytes in
    let parts : LiveParts = record { ledger = c.in_ok-ledger.ledger; writer = c.in_ok-writer.writer } in
    (live_with setting format (g.B.Blob.calls c.recover.new.blob) c.recover.new.cache parts (history_of ops)
    c.in_ok-writer.ensures.writer content
    (c.in_ok-writer.ensures.synced ∙ ap length (sym c.in_ok-writer.ensures.content))
    (c.in_ok-writer.ensures.page_size ∙ ap (λ (k : Cache). k.page_size + 12) (sym c.recover.ensures.same))
    c.in_ok-writer.ensures.name.1
    (subst (λ l. HoldsPagesOf l c.recover.new.cache c.in_ok-writer.writer.blob_id) (sym c.in_ok-writer.ensures.content)
    c.in_ok-writer.ensures.cached)
    (subst (λ (l : List Operation). IsLedgerOf setting format l c.in_ok-ledger.ledger) whole c.in_ok-ledger.ensures.ok)
    (subst (AreRecorded format) whole c.in_ok-log.ensures.recorded) c.in_ok-log.ensures.states).0

pub returns-clause-history : goal.returns-clause-history
returns-clause-history g c =
    let format : Format = format_of (g.K.Read.after tt) (g.V.Read.after tt) g.K.FixedSize.SIZE g.V.FixedSize.SIZE in
    let list : List ℕ = c.in_ok-writer.bytes.items in
    let ops : List Operation = meanings g.K.Write.encoding g.V.Write.encoding c.in_ok-log.log.operations.items in
    let whole : ops ≡ log_of (history_of ops) = c.in_ok-log.ensures.whole in
    let bytes : list ≡ history_bytes format (history_of ops) = sym c.deref.ensures.value
    ∙ (sym c.in_ok-log.ensures.bytes ∙ ap (log_bytes g.K.FixedSize.SIZE g.V.FixedSize.SIZE) whole) in
    let content : written crc32 (g.B.Blob.calls c.recover.new.blob) c.in_ok-writer.writer ≡ history_bytes format (history_of ops) =
    c.in_ok-writer.ensures.content ∙ bytes in
    let log = ap (operations_in format) content
    ∙ log_again format (log_of (history_of ops)) (subst (AreRecorded format) whole c.in_ok-log.ensures.recorded) in
    let same = ap history_of log ∙ history_of-log_of (history_of ops) c.in_ok-log.ensures.states in
    ap (history_bytes format) same ∙ (sym bytes ∙ c.in_ok-writer.ensures.bytes)

pub returns-clause-cache : goal.returns-clause-cache
returns-clause-cache g c = record {
  size = subst (λ n. IsPageSize (n + 12)) (sym (ap (λ (k : Cache). k.page_size) c.recover.ensures.same)) c.requires.cache.size;
  named = c.recover.ensures.named;
}

pub returns-in_err-writer-clause-raised : goal.returns-in_err-writer-clause-raised
returns-in_err-writer-clause-raised g c =
    let before : Failures = g.B.Blob.failures c.args.blob.now in
    let after : Failures = g.B.Blob.failures c.recover.new.blob in
    let p = err_from_is_err_and c.from_residual.result c.from_residual.ensures.1 in
    subst (λ r. Raises (refusal_of r) before after) (sym p.1)
    (subst (λ (x : StoreError). Raises (Some x) before after) (sym p.2)
    (raises_refused c.in_err-writer.field-0.0 before after c.in_err-writer.ensures.failures))

pub returns-in_err-log-clause-raised : goal.returns-in_err-log-clause-raised
returns-in_err-log-clause-raised g c =
    let before : Failures = g.B.Blob.failures c.args.blob.now in
    let after : Failures = g.B.Blob.failures c.recover.new.blob in
    let p = err_from_is_err_and c.from_residual-in_err-log.result c.from_residual-in_err-log.ensures.1 in
    subst (λ r. Raises (refusal_of r) before after) (sym p.1)
    (subst (λ (x : StoreError). Raises (Some x) before after) (sym p.2)
    (subst (Raises (Some (of_log c.in_err-log.field-0.0)) before) (sym c.in_ok-writer.ensures.failures)
    (raises_read c.in_err-log.field-0.0 before c.in_err-log.ensures.memory)))

pub returns-in_err-ledger-clause-raised : goal.returns-in_err-ledger-clause-raised
returns-in_err-ledger-clause-raised g c =
    let before : Failures = g.B.Blob.failures c.args.blob.now in
    let after : Failures = g.B.Blob.failures c.recover.new.blob in
    let p = err_from_is_err_and c.from_residual-in_err-ledger.result c.from_residual-in_err-ledger.ensures.1 in
    subst (λ r. Raises (refusal_of r) before after) (sym p.1)
    (subst (λ (x : StoreError). Raises (Some x) before after) (sym p.2)
    (subst (Raises (Some (of_ledger c.in_err-ledger.field-0.0)) before) (sym c.in_ok-writer.ensures.failures) (raises_ledger c.in_err-ledger.field-0.0 before)))

pub returns-clause-raised : goal.returns-clause-raised
returns-clause-raised g c =
    raises_same (g.B.Blob.failures c.args.blob.now) (g.B.Blob.failures c.recover.new.blob) c.in_ok-writer.ensures.failures
