use Rattle.std.proofs.Common.{◌≡◌, ◌∙◌, ◌+◌, ◌++◌, None, Some, ap, sym, subst, List, ℕ, length, option_map, arith}
use Rattle.fault_storage_parts.specs.Crc32.{crc32}
use Rattle.paged_blob_parts.specs.Answers.{Failures}
use Rattle.paged_blob_parts.specs.Caches.{Cache}
use Rattle.paged_blob_parts.specs.Calls.{Call}
use Rattle.paged_blob_parts.specs.Moments.{Grows, here}
use Rattle.paged_blob_parts.specs.Laws.Moments.{at_end, weaker}
use Rattle.paged_blob_parts.specs.Writers.{Keeps, written}
use Rattle.paged_blob.specs.Completed.{completed_syncs}
use Rattle.state_theory.specs.Canonical.{Setting}
use Rattle.auth_store_parts.specs.Batch as words
use Rattle.auth_store_parts.specs.Batch.{Word}
use Rattle.auth_store_parts.specs.History.{History, history_of, log_of}
use Rattle.auth_store_ledger.specs.Store.{LedgerState, commit_after, setting_of_width}
use Rattle.auth_store_log.specs.Records.{Format, format_of, history_bytes}
use Rattle.auth_store_machine.specs.Reads.{IsLiveOn, LiveParts, Over, log_in, over}
use Rattle.auth_store_machine.specs.Stores.{EndsDisk, IsAppendRefusal, Raises}
use Rattle.auth_store_machine.proofs.Batches.{behind, next_longer, next_shown, next_states}
use Rattle.auth_store_machine.proofs.Lives.{live_with}
use Rattle.auth_store_machine.proofs.Logs.{keeps_on}
use Rattle.auth_store_machine.proofs.Readings.{quiet}
use Rattle.auth_store_live.proofs.live.grow_live.Goals as goal

pub returns-in-Ok-append_log-clause-live : goal.returns-in-Ok-append_log-clause-live
returns-in-Ok-append_log-clause-live g c =
    let format : Format = format_of (g.K.Read.after tt) (g.V.Read.after tt) g.K.FixedSize.SIZE g.V.FixedSize.SIZE in
    let setting : Setting = setting_of_width g.F.Family.merge_rule g.H.HashFunction.hash_of g.row.N in
    let said : List Word = words.meanings g.K.Write.encoding g.V.Write.encoding c.args.batch.words.items in
    let noted = option_map g.V.Write.encoding c.args.metadata in
    let calls : List Call = g.B.Blob.calls c.args.blob.now in
    let history : History = history_of (log_in format calls c.args.writer) in
    let next : History = commit_after said noted history in
    let was = c.requires.live.live.log in
    let of = c.in-Ok.ensures.ok in
    let recorded = c.is_recorded.ensures (log_of next) of in
    let same : g.B.Blob.calls c.take_batch.new.blob ≡ calls = c.take_batch.ensures.reads.calls in
    let list = written crc32 calls c.args.writer in
    let begun : list ≡ history_bytes format history = c.requires.live.live.content in
    let grown : history_bytes format next ≡ list ++ c.deref.result.now =
    c.in-Ok.ensures.bytes ∙ ap (λ (l : List ℕ). list ++ l) (sym c.deref.ensures.value) in
    let cache : c.take_batch.new.cache.page_size ≡ c.args.cache.now.page_size =
    ap (λ (k : Cache). k.page_size) c.take_batch.ensures.reads.cache in
    let parts : LiveParts = record { ledger = c.take_batch.new.ledger; writer = c.in-Ok-append_log.writer } in
    let content = behind calls (g.B.Blob.calls c.take_batch.new.blob) (g.B.Blob.calls c.append_log.new.blob)
    c.args.writer c.in-Ok-append_log.writer c.deref.result.now (history_bytes format next) same grown
    c.in-Ok-append_log.ensures.content in
    let all = live_with setting format (g.B.Blob.calls c.append_log.new.blob) c.append_log.new.cache parts next
    c.in-Ok-append_log.ensures.writer content c.in-Ok-append_log.ensures.synced c.in-Ok-append_log.ensures.sized
    c.in-Ok-append_log.ensures.named c.in-Ok-append_log.ensures.cached of recorded
    (next_states setting format said noted history was c.take_batch.new.ledger of recorded) in
    all.0

pub returns-in-Ok-append_log-clause-next : goal.returns-in-Ok-append_log-clause-next
returns-in-Ok-append_log-clause-next g c =
    let format : Format = format_of (g.K.Read.after tt) (g.V.Read.after tt) g.K.FixedSize.SIZE g.V.FixedSize.SIZE in
    let setting : Setting = setting_of_width g.F.Family.merge_rule g.H.HashFunction.hash_of g.row.N in
    let said : List Word = words.meanings g.K.Write.encoding g.V.Write.encoding c.args.batch.words.items in
    let noted = option_map g.V.Write.encoding c.args.metadata in
    let calls : List Call = g.B.Blob.calls c.args.blob.now in
    let history : History = history_of (log_in format calls c.args.writer) in
    let next : History = commit_after said noted history in
    let was = c.requires.live.live.log in
    let of = c.in-Ok.ensures.ok in
    let recorded = c.is_recorded.ensures (log_of next) of in
    let same : g.B.Blob.calls c.take_batch.new.blob ≡ calls = c.take_batch.ensures.reads.calls in
    let list = written crc32 calls c.args.writer in
    let begun : list ≡ history_bytes format history = c.requires.live.live.content in
    let grown : history_bytes format next ≡ list ++ c.deref.result.now =
    c.in-Ok.ensures.bytes ∙ ap (λ (l : List ℕ). list ++ l) (sym c.deref.ensures.value) in
    let cache : c.take_batch.new.cache.page_size ≡ c.args.cache.now.page_size =
    ap (λ (k : Cache). k.page_size) c.take_batch.ensures.reads.cache in
    let parts : LiveParts = record { ledger = c.take_batch.new.ledger; writer = c.in-Ok-append_log.writer } in
    let content = behind calls (g.B.Blob.calls c.take_batch.new.blob) (g.B.Blob.calls c.append_log.new.blob)
    c.args.writer c.in-Ok-append_log.writer c.deref.result.now (history_bytes format next) same grown
    c.in-Ok-append_log.ensures.content in
    let all = live_with setting format (g.B.Blob.calls c.append_log.new.blob) c.append_log.new.cache parts next
    c.in-Ok-append_log.ensures.writer content c.in-Ok-append_log.ensures.synced c.in-Ok-append_log.ensures.sized
    c.in-Ok-append_log.ensures.named c.in-Ok-append_log.ensures.cached of recorded
    (next_states setting format said noted history was c.take_batch.new.ledger of recorded) in
    (all.1, of.keeps.few)

pub returns-in-Ok-append_log-clause-powered : goal.returns-in-Ok-append_log-clause-powered
returns-in-Ok-append_log-clause-powered g c = λ off.
    let format : Format = format_of (g.K.Read.after tt) (g.V.Read.after tt) g.K.FixedSize.SIZE g.V.FixedSize.SIZE in
    let setting : Setting = setting_of_width g.F.Family.merge_rule g.H.HashFunction.hash_of g.row.N in
    let said : List Word = words.meanings g.K.Write.encoding g.V.Write.encoding c.args.batch.words.items in
    let noted = option_map g.V.Write.encoding c.args.metadata in
    let calls : List Call = g.B.Blob.calls c.args.blob.now in
    let history : History = history_of (log_in format calls c.args.writer) in
    let next : History = commit_after said noted history in
    let was = c.requires.live.live.log in
    let of = c.in-Ok.ensures.ok in
    let recorded = c.is_recorded.ensures (log_of next) of in
    let same : g.B.Blob.calls c.take_batch.new.blob ≡ calls = c.take_batch.ensures.reads.calls in
    let list = written crc32 calls c.args.writer in
    let begun : list ≡ history_bytes format history = c.requires.live.live.content in
    let grown : history_bytes format next ≡ list ++ c.deref.result.now =
    c.in-Ok.ensures.bytes ∙ ap (λ (l : List ℕ). list ++ l) (sym c.deref.ensures.value) in
    c.in-Ok-append_log.ensures.powered
    (next_longer setting format said noted history was c.take_batch.new.ledger of recorded list c.deref.result.now
    begun grown)
    (c.take_batch.ensures.reads.raised.asked ∙ off.0, omega (arith, c.take_batch.ensures.reads.left, off.1))

pub returns-in-Err-clause-kept : goal.returns-in-Err-clause-kept
returns-in-Err-clause-kept g c =
    let format : Format = format_of (g.K.Read.after tt) (g.V.Read.after tt) g.K.FixedSize.SIZE g.V.FixedSize.SIZE in
    let setting : Setting = setting_of_width g.F.Family.merge_rule g.H.HashFunction.hash_of g.row.N in
    let calls : List Call = g.B.Blob.calls c.args.blob.now in
    let new : Over = over (g.B.Blob.calls c.take_batch.new.blob) (g.B.Blob.failures c.take_batch.new.blob)
    (g.B.Blob.left c.take_batch.new.blob) c.take_batch.new.cache in
    let parts : LedgerState → LiveParts = λ l. record { ledger = l; writer = c.args.writer } in
    let same : new.calls ≡ calls = c.take_batch.ensures.reads.calls in (
      ap (λ (l : List Call). history_of (log_in format l c.args.writer)) same,
      subst (λ (l : LedgerState). IsLiveOn setting format new.calls new.cache (parts l))
          (sym c.in-Err.ensures.unchanged)
          (keeps_on setting format calls c.args.cache.now (parts c.args.ledger) c.requires.live new same
          c.take_batch.ensures.readable),
      c.in-Err.ensures.refused,
    )

pub returns-in-Err-clause-grows : goal.returns-in-Err-clause-grows
returns-in-Err-clause-grows g c = subst (Grows (g.B.Blob.calls c.args.blob.now)) (sym c.take_batch.ensures.reads.calls)
    (here tt)

pub returns-in-Ok-append_log-clause-grows : goal.returns-in-Ok-append_log-clause-grows
returns-in-Ok-append_log-clause-grows g c = subst (λ (l : List Call). Grows l (g.B.Blob.calls c.append_log.new.blob))
    c.take_batch.ensures.reads.calls (weaker (λ calls keeps. tt) c.append_log.ensures.any_moment)

pub returns-in-Err-append_log-clause-grows : goal.returns-in-Err-append_log-clause-grows
returns-in-Err-append_log-clause-grows g c = subst (λ (l : List Call). Grows l (g.B.Blob.calls c.append_log.new.blob))
    c.take_batch.ensures.reads.calls (weaker (λ calls keeps. tt) c.append_log.ensures.any_moment)

pub returns-in-Err-append_log-clause-failed : goal.returns-in-Err-append_log-clause-failed
returns-in-Err-append_log-clause-failed g c = λ none.
    let format : Format = format_of (g.K.Read.after tt) (g.V.Read.after tt) g.K.FixedSize.SIZE g.V.FixedSize.SIZE in
    let setting : Setting = setting_of_width g.F.Family.merge_rule g.H.HashFunction.hash_of g.row.N in
    let said : List Word = words.meanings g.K.Write.encoding g.V.Write.encoding c.args.batch.words.items in
    let noted = option_map g.V.Write.encoding c.args.metadata in
    let calls : List Call = g.B.Blob.calls c.args.blob.now in
    let history : History = history_of (log_in format calls c.args.writer) in
    let next : History = commit_after said noted history in
    let was = c.requires.live.live.log in
    let of = c.in-Ok.ensures.ok in
    let recorded = c.is_recorded.ensures (log_of next) of in
    let same : g.B.Blob.calls c.take_batch.new.blob ≡ calls = c.take_batch.ensures.reads.calls in
    let list = written crc32 calls c.args.writer in
    let begun : list ≡ history_bytes format history = c.requires.live.live.content in
    let grown : history_bytes format next ≡ list ++ c.deref.result.now =
    c.in-Ok.ensures.bytes ∙ ap (λ (l : List ℕ). list ++ l) (sym c.deref.ensures.value) in
    let new : List Call = g.B.Blob.calls c.append_log.new.blob in
    let after : Failures = g.B.Blob.failures c.append_log.new.blob in
    let size : c.take_batch.new.cache.page_size ≡ c.args.cache.now.page_size =
    ap (λ (k : Cache). k.page_size) c.take_batch.ensures.reads.cache in
    let bytes : written crc32 (g.B.Blob.calls c.take_batch.new.blob) c.args.writer ++ c.deref.result.now
    ≡ history_bytes format next =
    ap (λ (l : List Call). written crc32 l c.args.writer ++ c.deref.result.now) same ∙ sym grown in
    let keeps = subst (λ n. Keeps crc32 (n + 12) (history_bytes format next) (length list) new) size
    (subst (λ (l : List Call). Keeps crc32 (c.take_batch.new.cache.page_size + 12) (history_bytes format next)
    (length (written crc32 l c.args.writer)) new) same
    (subst (λ l. Keeps crc32 (c.take_batch.new.cache.page_size + 12) l
    (length (written crc32 (g.B.Blob.calls c.take_batch.new.blob) c.args.writer)) new) bytes
    (at_end c.append_log.ensures.any_moment))) in (
      of.keeps.few,
      next_shown setting format said noted history was c.take_batch.new.ledger of recorded
          (c.args.cache.now.page_size + 12) new list c.a_kept_log_is_shown.ensures.pending begun keeps,
      subst (λ (f : Failures). IsAppendRefusal f after
          (EndsDisk (c.args.cache.now.page_size + 12) (history_bytes format next)) c.in-Err-append_log.error)
          (quiet _ _ c.in-Ok.ensures.reads)
          (subst (λ n. IsAppendRefusal (g.B.Blob.failures c.take_batch.new.blob) after
          (EndsDisk (n + 12) (history_bytes format next))
          c.in-Err-append_log.error) size
          (subst (λ l. IsAppendRefusal (g.B.Blob.failures c.take_batch.new.blob) after
          (EndsDisk (c.take_batch.new.cache.page_size + 12) l) c.in-Err-append_log.error) bytes
          c.in-Err-append_log.ensures.refused)),
    )

pub returns-in-Ok-append_log-clause-raised : goal.returns-in-Ok-append_log-clause-raised
returns-in-Ok-append_log-clause-raised g c =
    subst (λ (f : Failures). Raises None f (g.B.Blob.failures c.append_log.new.blob)) (quiet _ _ c.in-Ok.ensures.reads)
    c.in-Ok-append_log.ensures.raised

pub returns-in-Err-append_log-clause-raised : goal.returns-in-Err-append_log-clause-raised
returns-in-Err-append_log-clause-raised g c =
    subst (λ (f : Failures). Raises (Some c.in-Err-append_log.error) f (g.B.Blob.failures c.append_log.new.blob))
    (quiet _ _ c.in-Ok.ensures.reads) c.in-Err-append_log.ensures.raised

pub returns-in-Err-clause-unsynced : goal.returns-in-Err-clause-unsynced
returns-in-Err-clause-unsynced g c = ap completed_syncs c.take_batch.ensures.reads.calls

pub returns-in-Err-append_log-clause-unsynced : goal.returns-in-Err-append_log-clause-unsynced
returns-in-Err-append_log-clause-unsynced g c =
    c.in-Err-append_log.ensures.unsynced ∙ ap completed_syncs c.take_batch.ensures.reads.calls
