use Rattle.std.proofs.Common.{◌≡◌, ◌++◌, ℕ, List, subst, sym, option_map}
use Rattle.std.specs.Prelude.{IfErr, IfOk}
use Rattle.paged_blob_parts.specs.Caches.{Cache}
use Rattle.paged_blob_parts.specs.Calls.{Call}
use Rattle.state_theory.specs.Canonical.{Setting}
use Rattle.auth_store_ledger.specs.Store.{setting_of_width}
use Rattle.auth_store_log.specs.Records.{Format, format_of}
use Rattle.auth_store_machine.specs.Machine.{refusal_of}
use Rattle.auth_store_machine.specs.Reads.{IsLiveOn, IsReadable, LeavesRead, LiveParts, Over, log_in, over}
use Rattle.auth_store_machine.proofs.Logs.{readable}
use Rattle.auth_store_log.specs.Records.{log_bytes}
use Rattle.auth_store_parts.specs.Batch as words
use Rattle.auth_store_parts.specs.Batch.{Word}
use Rattle.auth_store_parts.specs.History.{History, history_of, log_of}
use Rattle.auth_store_ledger.specs.Store.{commit_after}
use Rattle.auth_store_machine.specs.Machine.{PassesLimit}
use Rattle.auth_store_machine.specs.Stores.{IsBatchRefusal}
use Rattle.auth_store_live.proofs.live.take_batch.Goals as goal

pub returns-clause-readable : goal.returns-clause-readable
returns-clause-readable g c =
    let format : Format = format_of (g.K.Read.after tt) (g.V.Read.after tt) g.K.FixedSize.SIZE g.V.FixedSize.SIZE in
    let setting : Setting = setting_of_width g.F.Family.merge_rule g.H.HashFunction.hash_of g.row.N in
    let calls : List Call = g.B.Blob.calls c.args.blob.now in
    let cache : Cache = c.args.cache.now in
    let inside : LiveParts = record { ledger = c.args.ledger.now; writer = c.args.writer.now } in
    let is : IsLiveOn setting format calls cache inside = c.requires.live in
    let one : Over = over calls (g.B.Blob.failures c.args.blob.now) (g.B.Blob.left c.args.blob.now) cache in
    let read : IsReadable format one inside.writer = readable format calls cache inside is.live (g.B.Blob.failures c.args.blob.now)
    (g.B.Blob.left c.args.blob.now) c.requires.open c.requires.cache in
    let other : Over = over (g.B.Blob.calls c.taken_batch.new.log.blob.now) (g.B.Blob.failures c.taken_batch.new.log.blob.now)
    (g.B.Blob.left c.taken_batch.new.log.blob.now) c.taken_batch.new.log.cache.now in
    let blob_is : c.blob-1.given.0 ≡ _ = c.blob-1.given.1 (sym c.taken_batch.ensures.names.0) in
    let cache_is : c.cache-1.given.0 ≡ _ = c.cache-1.given.1 (sym c.taken_batch.ensures.names.1) in
    subst (λ (b : g.row.B.Denot). IsReadable format
    (over (g.B.Blob.calls b) (g.B.Blob.failures b) (g.B.Blob.left b) c.cache-1.given.0) inside.writer)
    (sym blob_is)
    (subst (λ (k : Cache). IsReadable format (over (g.B.Blob.calls c.taken_batch.new.log.blob.now)
    (g.B.Blob.failures c.taken_batch.new.log.blob.now) (g.B.Blob.left c.taken_batch.new.log.blob.now) k)
    inside.writer) (sym cache_is)
    (c.taken_batch.ensures.readable))

pub returns-clause-reads : goal.returns-clause-reads
returns-clause-reads g c =
    let format : Format = format_of (g.K.Read.after tt) (g.V.Read.after tt) g.K.FixedSize.SIZE g.V.FixedSize.SIZE in
    let setting : Setting = setting_of_width g.F.Family.merge_rule g.H.HashFunction.hash_of g.row.N in
    let calls : List Call = g.B.Blob.calls c.args.blob.now in
    let cache : Cache = c.args.cache.now in
    let inside : LiveParts = record { ledger = c.args.ledger.now; writer = c.args.writer.now } in
    let is : IsLiveOn setting format calls cache inside = c.requires.live in
    let one : Over = over calls (g.B.Blob.failures c.args.blob.now) (g.B.Blob.left c.args.blob.now) cache in
    let read : IsReadable format one inside.writer = readable format calls cache inside is.live (g.B.Blob.failures c.args.blob.now)
    (g.B.Blob.left c.args.blob.now) c.requires.open c.requires.cache in
    let other : Over = over (g.B.Blob.calls c.taken_batch.new.log.blob.now) (g.B.Blob.failures c.taken_batch.new.log.blob.now)
    (g.B.Blob.left c.taken_batch.new.log.blob.now) c.taken_batch.new.log.cache.now in
    let blob_is : c.blob-1.given.0 ≡ _ = c.blob-1.given.1 (sym c.taken_batch.ensures.names.0) in
    let cache_is : c.cache-1.given.0 ≡ _ = c.cache-1.given.1 (sym c.taken_batch.ensures.names.1) in
    subst (λ (b : g.row.B.Denot). LeavesRead (refusal_of c.taken_batch.result) one
    (over (g.B.Blob.calls b) (g.B.Blob.failures b) (g.B.Blob.left b) c.cache-1.given.0)) (sym blob_is)
    (subst (λ (k : Cache). LeavesRead (refusal_of c.taken_batch.result) one
    (over (g.B.Blob.calls c.taken_batch.new.log.blob.now) (g.B.Blob.failures c.taken_batch.new.log.blob.now)
    (g.B.Blob.left c.taken_batch.new.log.blob.now) k)) (sym cache_is)
    (c.taken_batch.ensures.reads))

pub returns-clause-refused : goal.returns-clause-refused
returns-clause-refused g c =
    let format : Format = format_of (g.K.Read.after tt) (g.V.Read.after tt) g.K.FixedSize.SIZE g.V.FixedSize.SIZE in
    let setting : Setting = setting_of_width g.F.Family.merge_rule g.H.HashFunction.hash_of g.row.N in
    let calls : List Call = g.B.Blob.calls c.args.blob.now in
    let cache : Cache = c.args.cache.now in
    let inside : LiveParts = record { ledger = c.args.ledger.now; writer = c.args.writer.now } in
    let is : IsLiveOn setting format calls cache inside = c.requires.live in
    let one : Over = over calls (g.B.Blob.failures c.args.blob.now) (g.B.Blob.left c.args.blob.now) cache in
    let read : IsReadable format one inside.writer = readable format calls cache inside is.live (g.B.Blob.failures c.args.blob.now)
    (g.B.Blob.left c.args.blob.now) c.requires.open c.requires.cache in
    let other : Over = over (g.B.Blob.calls c.taken_batch.new.log.blob.now) (g.B.Blob.failures c.taken_batch.new.log.blob.now)
    (g.B.Blob.left c.taken_batch.new.log.blob.now) c.taken_batch.new.log.cache.now in
    let blob_is : c.blob-1.given.0 ≡ _ = c.blob-1.given.1 (sym c.taken_batch.ensures.names.0) in
    let cache_is : c.cache-1.given.0 ≡ _ = c.cache-1.given.1 (sym c.taken_batch.ensures.names.1) in
    let said : List Word = words.meanings g.K.Write.encoding g.V.Write.encoding c.args.batch.words.items in
    let next : History = commit_after said (option_map g.V.Write.encoding c.args.metadata) (history_of (log_in format calls inside.writer)) in
    subst (λ (b : g.row.B.Denot). IfErr c.taken_batch.result (IsBatchRefusal one.failures (g.B.Blob.failures b) (PassesLimit next))) (sym blob_is)
    (subst (λ (k : Cache). IfErr c.taken_batch.result
    (IsBatchRefusal one.failures (g.B.Blob.failures c.taken_batch.new.log.blob.now) (PassesLimit next)))
    (sym cache_is)
    (c.taken_batch.ensures.refused))

pub returns-clause-bytes : goal.returns-clause-bytes
returns-clause-bytes g c =
    let format : Format = format_of (g.K.Read.after tt) (g.V.Read.after tt) g.K.FixedSize.SIZE g.V.FixedSize.SIZE in
    let setting : Setting = setting_of_width g.F.Family.merge_rule g.H.HashFunction.hash_of g.row.N in
    let calls : List Call = g.B.Blob.calls c.args.blob.now in
    let cache : Cache = c.args.cache.now in
    let inside : LiveParts = record { ledger = c.args.ledger.now; writer = c.args.writer.now } in
    let is : IsLiveOn setting format calls cache inside = c.requires.live in
    let one : Over = over calls (g.B.Blob.failures c.args.blob.now) (g.B.Blob.left c.args.blob.now) cache in
    let read : IsReadable format one inside.writer = readable format calls cache inside is.live (g.B.Blob.failures c.args.blob.now)
    (g.B.Blob.left c.args.blob.now) c.requires.open c.requires.cache in
    let said : List Word = words.meanings g.K.Write.encoding g.V.Write.encoding c.args.batch.words.items in
    let next : History = commit_after said (option_map g.V.Write.encoding c.args.metadata) (history_of (log_in format calls inside.writer)) in
    subst (λ (l : List ℕ). IfOk c.taken_batch.result (λ bytes. log_bytes g.K.FixedSize.SIZE g.V.FixedSize.SIZE (log_of next) ≡ l ++ bytes.items))
    read.bytes c.taken_batch.ensures.bytes
