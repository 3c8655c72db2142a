use Rattle.std.proofs.Common.{◌≡◌, Ok, subst, sym}
use Rattle.std.specs.Prelude.{IfErr, IfOk}
use Rattle.paged_blob_parts.specs.Answers.{Failures}
use Rattle.paged_blob_parts.specs.Caches.{Cache}
use Rattle.state_theory.specs.Canonical.{Setting}
use Rattle.auth_store_client.specs.Claims.{Terms, terms}
use Rattle.auth_store_proving.specs.Proving.{IsAcceptedRange, answer_of_range}
use Rattle.auth_store_proving.specs.ProvingCode.{range_answer_of}
use Rattle.auth_store_ledger.specs.Store.{root_of_history, setting_of_width}
use Rattle.auth_store_log.specs.Records.{Format, format_of}
use Rattle.auth_store_machine.specs.Machine.{refusal_of}
use Rattle.auth_store_machine.specs.Reads.{IsLiveOn, IsProofRefusal, LeavesRead, LiveParts, Over, live_on, over}
use Rattle.auth_store_machine.specs.Stores.{IsCache}
use Rattle.auth_store_machine.proofs.Logs.{keeps_on, lent}
use Rattle.auth_store_live.proofs.live.prove_range_live.Goals as goal

pub returns-clause-live : goal.returns-clause-live
returns-clause-live g c =
    let is = subst (IsLiveOn _ _ _ _) c.parts_to_read.ensures.are c.requires.live in
    lent (λ (b : g.row.B.Denot) (k : Cache). IsLiveOn _ _ (g.B.Blob.calls b) k c.args.live.now)
    (c.blob-1.given.1 (sym c.range_proof.ensures.names.0)) (c.cache-1.given.1 (sym c.range_proof.ensures.names.1))
    (subst (IsLiveOn _ _ _ _) (sym c.parts_to_read.ensures.are)
    (keeps_on _ _ _ _ _ is _ c.range_proof.ensures.reads.calls c.range_proof.ensures.readable))

pub returns-clause-cache : goal.returns-clause-cache
returns-clause-cache g c =
    subst IsCache (sym (c.cache-1.given.1 (sym c.range_proof.ensures.names.1))) c.range_proof.ensures.readable.cache

pub returns-clause-reads : goal.returns-clause-reads
returns-clause-reads g c =
    let one : Over = over (g.B.Blob.calls c.args.blob.now) (g.B.Blob.failures c.args.blob.now)
    (g.B.Blob.left c.args.blob.now) c.args.cache.now in
    lent (λ (b : g.row.B.Denot) (k : Cache). LeavesRead (refusal_of c.range_proof.result) one
    (over (g.B.Blob.calls b) (g.B.Blob.failures b) (g.B.Blob.left b) k))
    (c.blob-1.given.1 (sym c.range_proof.ensures.names.0)) (c.cache-1.given.1 (sym c.range_proof.ensures.names.1))
    c.range_proof.ensures.reads

pub returns-clause-refused : goal.returns-clause-refused
returns-clause-refused g c =
    let format : Format = format_of (g.K.Read.after tt) (g.V.Read.after tt) g.K.FixedSize.SIZE g.V.FixedSize.SIZE in
    let setting : Setting = setting_of_width g.F.Family.merge_rule g.H.HashFunction.hash_of g.row.N in
    let calls = g.B.Blob.calls c.args.blob.now in
    let before : Failures = g.B.Blob.failures c.args.blob.now in
    let expected = λ (p : LiveParts). answer_of_range g.F.PendingOf.pending_encoding setting g.K.FixedSize.SIZE
    g.V.FixedSize.SIZE (live_on format calls p).history p.ledger.kept.bits.pruned c.args.start c.args.stop in
    subst (λ (b : g.row.B.Denot). IfErr c.range_proof.result
    (IsProofRefusal before (g.B.Blob.failures b) (expected c.args.live.now)))
    (sym (c.blob-1.given.1 (sym c.range_proof.ensures.names.0)))
    (subst (λ (p : LiveParts). IfErr c.range_proof.result
    (IsProofRefusal before (g.B.Blob.failures c.range_proof.new.log.blob.now) (expected p)))
    (sym c.parts_to_read.ensures.are) c.range_proof.ensures.refused)

pub returns-clause-proof : goal.returns-clause-proof
returns-clause-proof g c =
    let format : Format = format_of (g.K.Read.after tt) (g.V.Read.after tt) g.K.FixedSize.SIZE g.V.FixedSize.SIZE in
    let setting : Setting = setting_of_width g.F.Family.merge_rule g.H.HashFunction.hash_of g.row.N in
    let calls = g.B.Blob.calls c.args.blob.now in
    subst (λ (p : LiveParts). IfOk c.range_proof.result (λ proved.
    answer_of_range g.F.PendingOf.pending_encoding setting g.K.FixedSize.SIZE g.V.FixedSize.SIZE
    (live_on format calls p).history p.ledger.kept.bits.pruned c.args.start c.args.stop
    ≡ Ok (range_answer_of g.K.Write.encoding g.V.Write.encoding proved))) (sym c.parts_to_read.ensures.are)
    c.range_proof.ensures.ok

pub returns-clause-shown : goal.returns-clause-shown
returns-clause-shown g c =
    let format : Format = format_of (g.K.Read.after tt) (g.V.Read.after tt) g.K.FixedSize.SIZE g.V.FixedSize.SIZE in
    let setting : Setting = setting_of_width g.F.Family.merge_rule g.H.HashFunction.hash_of g.row.N in
    let those : Terms = terms g.F.Family.merge_rule g.H.HashFunction.hash_of g.row.N g.H.Digest.FixedSize.SIZE
    g.F.PendingOf.is_pending g.F.PendingOf.pending_encoding (g.K.Read.after tt) (g.V.Read.after tt) g.K.FixedSize.SIZE
    g.V.FixedSize.SIZE in
    let calls = g.B.Blob.calls c.args.blob.now in
    subst (λ (p : LiveParts). IfOk c.range_proof.result (λ proved. IsAcceptedRange those
    (root_of_history setting g.K.FixedSize.SIZE g.V.FixedSize.SIZE (live_on format calls p).history)
    c.args.start (range_answer_of g.K.Write.encoding g.V.Write.encoding proved))) (sym c.parts_to_read.ensures.are)
    c.range_proof.ensures.shown
