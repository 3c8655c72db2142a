use Rattle.std.proofs.Common.{rules, ◌≡◌, ℕ, ◌+◌, ◌*◌, ◌≤◌, List, length, take, drop, Some, sym, ap, subst, ⊎_elim, ◌∙◌, arith}
use Rattle.std.specs.Prelude.{slice_get}
use Rattle.paged_blob_parts.specs.Answers.{Failures}
use Rattle.paged_blob_parts.specs.Caches.{Cache}
use Rattle.paged_blob_parts.specs.Calls.{Call}
use Rattle.paged_blob_parts.specs.Writers.{written}
use Rattle.state_ops.specs.Operation.{Operation, meaning_of}
use Rattle.auth_store_log.specs.Causes.{IsRecordCause}
use Rattle.auth_store_log.specs.Records.{Format, format_of, record_size, log_bytes, AreRecorded}
use Rattle.auth_store_log.proofs.Causes.{names_kept}
use Rattle.auth_store_log.proofs.Openings.{written_len}
use Rattle.auth_store_log.proofs.Places.{both_ok, both_err, read_at_index, no_log}
use Rattle.auth_store_log.proofs.operations.read_operation.Goals as goal

pub returns-in_default-clause-cause : goal.returns-in_default-clause-cause
returns-in_default-clause-cause g c =
    let w = c.args.writer.now in
    let list : List ℕ = written g.C.Checksum.checksum_of (g.B.Blob.calls c.args.blob.now) w in
    let long = written_len g.C.Checksum.checksum_of (g.B.Blob.calls c.args.blob.now) w c.requires.writer in
    omega (arith, long, c.size.ensures, c.in_default.ensures.none)

pub returns-in_err-bytes-clause-named : goal.returns-in_err-bytes-clause-named
returns-in_err-bytes-clause-named g c = λ named given.
    let same : c.read_at.new.cache.next_id ≡ c.args.cache.now.next_id = ap (λ (k : Cache). k.next_id) c.read_at.ensures.same in
    names_kept c.args.cache.now c.read_at.new.cache c.args.writer.now.blob_id c.read_at.ensures.others (omega (arith, same)) given named

pub returns-clause-named : goal.returns-clause-named
returns-clause-named g c = λ named given.
    let same : c.read_at.new.cache.next_id ≡ c.args.cache.now.next_id = ap (λ (k : Cache). k.next_id) c.read_at.ensures.same in
    names_kept c.args.cache.now c.read_at.new.cache c.args.writer.now.blob_id c.read_at.ensures.others (omega (arith, same)) given named

pub returns-clause-operation : goal.returns-clause-operation
returns-clause-operation g c =
    let key = g.K.Write.encoding in
    let value = g.V.Write.encoding in
    let ks = g.K.FixedSize.SIZE in
    let vs = g.V.FixedSize.SIZE in
    let format : Format = format_of (g.K.Read.after tt) (g.V.Read.after tt) ks vs in
    let index : ℕ = c.args.index in
    let list : List ℕ = written g.C.Checksum.checksum_of (g.B.Blob.calls c.args.blob.now) c.args.writer.now in
    let from : c.in-Some.offset ≡ index * record_size format = search rules in
    let long : c.in-Some.size ≡ record_size format = search rules in
    let shown : c.new-cursor.result ≡ take (record_size format) (drop (index * record_size format) list) =
    c.new-cursor.ensures ∙ c.deref.ensures.value ∙ c.in_ok-bytes.ensures.bytes ∙ ap (λ n. take c.in-Some.size (drop n list)) from
    ∙ ap (λ n. take n (drop (index * record_size format) list)) long in
    both_ok c.next_operation.result _ _
    (λ o. (log : List Operation) → AreRecorded format log → log_bytes ks vs log ≡ list → slice_get log index ≡ Some (meaning_of key value o))
    c.next_operation.ensures.bytes c.next_operation.ensures.recorded
    (λ o stands is log are same. read_at_index format index list c.new-cursor.result shown (meaning_of key value o) c.next_operation.new.cursor log is stands
    are same)

pub returns-clause-cause : goal.returns-clause-cause
returns-clause-cause g c =
    let format : Format = format_of (g.K.Read.after tt) (g.V.Read.after tt) g.K.FixedSize.SIZE g.V.FixedSize.SIZE in
    let calls : List Call = g.B.Blob.calls c.args.blob.now in
    let sum = g.C.Checksum.checksum_of in
    let failures : Failures = g.B.Blob.failures c.args.blob.now in
    let w = c.args.writer.now in
    let index : ℕ = c.args.index in
    let list : List ℕ = written sum calls w in
    let end : ℕ = (index + 1) * record_size format in
    let from : c.in-Some.offset ≡ index * record_size format = search rules in
    let long : c.in-Some.size ≡ record_size format = search rules in
    let shown : c.new-cursor.result ≡ take (record_size format) (drop (index * record_size format) list) =
    c.new-cursor.ensures ∙ c.deref.ensures.value ∙ c.in_ok-bytes.ensures.bytes ∙ ap (λ n. take c.in-Some.size (drop n list)) from
    ∙ ap (λ n. take n (drop (index * record_size format) list)) long in
    let within : end ≤ length list = omega (arith, c.in-Some.ensures.within, c.size.ensures, written_len sum calls w c.requires.writer) in
    both_err c.next_operation.result _ _ (λ e. IsRecordCause format failures w.page_size w.tip.offset list end e)
    c.next_operation.ensures.corrupt c.next_operation.ensures.memory
    (λ e corrupt known. ⊎_elim
    (λ memory. subst (λ x. IsRecordCause format failures w.page_size w.tip.offset list end x) (sym memory) tt)
    (λ is. subst (λ x. IsRecordCause format failures w.page_size w.tip.offset list end x) (sym is)
    (no_log format index list c.new-cursor.result shown within (corrupt is)))
    known)
