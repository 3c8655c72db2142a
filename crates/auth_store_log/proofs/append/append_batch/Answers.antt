use Rattle.std.proofs.Common.{◌≡◌, ℕ, ◌+◌, ◌++◌, ◌∙◌, List, Option, length, length-append, ap, subst, arith}
use Rattle.std.proofs.lemmas.List.{length-drop}
use Rattle.std.proofs.lemmas.Result.{on_ok_weaker, on_err_weaker}
use Rattle.paged_format.specs.Tips.{Tip}
use Rattle.paged_blob_parts.specs.Answers.{Failures}
use Rattle.paged_blob_parts.specs.CachedContent.{KeepsOthers}
use Rattle.paged_blob_parts.specs.declared.flush.DurableSlot.{DurableSlot}
use Rattle.paged_blob_parts.proofs.CachedLaws.{others_joined}
use Rattle.paged_blob_parts.specs.Calls.{Call}
use Rattle.paged_blob_parts.specs.Moments.{Through}
use Rattle.paged_blob_parts.specs.Writers.{written, Keeps, IsWriterOf}
use Rattle.paged_blob_parts.specs.Laws.Moments.{joined}
use Rattle.paged_blob_parts.specs.Caches.{Cache}
use Rattle.auth_store_log.proofs.Causes.{names_kept}
use Rattle.auth_store_log.proofs.append.append_batch.Goals as goal

-- the same is kept where size, content and what is durable are the same
kept_as : (sum : List ℕ → ℕ) (old new : List Call) (size other_size : ℕ) (content other : List ℕ) (synced other_synced : ℕ)
    → size ≡ other_size → content ≡ other → synced ≡ other_synced
    → Through (Keeps sum size content synced) old new → Through (Keeps sum other_size other other_synced) old new
kept_as sum old new size other_size content other synced other_synced sizes contents syncs kept =
    subst (λ n. Through (Keeps sum other_size other n) old new) syncs
    (subst (λ l. Through (Keeps sum other_size l synced) old new) contents
    (subst (λ n. Through (Keeps sum n content synced) old new) sizes kept))

-- the tip of a writer ends where its content does
tip_ends : (sum : List ℕ → ℕ) (size : ℕ) (calls : List Call) (content : List ℕ) (synced : ℕ) (tip : Tip) (slot : Option DurableSlot)
    → IsWriterOf sum size calls content synced tip slot → tip.offset + length tip.bytes ≡ length content
tip_ends sum size calls content synced tip slot is =
    omega (arith, is.tip_within, ap length is.tip_bytes, length-drop tip.offset content)

pub returns-clause-any_moment : goal.returns-clause-any_moment
returns-clause-any_moment g c =
    let sum = g.C.Checksum.checksum_of in
    let there = c.in_ok-appended.ensures in
    joined {P = Keeps sum c.args.writer.page_size (written sum (g.B.Blob.calls c.args.blob.now) c.args.writer ++ c.args.bytes.now) c.args.writer.synced}
    c.append.ensures.any_moment
    (kept_as sum (g.B.Blob.calls c.append.new.blob) (g.B.Blob.calls c.sync.new.blob) c.in_ok-appended.appended.page_size c.args.writer.page_size
    (written sum (g.B.Blob.calls c.append.new.blob) c.in_ok-appended.appended)
    (written sum (g.B.Blob.calls c.args.blob.now) c.args.writer ++ c.args.bytes.now) c.in_ok-appended.appended.synced c.args.writer.synced
    there.same.0 there.content there.synced c.sync.ensures.any_moment)

pub returns-in_err-appended-clause-named : goal.returns-in_err-appended-clause-named
returns-in_err-appended-clause-named g c = λ named given.
    let one : c.append.new.cache.next_id ≡ c.args.cache.now.next_id = ap (λ (k : Cache). k.next_id) c.append.ensures.cache in
    names_kept c.args.cache.now c.append.new.cache c.args.writer.blob_id c.append.ensures.others (omega (arith, one)) given named

pub returns-clause-named : goal.returns-clause-named
returns-clause-named g c = λ named given.
    let one : c.append.new.cache.next_id ≡ c.args.cache.now.next_id = ap (λ (k : Cache). k.next_id) c.append.ensures.cache in
    let two : c.sync.new.cache.next_id ≡ c.append.new.cache.next_id = ap (λ (k : Cache). k.next_id) c.sync.ensures.cache in
    let w = c.in_ok-appended.appended in
    let same = c.in_ok-appended.ensures.same.1 in
    names_kept c.append.new.cache c.sync.new.cache w.blob_id c.sync.ensures.others (omega (arith, two)) (omega (arith, same, given, one))
    (names_kept c.args.cache.now c.append.new.cache c.args.writer.blob_id c.append.ensures.others (omega (arith, one)) given named)

pub returns-clause-powered : goal.returns-clause-powered
returns-clause-powered g c =
    let sum = g.C.Checksum.checksum_of in
    let old = g.B.Blob.calls c.args.blob.now in
    let mid = g.B.Blob.calls c.append.new.blob in
    let before = c.args.writer in
    let w = c.in_ok-appended.appended in
    let there = c.in_ok-appended.ensures in
    on_ok_weaker c.sync.result
    (λ powered some off.
    let long = tip_ends sum w.page_size mid (written sum mid w) w.synced w.tip w.slot there.writer in
    let within = c.requires.writer.kept.within in
    let more = ap length there.content ∙ length-append (written sum old before) c.args.bytes.now in
    let asked = ap (λ (f : Failures). f.is_asked) there.failures in
    powered (omega (arith, long, within, more, there.synced, some)) (asked ∙ off.0, omega (arith, off.1, c.append.ensures.left)))
    c.sync.ensures.powered

pub returns-clause-others : goal.returns-clause-others
returns-clause-others g c =
    others_joined c.args.cache.now c.append.new.cache c.sync.new.cache c.args.writer.blob_id c.append.ensures.others
    (subst (KeepsOthers c.append.new.cache c.sync.new.cache) c.in_ok-appended.ensures.same.1 c.sync.ensures.others)

pub returns-clause-unsynced : goal.returns-clause-unsynced
returns-clause-unsynced g c =
    on_err_weaker c.sync.result (λ same. same ∙ c.append.ensures.syncs) c.sync.ensures.unsynced
