use Rattle.std.proofs.Common.{rules, ◌≡◌, ◌<◌, ◌+◌, ◌*◌, ◌^◌, ℕ, List, take, ap, sym, subst, refl, ◌∙◌, arith}
use Rattle.std.proofs.lemmas.Result.{err_from_is_err_and}
use Rattle.std.proofs.lemmas.Grind.{common_steps}
use Rattle.paged_blob_parts.specs.Calls.{file_of, content}
use Rattle.paged_blob_parts.specs.Chance.{page_at}
use Rattle.paged_blob_parts.specs.Answers.{IsReadCause}
use Rattle.paged_blob.specs.ShrinksCode.{StandsAlone}
use Rattle.paged_blob.proofs.Settled.{last_there, sync_moments, synced_cut, some_shown, found_none, alone_exact, is_last, read_cause}
use Rattle.paged_blob.proofs.CutWithin.{unchanged, page_read, slot_found, cut_off, is_trimmed, told, left}
use Rattle.paged_blob.proofs.shrink.cut_within.Goals as goal

pub overflow_mul-page : goal.overflow_mul-page
overflow_mul-page g c =
    let sum = g.C.Checksum.checksum_of in
    let size = c.args.physical_page_size in
    let calls = g.B.Blob.calls c.args.blob.now in
    let page = c.args.page in
    let part = c.args.part in
    let footer : 12 < size = search rules in
    let is : c.from-size.result ≡ size = search rules in
    let r = c.requires in
    let there = last_there sum size footer calls r.settled page part r.short r.within r.some in
    omega (arith, there, r.numbers, ap (λ s. page * s) is)

pub returns-in_err-bytes-clause-any_moment : goal.returns-in_err-bytes-clause-any_moment
returns-in_err-bytes-clause-any_moment g c =
    let sum = g.C.Checksum.checksum_of in
    let size = c.args.physical_page_size in
    let calls = g.B.Blob.calls c.args.blob.now in
    let page = c.args.page in
    let part = c.args.part in
    let footer : 12 < size = search rules in
    let is : c.from-size.result ≡ size = search rules in
    let r = c.requires in
    unchanged sum size footer calls r.settled page part r.short r.within
    r.some r.sound c.from-size.result is (g.B.Blob.calls c.read_at.new.self) c.read_at.ensures.calls

pub returns-in_err-bytes-clause-cause : goal.returns-in_err-bytes-clause-cause
returns-in_err-bytes-clause-cause g c =
    let sum = g.C.Checksum.checksum_of in
    let size = c.args.physical_page_size in
    let calls = g.B.Blob.calls c.args.blob.now in
    let page = c.args.page in
    let part = c.args.part in
    let footer : 12 < size = search rules in
    let is : c.from-size.result ≡ size = search rules in
    let r = c.requires in
    let failures = g.B.Blob.failures c.args.blob.now in
    let p = err_from_is_err_and c.from_residual.result c.from_residual.ensures.1 in
    let P : ℕ → Type 0 = λ s. IsReadCause failures (file_of calls) (page * s) size c.in_err-bytes.field-0.0 in
    rw (p.1, p.2)
    (read_cause sum size footer calls r.settled page part r.short r.within failures c.in_err-bytes.field-0.0 r.some
    r.sound (subst P is c.in_err-bytes.ensures.cause))

pub returns-in_default-clause-any_moment : goal.returns-in_default-clause-any_moment
returns-in_default-clause-any_moment g c =
    let sum = g.C.Checksum.checksum_of in
    let size = c.args.physical_page_size in
    let calls = g.B.Blob.calls c.args.blob.now in
    let page = c.args.page in
    let part = c.args.part in
    let footer : 12 < size = search rules in
    let is : c.from-size.result ≡ size = search rules in
    let r = c.requires in
    unchanged sum size footer calls r.settled page part r.short r.within
    r.some r.sound c.from-size.result is (g.B.Blob.calls c.read_at.new.self) c.read_at.ensures.calls

pub returns-in_default-clause-cause : goal.returns-in_default-clause-cause
returns-in_default-clause-cause g c =
    let sum = g.C.Checksum.checksum_of in
    let size = c.args.physical_page_size in
    let calls = g.B.Blob.calls c.args.blob.now in
    let page = c.args.page in
    let part = c.args.part in
    let footer : 12 < size = search rules in
    let is : c.from-size.result ≡ size = search rules in
    let r = c.requires in
    let found = slot_found sum size footer calls r.settled page part r.short r.within
    r.some r.sound c.from-size.result is c.in_ok-bytes.bytes.items c.deref.result.now
    c.valid_slot.result c.in_ok-bytes.ensures.slice c.deref.ensures.value c.valid_slot.ensures in
    found_none sum size (page_at size page (file_of calls).base) (some_shown sum size footer calls r.settled page part r.short r.within r.some)
    (found ∙ c.in_default.is)

pub returns-in_err-resize-clause-any_moment : goal.returns-in_err-resize-clause-any_moment
returns-in_err-resize-clause-any_moment g c =
    let sum = g.C.Checksum.checksum_of in
    let size = c.args.physical_page_size in
    let calls = g.B.Blob.calls c.args.blob.now in
    let page = c.args.page in
    let part = c.args.part in
    let footer : 12 < size = search rules in
    let is : c.from-size.result ≡ size = search rules in
    let r = c.requires in
    cut_off sum size footer calls r.settled page part r.short r.within
    r.some r.sound c.from-size.result is c.resize.result (g.B.Blob.calls c.read_at.new.self)
    (g.B.Blob.calls c.resize.new.self) c.in_ok-bytes.ensures.calls c.resize.ensures.calls

pub leave_one_slot-requires-clause-trimmed : goal.leave_one_slot-requires-clause-trimmed
leave_one_slot-requires-clause-trimmed g c =
    let sum = g.C.Checksum.checksum_of in
    let size = c.args.physical_page_size in
    let calls = g.B.Blob.calls c.args.blob.now in
    let page = c.args.page in
    let part = c.args.part in
    let footer : 12 < size = search rules in
    let is : c.from-size.result ≡ size = search rules in
    let r = c.requires in
    let crc_is : c.checksum-crc.result ≡ sum (take part c.deref-2.result.now) = grind (arith, common_steps) in
    is_trimmed sum size footer calls r.settled page part r.short r.within
    r.some r.sound c.from-size.result is c.in_ok-bytes.bytes.items c.deref.result.now c.deref-2.result.now c.deref-3.result.now
    c.in_ok-bytes.ensures.slice c.deref.ensures.value c.deref-2.ensures.value c.deref-3.ensures.value c.in-Some.counted c.in-Some.field-0-1
    c.checksum-crc.result c.valid_slot.result c.valid_slot.ensures c.in-Some.is crc_is (g.B.Blob.calls c.read_at.new.self)
    (g.B.Blob.calls c.resize.new.self) c.in_ok-bytes.ensures.calls c.in_ok-resize.ensures.calls

pub returns-in_err-slot-clause-any_moment : goal.returns-in_err-slot-clause-any_moment
returns-in_err-slot-clause-any_moment g c =
    let sum = g.C.Checksum.checksum_of in
    let size = c.args.physical_page_size in
    let calls = g.B.Blob.calls c.args.blob.now in
    let page = c.args.page in
    let part = c.args.part in
    let footer : 12 < size = search rules in
    let is : c.from-size.result ≡ size = search rules in
    let r = c.requires in
    let crc_is : c.checksum-crc.result ≡ sum (take part c.deref-2.result.now) = grind (arith, common_steps) in
    let so_on = told sum size footer calls r.settled page part r.short r.within
    r.some r.sound c.from-size.result is c.in_ok-bytes.bytes.items c.deref.result.now c.deref-2.result.now c.deref-3.result.now
    c.in_ok-bytes.ensures.slice c.deref.ensures.value c.deref-2.ensures.value c.deref-3.ensures.value c.in-Some.counted c.in-Some.field-0-1
    c.checksum-crc.result c.valid_slot.result c.valid_slot.ensures c.in-Some.is crc_is (g.B.Blob.calls c.read_at.new.self)
    (g.B.Blob.calls c.resize.new.self) c.in_ok-bytes.ensures.calls c.in_ok-resize.ensures.calls
    c.resize.result (g.B.Blob.calls c.leave_one_slot.new.blob) c.resize.ensures.calls c.leave_one_slot.ensures.any_moment in
    so_on

pub returns-in_err-sync-clause-any_moment : goal.returns-in_err-sync-clause-any_moment
returns-in_err-sync-clause-any_moment g c =
    let sum = g.C.Checksum.checksum_of in
    let size = c.args.physical_page_size in
    let calls = g.B.Blob.calls c.args.blob.now in
    let page = c.args.page in
    let part = c.args.part in
    let footer : 12 < size = search rules in
    let is : c.from-size.result ≡ size = search rules in
    let r = c.requires in
    let crc_is : c.checksum-crc.result ≡ sum (take part c.deref-2.result.now) = grind (arith, common_steps) in
    let so_on = told sum size footer calls r.settled page part r.short r.within
    r.some r.sound c.from-size.result is c.in_ok-bytes.bytes.items c.deref.result.now c.deref-2.result.now c.deref-3.result.now
    c.in_ok-bytes.ensures.slice c.deref.ensures.value c.deref-2.ensures.value c.deref-3.ensures.value c.in-Some.counted c.in-Some.field-0-1
    c.checksum-crc.result c.valid_slot.result c.valid_slot.ensures c.in-Some.is crc_is (g.B.Blob.calls c.read_at.new.self)
    (g.B.Blob.calls c.resize.new.self) c.in_ok-bytes.ensures.calls c.in_ok-resize.ensures.calls
    c.resize.result (g.B.Blob.calls c.leave_one_slot.new.blob) c.resize.ensures.calls c.leave_one_slot.ensures.any_moment in
    let small : part < 2 ^ 16 = search rules in
    let fits : c.checksum-crc.result < 2 ^ 32 = search rules in
    let after = left sum size footer calls r.settled page part r.short r.within
    r.some r.sound c.from-size.result is c.in_ok-bytes.bytes.items c.deref.result.now c.deref-2.result.now c.deref-3.result.now
    c.in_ok-bytes.ensures.slice c.deref.ensures.value c.deref-2.ensures.value c.deref-3.ensures.value c.in-Some.counted c.in-Some.field-0-1
    c.checksum-crc.result c.valid_slot.result c.valid_slot.ensures c.in-Some.is crc_is (g.B.Blob.calls c.read_at.new.self)
    (g.B.Blob.calls c.resize.new.self) c.in_ok-bytes.ensures.calls c.in_ok-resize.ensures.calls
    c.in_ok-slot.slot (g.B.Blob.calls c.leave_one_slot.new.blob) small fits c.in_ok-slot.ensures.alone in
    sync_moments sum size footer calls r.settled page part r.short r.within c.sync.result (g.B.Blob.calls c.leave_one_slot.new.blob)
    (g.B.Blob.calls c.sync.new.self)
    after.done after.sound so_on c.sync.ensures.calls

pub returns-clause-any_moment : goal.returns-clause-any_moment
returns-clause-any_moment g c =
    let sum = g.C.Checksum.checksum_of in
    let size = c.args.physical_page_size in
    let calls = g.B.Blob.calls c.args.blob.now in
    let page = c.args.page in
    let part = c.args.part in
    let footer : 12 < size = search rules in
    let is : c.from-size.result ≡ size = search rules in
    let r = c.requires in
    let crc_is : c.checksum-crc.result ≡ sum (take part c.deref-2.result.now) = grind (arith, common_steps) in
    let so_on = told sum size footer calls r.settled page part r.short r.within
    r.some r.sound c.from-size.result is c.in_ok-bytes.bytes.items c.deref.result.now c.deref-2.result.now c.deref-3.result.now
    c.in_ok-bytes.ensures.slice c.deref.ensures.value c.deref-2.ensures.value c.deref-3.ensures.value c.in-Some.counted c.in-Some.field-0-1
    c.checksum-crc.result c.valid_slot.result c.valid_slot.ensures c.in-Some.is crc_is (g.B.Blob.calls c.read_at.new.self)
    (g.B.Blob.calls c.resize.new.self) c.in_ok-bytes.ensures.calls c.in_ok-resize.ensures.calls
    c.resize.result (g.B.Blob.calls c.leave_one_slot.new.blob) c.resize.ensures.calls c.leave_one_slot.ensures.any_moment in
    let small : part < 2 ^ 16 = search rules in
    let fits : c.checksum-crc.result < 2 ^ 32 = search rules in
    let after = left sum size footer calls r.settled page part r.short r.within
    r.some r.sound c.from-size.result is c.in_ok-bytes.bytes.items c.deref.result.now c.deref-2.result.now c.deref-3.result.now
    c.in_ok-bytes.ensures.slice c.deref.ensures.value c.deref-2.ensures.value c.deref-3.ensures.value c.in-Some.counted c.in-Some.field-0-1
    c.checksum-crc.result c.valid_slot.result c.valid_slot.ensures c.in-Some.is crc_is (g.B.Blob.calls c.read_at.new.self)
    (g.B.Blob.calls c.resize.new.self) c.in_ok-bytes.ensures.calls c.in_ok-resize.ensures.calls
    c.in_ok-slot.slot (g.B.Blob.calls c.leave_one_slot.new.blob) small fits c.in_ok-slot.ensures.alone in
    sync_moments sum size footer calls r.settled page part r.short r.within c.sync.result (g.B.Blob.calls c.leave_one_slot.new.blob)
    (g.B.Blob.calls c.sync.new.self)
    after.done after.sound so_on c.sync.ensures.calls

pub returns-clause-cut : goal.returns-clause-cut
returns-clause-cut g c =
    let sum = g.C.Checksum.checksum_of in
    let size = c.args.physical_page_size in
    let calls = g.B.Blob.calls c.args.blob.now in
    let page = c.args.page in
    let part = c.args.part in
    let footer : 12 < size = search rules in
    let is : c.from-size.result ≡ size = search rules in
    let r = c.requires in
    let crc_is : c.checksum-crc.result ≡ sum (take part c.deref-2.result.now) = grind (arith, common_steps) in
    let small : part < 2 ^ 16 = search rules in
    let fits : c.checksum-crc.result < 2 ^ 32 = search rules in
    let after = left sum size footer calls r.settled page part r.short r.within
    r.some r.sound c.from-size.result is c.in_ok-bytes.bytes.items c.deref.result.now c.deref-2.result.now c.deref-3.result.now
    c.in_ok-bytes.ensures.slice c.deref.ensures.value c.deref-2.ensures.value c.deref-3.ensures.value c.in-Some.counted c.in-Some.field-0-1
    c.checksum-crc.result c.valid_slot.result c.valid_slot.ensures c.in-Some.is crc_is (g.B.Blob.calls c.read_at.new.self)
    (g.B.Blob.calls c.resize.new.self) c.in_ok-bytes.ensures.calls c.in_ok-resize.ensures.calls
    c.in_ok-slot.slot (g.B.Blob.calls c.leave_one_slot.new.blob) small fits c.in_ok-slot.ensures.alone in
    let exact = alone_exact sum size footer calls r.settled page part r.short r.within (content (g.B.Blob.calls c.leave_one_slot.new.blob))
    c.in_ok-slot.slot c.checksum-crc.result r.some small after.long after.alone in
    synced_cut sum size footer calls r.settled page part r.short r.within (g.B.Blob.calls c.leave_one_slot.new.blob) (g.B.Blob.calls c.sync.new.self) (page + 1)
    after.done after.sound exact c.in_ok-sync.ensures.calls

pub returns-clause-last : goal.returns-clause-last
returns-clause-last g c =
    let sum = g.C.Checksum.checksum_of in
    let size = c.args.physical_page_size in
    let calls = g.B.Blob.calls c.args.blob.now in
    let page = c.args.page in
    let part = c.args.part in
    let footer : 12 < size = search rules in
    let is : c.from-size.result ≡ size = search rules in
    let r = c.requires in
    let crc_is : c.checksum-crc.result ≡ sum (take part c.deref-2.result.now) = grind (arith, common_steps) in
    let small : part < 2 ^ 16 = search rules in
    let fits : c.checksum-crc.result < 2 ^ 32 = search rules in
    let after = left sum size footer calls r.settled page part r.short r.within
    r.some r.sound c.from-size.result is c.in_ok-bytes.bytes.items c.deref.result.now c.deref-2.result.now c.deref-3.result.now
    c.in_ok-bytes.ensures.slice c.deref.ensures.value c.deref-2.ensures.value c.deref-3.ensures.value c.in-Some.counted c.in-Some.field-0-1
    c.checksum-crc.result c.valid_slot.result c.valid_slot.ensures c.in-Some.is crc_is (g.B.Blob.calls c.read_at.new.self)
    (g.B.Blob.calls c.resize.new.self) c.in_ok-bytes.ensures.calls c.in_ok-resize.ensures.calls
    c.in_ok-slot.slot (g.B.Blob.calls c.leave_one_slot.new.blob) small fits c.in_ok-slot.ensures.alone in
    let made = c.in_ok-sync.ensures.calls in
    let now = (file_of (g.B.Blob.calls c.sync.new.self)).base in
    let synced : now ≡ content (g.B.Blob.calls c.leave_one_slot.new.blob) = ap (λ l. (file_of l).base) made.2 ∙ made.1.content after.sound in
    let P : List ℕ → Type 0 = λ file. StandsAlone size (page_at size page file) c.in_ok-slot.slot part c.checksum-crc.result in
    let read = page_read sum size footer calls r.settled page part r.short r.within
    r.some r.sound c.from-size.result is c.in_ok-bytes.bytes.items c.in_ok-bytes.bytes.items
    c.in_ok-bytes.ensures.slice refl in
    let kept : c.truncate.new.self.items ≡ take part (page_at size page (file_of calls).base) = c.truncate.ensures.items ∙ ap (take part) read in
    is_last sum size footer calls r.settled page part r.short r.within now c.in_ok-slot.slot c.checksum-crc.result
    (record { slot = c.in_ok-slot.slot; crc = c.checksum-crc.result; bytes = c.truncate.new.self }) r.some refl refl kept
    (subst P (sym synced) after.alone)

pub returns-clause-ends : goal.returns-clause-ends
returns-clause-ends g c =
    let made = c.in_ok-sync.ensures.calls in
    (made.0, g.B.Blob.calls c.leave_one_slot.new.blob, made.2)
