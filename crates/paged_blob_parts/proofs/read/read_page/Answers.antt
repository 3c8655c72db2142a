use Rattle.std.proofs.Common.{rules, ◌≡◌, ◌<◌, ◌+◌, ◌*◌, ◌/◌, ℕ, take, ap, subst, ◌∙◌, arith}
use Rattle.std.proofs.lemmas.Result.{err_from_is_err_and}
use Rattle.paged_format.specs.Footers.{content_size}
use Rattle.paged_blob_parts.specs.Calls.{file_of}
use Rattle.paged_blob_parts.specs.Answers.{IsSlice, IsReadCause}
use Rattle.paged_blob_parts.proofs.ReadPages.{whole_content, whole_alone, page_ends, further_cause}
use Rattle.paged_blob_parts.proofs.StandLaws.{live_whole, live_page, standing_cause}
use Rattle.paged_blob_parts.proofs.read.read_page.Goals as goal

pub returns-in_err-bytes-clause-cause : goal.returns-in_err-bytes-clause-cause
returns-in_err-bytes-clause-cause g c =
    let sum = g.C.Checksum.checksum_of in
    let pages = c.args.pages in
    let size = pages.physical_page_size in
    let calls = g.B.Blob.calls c.args.blob.now in
    let page = c.args.page in
    let past = g.B.Blob.failures c.args.blob.now in
    let footer : 12 < size = search rules in
    let is : c.from-size.result ≡ size = search rules in
    let p = err_from_is_err_and c.from_residual.result c.from_residual.ensures.1 in
    let P : ℕ → Type 0 = λ s. IsReadCause past (file_of calls) (page * s) size c.in_err-bytes.field-0.0 in
    let cause : P size = subst P is c.in_err-bytes.ensures.cause in
    let reach = page_ends page pages.len (content_size size) size (omega (arith, footer)) c.requires.whole in
    rw (p.1, p.2) (further_cause past ((page + 1) * size) (pages.len / content_size size * size) c.in_err-bytes.field-0.0 reach
    (standing_cause sum calls pages c.requires.stand footer page c.requires.whole past c.in_err-bytes.field-0.0 cause))

pub returns-then-prefix_len-room-clause-cause : goal.returns-then-prefix_len-room-clause-cause
returns-then-prefix_len-room-clause-cause g c =
    let sum = g.C.Checksum.checksum_of in
    let pages = c.args.pages in
    let size = pages.physical_page_size in
    let calls = g.B.Blob.calls c.args.blob.now in
    let page = c.args.page in
    let footer : 12 < size = search rules in
    let is : c.from-size.result ≡ size = search rules in
    let Q : ℕ → Type 0 = λ s. IsSlice (file_of calls) (page * s) size c.in_ok-bytes.bytes.items in
    let slice : Q size = subst Q is c.in_ok-bytes.ensures.slice in
    let whole = live_whole sum calls pages c.requires.stand footer page c.requires.whole slice.live slice.found in
    let all = whole_alone sum size footer slice.live page whole c.deref.result.now (c.deref.ensures.value ∙ slice.slice) in
    omega (arith, all, c.prefix_len.ensures, c.if-prefix_len-room.true)

pub returns-clause-bytes : goal.returns-clause-bytes
returns-clause-bytes g c =
    let sum = g.C.Checksum.checksum_of in
    let pages = c.args.pages in
    let size = pages.physical_page_size in
    let calls = g.B.Blob.calls c.args.blob.now in
    let page = c.args.page in
    let footer : 12 < size = search rules in
    let is : c.from-size.result ≡ size = search rules in
    let Q : ℕ → Type 0 = λ s. IsSlice (file_of calls) (page * s) size c.in_ok-bytes.bytes.items in
    let slice : Q size = subst Q is c.in_ok-bytes.ensures.slice in
    let whole = live_whole sum calls pages c.requires.stand footer page c.requires.whole slice.live slice.found in
    c.truncate.ensures.items ∙ ap (take (content_size size)) slice.slice ∙ whole_content sum size footer slice.live page whole
    ∙ live_page sum calls pages c.requires.stand footer page c.requires.whole slice.live slice.found
