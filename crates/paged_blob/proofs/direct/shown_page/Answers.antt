use Rattle.std.proofs.Common.{rules, ◌≡◌, ◌<◌, ◌*◌, ℕ, length, take, ap, subst, ◌∙◌}
use Rattle.std.proofs.lemmas.Result.{err_from_is_err_and}
use Rattle.paged_format.specs.Pages.{recovered}
use Rattle.paged_blob_parts.specs.Calls.{file_of, content}
use Rattle.paged_blob_parts.specs.Chance.{page_at}
use Rattle.paged_blob_parts.specs.Answers.{IsSlice, IsReadCause}
use Rattle.paged_blob_parts.proofs.DirectLaws.{direct_there, direct_shown}
use Rattle.paged_blob_parts.proofs.ReadPages.{page_cause}
use Rattle.paged_blob_parts.proofs.Scanned.{sliced}
use Rattle.paged_blob.proofs.direct.shown_page.Goals as goal

pub returns-in_err-bytes-clause-cause : goal.returns-in_err-bytes-clause-cause
returns-in_err-bytes-clause-cause g c =
    let sum = g.C.Checksum.checksum_of in
    let size = c.args.physical_page_size in
    let calls = g.B.Blob.calls c.args.blob.now in
    let page = c.args.page in
    let past = g.B.Blob.failures c.args.blob.now in
    let footer : 12 < size = search rules in
    let at : c.in-Some.place ≡ page * size = search rules in
    let there = direct_there sum size footer (content calls) page c.requires.reached in
    let p = err_from_is_err_and c.from_residual.result c.from_residual.ensures.1 in
    let P : ℕ → Type 0 = λ n. IsReadCause past (file_of calls) n size c.in_err-bytes.field-0.0 in
    let cause : P (page * size) = subst P at c.in_err-bytes.ensures.cause in
    rw (p.1, p.2) (page_cause past calls page size c.in_err-bytes.field-0.0 c.requires.sound there cause)

pub returns-clause-bytes : goal.returns-clause-bytes
returns-clause-bytes g c =
    let sum = g.C.Checksum.checksum_of in
    let size = c.args.physical_page_size in
    let calls = g.B.Blob.calls c.args.blob.now in
    let page = c.args.page in
    let footer : 12 < size = search rules in
    let at : c.in-Some.place ≡ page * size = search rules in
    let Q : ℕ → Type 0 = λ n. IsSlice (file_of calls) n size c.in_ok-bytes.bytes.items in
    let slice : Q (page * size) = subst Q at c.in_ok-bytes.ensures.slice in
    let bytes = c.in_ok-bytes.bytes.items in
    let read : bytes ≡ page_at size page (content calls) = (sliced calls (page * size) size bytes c.requires.sound slice).1 in
    let shown : c.prefix_len-shown.result ≡ length (recovered sum size bytes) =
    c.prefix_len-shown.ensures ∙ ap (λ l. length (recovered sum size l)) c.deref.ensures.value in
    c.truncate.ensures.items ∙ ap (λ n. take n bytes) shown ∙ direct_shown sum size footer (content calls) page c.requires.reached bytes read
