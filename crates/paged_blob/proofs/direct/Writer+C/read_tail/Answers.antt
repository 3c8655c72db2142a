use Rattle.std.proofs.Common.{rules, ◌≡◌, ◌≤◌, ◌<◌, ◌+◌, ◌-◌, ◌*◌}
use Rattle.std.proofs.Common.{◌/◌, List, min, length, take, drop, ap, subst, sym, ◌∙◌, arith}
use Rattle.std.proofs.lemmas.List.{length-take, length-drop, take_all, drop_all}
use Rattle.std.proofs.lemmas.Nat.{div-add-mod'}
use Rattle.std.proofs.lemmas.Result.{err_from_is_err_and}
use Rattle.paged_format.specs.Footers.{content_size}
use Rattle.paged_format.specs.Pages.{recovered}
use Rattle.paged_blob_parts.specs.Calls.{Call, content}
use Rattle.paged_blob_parts.specs.Flushes.{physical_size}
use Rattle.paged_blob_parts.specs.Answers.{Failures, IsCause}
use Rattle.paged_blob_parts.specs.declared.error.CallKind.TheVariants.{Read}
use Rattle.paged_blob_parts.proofs.DirectLaws.{recovered_within, physical_within}
use Rattle.paged_blob_parts.proofs.ReadPages.{further_cause}
use Rattle.paged_blob.proofs.direct.Writer+C.read_tail.Goals as goal

pub returns-in_default-clause-size : goal.returns-in_default-clause-size
returns-in_default-clause-size g c =
    let sum = g.C.Checksum.checksum_of in
    let size = c.args.physical_page_size in
    let room = content_size size in
    let footer : 12 < size = search rules in
    let live = content (g.B.Blob.calls c.args.blob.now) in
    let all = recovered sum size live in
    let most = recovered_within sum size footer live in
    let places : c.args.blob_size / c.from-size.result ≡ length live / size =
    ap (λ s. c.args.blob_size / s) c.from-size.ensures ∙ ap (λ n. n / size) c.requires.whole in
    let less : c.args.blob_size / c.from-size.result < 1 = search rules in
    let zero : length live / size ≡ 0 = omega (arith, places, less) in
    let nothing : length all ≡ 0 = omega (arith, most, ap (λ n. n * room) zero) in
    sym nothing

pub returns-in_default-clause-bytes : goal.returns-in_default-clause-bytes
returns-in_default-clause-bytes g c =
    let sum = g.C.Checksum.checksum_of in
    let size = c.args.physical_page_size in
    let room = content_size size in
    let footer : 12 < size = search rules in
    let live = content (g.B.Blob.calls c.args.blob.now) in
    let all = recovered sum size live in
    let most = recovered_within sum size footer live in
    let places : c.args.blob_size / c.from-size.result ≡ length live / size =
    ap (λ s. c.args.blob_size / s) c.from-size.ensures ∙ ap (λ n. n / size) c.requires.whole in
    let less : c.args.blob_size / c.from-size.result < 1 = search rules in
    let zero : length live / size ≡ 0 = omega (arith, places, less) in
    let nothing : length all ≡ 0 = omega (arith, most, ap (λ n. n * room) zero) in
    c.new.ensures.items ∙ sym (drop_all (length all - c.args.len) all (omega (arith, nothing)))

pub returns-clause-size : goal.returns-clause-size
returns-clause-size g c =
    let sum = g.C.Checksum.checksum_of in
    let size = c.args.physical_page_size in
    let room = content_size size in
    let footer : 12 < size = search rules in
    let live = content (g.B.Blob.calls c.args.blob.now) in
    let all = recovered sum size live in
    let most = recovered_within sum size footer live in
    let places : c.args.blob_size / c.from-size.result ≡ length live / size =
    ap (λ s. c.args.blob_size / s) c.from-size.ensures ∙ ap (λ n. n / size) c.requires.whole in
    let last = c.in-Some.last in
    let last_is : last + 1 ≡ c.args.blob_size / c.from-size.result = search rules in
    let pages : last + 1 ≡ length live / size = last_is ∙ places in
    let within : length all ≤ (last + 1) * room = omega (arith, most, ap (λ n. n * room) pages) in
    let counts : c.args.blob_size / size ≡ last + 1 = ap (λ n. n / size) c.requires.whole ∙ sym pages in
    let reached : (last + 1) * room < length all + room = omega (arith, c.requires.reached, ap (λ n. n * room) counts) in
    let rest = drop (last * room) all in
    let shown : length c.in_ok-page.page.items ≡ min room (length all - last * room) =
    ap length c.in_ok-page.ensures.bytes ∙ length-take room rest ∙ ap (λ n. min room n) (length-drop (last * room) all) in
    let spread : (last + 1) * room ≡ last * room + room = omega arith in
    let page_long : length c.in_ok-page.page.items ≡ length all - last * room = omega (arith, shown, within, reached, spread) in
    let rooms : last * (c.from-size.result - 12) ≡ last * room = ap (λ s. last * (s - 12)) c.from-size.ensures in
    let total : last * (c.from-size.result - 12) + c.len.result ≡ length all =
    omega (arith, rooms, c.len.ensures, page_long, reached, spread) in
    total

pub returns-clause-bytes : goal.returns-clause-bytes
returns-clause-bytes g c =
    let sum = g.C.Checksum.checksum_of in
    let size = c.args.physical_page_size in
    let room = content_size size in
    let footer : 12 < size = search rules in
    let live = content (g.B.Blob.calls c.args.blob.now) in
    let all = recovered sum size live in
    let most = recovered_within sum size footer live in
    let places : c.args.blob_size / c.from-size.result ≡ length live / size =
    ap (λ s. c.args.blob_size / s) c.from-size.ensures ∙ ap (λ n. n / size) c.requires.whole in
    let last = c.in-Some.last in
    let last_is : last + 1 ≡ c.args.blob_size / c.from-size.result = search rules in
    let pages : last + 1 ≡ length live / size = last_is ∙ places in
    let within : length all ≤ (last + 1) * room = omega (arith, most, ap (λ n. n * room) pages) in
    let counts : c.args.blob_size / size ≡ last + 1 = ap (λ n. n / size) c.requires.whole ∙ sym pages in
    let reached : (last + 1) * room < length all + room = omega (arith, c.requires.reached, ap (λ n. n * room) counts) in
    let rest = drop (last * room) all in
    let shown : length c.in_ok-page.page.items ≡ min room (length all - last * room) =
    ap length c.in_ok-page.ensures.bytes ∙ length-take room rest ∙ ap (λ n. min room n) (length-drop (last * room) all) in
    let spread : (last + 1) * room ≡ last * room + room = omega arith in
    let page_long : length c.in_ok-page.page.items ≡ length all - last * room = omega (arith, shown, within, reached, spread) in
    let rooms : last * (c.from-size.result - 12) ≡ last * room = ap (λ s. last * (s - 12)) c.from-size.ensures in
    let total : last * (c.from-size.result - 12) + c.len.result ≡ length all =
    omega (arith, rooms, c.len.ensures, page_long, reached, spread) in
    let count = c.min-count.result in
    let least : count ≡ min (length all) c.args.len = c.min-count.ensures ∙ ap (λ n. min n c.args.len) total in
    let start : last * (c.from-size.result - 12) + c.len.result - count ≡ length all - c.args.len = omega (arith, total, least) in
    let left : length (drop (length all - c.args.len) all) ≤ count = omega (arith, length-drop (length all - c.args.len) all, least) in
    let Q : List Call → Type 0 = λ l. c.in_ok-bytes.bytes.items
    ≡ take count (drop (last * (c.from-size.result - 12) + c.len.result - count) (recovered sum size (content l))) in
    let found : Q (g.B.Blob.calls c.args.blob.now) = subst Q c.in_ok-page.ensures.calls c.in_ok-bytes.ensures.bytes in
    found ∙ ap (λ n. take count (drop n all)) start ∙ take_all count (drop (length all - c.args.len) all) left

pub returns-in_err-bytes-clause-cause : goal.returns-in_err-bytes-clause-cause
returns-in_err-bytes-clause-cause g c =
    let sum = g.C.Checksum.checksum_of in
    let size = c.args.physical_page_size in
    let room = content_size size in
    let footer : 12 < size = search rules in
    let live = content (g.B.Blob.calls c.args.blob.now) in
    let all = recovered sum size live in
    let most = recovered_within sum size footer live in
    let places : c.args.blob_size / c.from-size.result ≡ length live / size =
    ap (λ s. c.args.blob_size / s) c.from-size.ensures ∙ ap (λ n. n / size) c.requires.whole in
    let last = c.in-Some.last in
    let last_is : last + 1 ≡ c.args.blob_size / c.from-size.result = search rules in
    let pages : last + 1 ≡ length live / size = last_is ∙ places in
    let within : length all ≤ (last + 1) * room = omega (arith, most, ap (λ n. n * room) pages) in
    let counts : c.args.blob_size / size ≡ last + 1 = ap (λ n. n / size) c.requires.whole ∙ sym pages in
    let reached : (last + 1) * room < length all + room = omega (arith, c.requires.reached, ap (λ n. n * room) counts) in
    let rest = drop (last * room) all in
    let shown : length c.in_ok-page.page.items ≡ min room (length all - last * room) =
    ap length c.in_ok-page.ensures.bytes ∙ length-take room rest ∙ ap (λ n. min room n) (length-drop (last * room) all) in
    let spread : (last + 1) * room ≡ last * room + room = omega arith in
    let page_long : length c.in_ok-page.page.items ≡ length all - last * room = omega (arith, shown, within, reached, spread) in
    let rooms : last * (c.from-size.result - 12) ≡ last * room = ap (λ s. last * (s - 12)) c.from-size.ensures in
    let total : last * (c.from-size.result - 12) + c.len.result ≡ length all =
    omega (arith, rooms, c.len.ensures, page_long, reached, spread) in
    let count = c.min-count.result in
    let least : count ≡ min (length all) c.args.len = c.min-count.ensures ∙ ap (λ n. min n c.args.len) total in
    let end = last * (c.from-size.result - 12) + c.len.result - count + count in
    let ends : end ≡ length all = omega (arith, total, least) in
    let reach = physical_within size (last + 1) end footer (omega (arith, ends, within)) in
    let whole = div-add-mod' (length live) size in
    let there : physical_size size end ≤ c.args.blob_size = omega (arith, reach, whole, ap (λ n. n * size) pages, c.requires.whole) in
    let p = err_from_is_err_and c.from_residual-in_err-bytes.result c.from_residual-in_err-bytes.ensures.1 in
    let error = c.in_err-bytes.field-0.0 in
    let past = g.B.Blob.failures c.args.blob.now in
    let P : Failures → Type 0 = λ f. IsCause f Read (physical_size size end) error in
    let cause : P past = subst P c.in_ok-page.ensures.failures c.in_err-bytes.ensures.cause in
    rw (p.1, p.2) (further_cause past (physical_size size end) c.args.blob_size error there cause)
