use Rattle.std.proofs.Common.{rules, ◌≡◌, ◌≤◌, ◌<◌, ◌+◌, ◌-◌, ◌*◌, ◌/◌}
use Rattle.std.proofs.Common.{◌%◌, List, length, take, drop, ap, sym, subst, refl, ◌∙◌, arith}
use borrow.Rule.Slice.PartMut.{put_mid}
use Rattle.std.proofs.lemmas.List.{length-take-le, length-drop}
use Rattle.paged_format.specs.Footers.{content_size}
use Rattle.paged_format.specs.Pages.{recovered}
use Rattle.paged_blob_parts.specs.Calls.{Call, content}
use Rattle.paged_blob_parts.specs.Caches.{Cache}
use Rattle.paged_blob_parts.specs.Reads.{flushed, ServesPages, StaysKept}
use Rattle.paged_blob_parts.specs.Stands.{Stand}
use Rattle.paged_blob_parts.proofs.CachedLaws.{others_joined}
use Rattle.paged_blob_parts.proofs.ReadPages.{parts, one_more, longer}
use Rattle.paged_blob_parts.proofs.read.read_flushed.Goals as goal

pub loop-done-preserved : goal.loop-done-preserved
loop-done-preserved g c =
    let sum = g.C.Checksum.checksum_of in
    let size = c.args.pages.physical_page_size in
    let footer : 12 < size = search rules in
    let is : c.from-room.result ≡ size = search rules in
    let calls = g.B.Blob.calls c.args.blob.now in
    let all = flushed sum size calls c.args.pages.len in
    let long : length all ≡ c.args.pages.len = length-take-le c.args.pages.len (recovered sum size (content calls)) c.requires.stand.shown in
    let i = c.loop-done.invariant in
    let done = c.loop-done.done in
    let count = c.min-count.result in
    let out = c.loop-done.out in
    let span = done + count - done in
    let offset = c.args.offset in
    let room = c.from-room.result - 12 in
    let at = (offset + done) / room * content_size size + (offset + done) % room in
    let same_long : length out ≡ length c.args.out.now = search rules in
    let within : done + count ≤ length out = omega (arith, c.min-count.ensures, i.within) in
    let P : List Call → Type 0 = λ l.
    c.page_into.new.out ≡ take (length (take span (drop done out))) (drop at (flushed sum size l c.args.pages.len)) in
    let piece : P calls = subst P i.calls c.in_ok-page_into.ensures.bytes in
    let more = one_more all out c.page_into.new.out offset done count span at refl within (omega (arith, long, same_long, c.requires.within))
    (parts (offset + done) c.from-room.result size is footer) piece i.bytes in
    let Q : List Call → Type 0 = λ l.
    StaysKept (flushed sum size l c.args.pages.len) c.loop-done.cache c.page_into.new.cache c.args.pages.blob_id in
    let still : Q calls = subst Q i.calls c.in_ok-page_into.ensures.kept in
    let put : Cache → Cache = λ s. record s { pages = c.page_into.new.cache.pages } in
    record {
      within = longer (done + count) (put_mid done span out c.page_into.new.out) (take (done + count) (drop offset all)) more
          (length-take-le (done + count) (drop offset all)
          (omega (arith, long, same_long, c.requires.within, within, length-drop offset all)));
      bytes = more;
      kept = λ more holds. still more (i.kept more holds);
      others = others_joined c.args.cache.now c.loop-done.cache c.page_into.new.cache c.args.pages.blob_id i.others c.in_ok-page_into.ensures.others;
      same = c.in_ok-page_into.ensures.same ∙ ap put i.same;
      calls = c.in_ok-page_into.ensures.calls ∙ i.calls;
      failures = c.in_ok-page_into.ensures.failures ∙ i.failures;
      left = omega (arith, c.page_into.ensures.left, i.left);
    }

pub page_into-requires-clause-kept : goal.page_into-requires-clause-kept
page_into-requires-clause-kept g c =
    let i = c.loop-done.invariant in
    let (more, holds) = c.requires.kept in
    let P : List Call → Type 0 = λ l.
    ServesPages (flushed g.C.Checksum.checksum_of c.args.pages.physical_page_size l c.args.pages.len) c.loop-done.cache c.args.pages.blob_id in
    subst P (sym i.calls) (more, i.kept more holds)

pub page_into-requires-clause-stand : goal.page_into-requires-clause-stand
page_into-requires-clause-stand g c =
    subst (λ (l : List Call). Stand g.C.Checksum.checksum_of l c.args.pages) (sym c.loop-done.invariant.calls) c.requires.stand

pub returns-in_err-page_into-clause-kept : goal.returns-in_err-page_into-clause-kept
returns-in_err-page_into-clause-kept g c =
    let i = c.loop-done.invariant in
    let Q : List Call → Type 0 = λ l.
    StaysKept (flushed g.C.Checksum.checksum_of c.args.pages.physical_page_size l c.args.pages.len) c.loop-done.cache c.page_into.new.cache
    c.args.pages.blob_id in
    let still : Q (g.B.Blob.calls c.args.blob.now) = subst Q i.calls c.in_err-page_into.ensures.kept in
    λ more holds. still more (i.kept more holds)
