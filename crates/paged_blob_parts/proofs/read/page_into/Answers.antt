use Rattle.std.proofs.Common.{rules, ◌≡◌, ◌≤◌, ◌<◌, ◌+◌, ◌*◌, ◌/◌, length, take, drop, ap, refl, ◌∙◌, arith}
use Rattle.std.proofs.lemmas.Grind.{common_steps}
use Rattle.std.proofs.lemmas.List.{length-take-le}
use Rattle.std.proofs.Math.Nat.{mul-div_left}
use Rattle.paged_format.specs.Footers.{content_size}
use Rattle.paged_format.specs.Pages.{recovered}
use Rattle.paged_blob_parts.specs.Calls.{content}
use Rattle.paged_blob_parts.specs.Caches.{Cache, Page}
use Rattle.paged_blob_parts.specs.Chance.{page_at}
use Rattle.paged_blob_parts.specs.Reads.{flushed}
use Rattle.paged_blob_parts.proofs.CachedLaws.{others_given}
use Rattle.paged_blob_parts.proofs.ReadPages.{kept_page, kept_long, piece_of, stays_given}
use Rattle.paged_blob_parts.proofs.read.page_into.Goals as goal

pub copy_kept-requires : goal.copy_kept-requires
copy_kept-requires g c = record {
  long = λ p there named numbered.
      let sum = g.C.Checksum.checksum_of in
      let size = c.args.pages.physical_page_size in
      let room = content_size size in
      let calls = g.B.Blob.calls c.args.blob.now in
      let count = c.args.pages.len in
      let all = flushed sum size calls count in
      let long : length all ≡ count = length-take-le count (recovered sum size (content calls)) c.requires.stand.shown in
      let whole : (p.number + 1) * room ≤ length all = omega (arith, ap (λ n. (n + 1) * room) numbered, c.requires.whole, long) in
      let is = kept_page room all c.args.cache.now c.args.pages.blob_id p c.requires.sizes c.requires.kept there named whole in
      omega (arith, kept_long room all p is whole, c.requires.within);
}

pub returns-then-copy_kept-clause-bytes : goal.returns-then-copy_kept-clause-bytes
returns-then-copy_kept-clause-bytes g c =
    let sum = g.C.Checksum.checksum_of in
    let size = c.args.pages.physical_page_size in
    let room = content_size size in
    let calls = g.B.Blob.calls c.args.blob.now in
    let page = c.args.page in
    let count = c.args.pages.len in
    let n = length c.args.out.now in
    let all = flushed sum size calls count in
    let found = c.copy_kept.ensures c.if-copy_kept.true in
    let p : Page = record { blob_id = c.args.pages.blob_id; number = page; bytes = found.0 } in
    let long : length all ≡ count = length-take-le count (recovered sum size (content calls)) c.requires.stand.shown in
    let whole : (page + 1) * room ≤ length all = omega (arith, c.requires.whole, long) in
    let is = kept_page room all c.args.cache.now c.args.pages.blob_id p c.requires.sizes c.requires.kept found.1 refl whole in
    found.2 ∙ ap (λ bytes. take n (drop c.args.from bytes)) is ∙ piece_of room page c.args.from n all c.requires.within

pub returns-clause-kept : goal.returns-clause-kept
returns-clause-kept g c =
    let sum = g.C.Checksum.checksum_of in
    let size = c.args.pages.physical_page_size in
    let room = content_size size in
    let calls = g.B.Blob.calls c.args.blob.now in
    let page = c.args.page in
    let count = c.args.pages.len in
    let shown = recovered sum size (content calls) in
    let all = flushed sum size calls count in
    let old = c.args.cache.now in
    let new = c.cache.new.self in
    let footer : 12 < size = search rules in
    let some : 0 < room = omega (arith, footer) in
    let long : length all ≡ count = length-take-le count shown c.requires.stand.shown in
    let read : c.in_ok-bytes.bytes.items ≡ page_at room page all = c.in_ok-bytes.ensures.bytes in
    let offset : page * c.from.result ≡ page * room = search rules in
    let first : page * c.from.result / old.page_size ≡ page =
    ap (λ n. page * c.from.result / n) c.requires.sizes ∙ ap (λ n. n / room) offset ∙ mul-div_left page some in
    stays_given size page all c.deref.result.now old new c.args.pages.blob_id (page * c.from.result / old.page_size) footer c.requires.sizes
    (ap (λ (s : Cache). s.page_size) c.cache.ensures.same) first (omega (arith, long, c.requires.whole)) (c.deref.ensures.value ∙ read) c.cache.ensures.pages

pub returns-clause-bytes : goal.returns-clause-bytes
returns-clause-bytes g c =
    let sum = g.C.Checksum.checksum_of in
    let size = c.args.pages.physical_page_size in
    let room = content_size size in
    let calls = g.B.Blob.calls c.args.blob.now in
    let page = c.args.page in
    let count = c.args.pages.len in
    let shown = recovered sum size (content calls) in
    let all = flushed sum size calls count in
    let read : c.in_ok-bytes.bytes.items ≡ page_at room page all = c.in_ok-bytes.ensures.bytes in
    let piece : c.copy_from_slice.new.self ≡ take (length c.args.out.now) (drop c.args.from c.deref-2.result.now) = grind (arith, common_steps) in
    piece ∙ ap (λ bytes. take (length c.args.out.now) (drop c.args.from bytes)) (c.deref-2.ensures.value ∙ read)
    ∙ piece_of room page c.args.from (length c.args.out.now) all c.requires.within

pub returns-clause-others : goal.returns-clause-others
returns-clause-others g c =
    let before = c.args.cache.now in
    others_given before c.cache.new.self c.args.pages.blob_id (c.args.page * c.from.result / before.page_size) before.page_size c.deref.result.now
    (length c.deref.result.now / before.page_size) c.cache.ensures.pages
