use Rattle.std.proofs.Common.{rules, ◌≡◌, ◌<◌, ◌+◌, ◌-◌, ◌*◌, ◌/◌, ◌%◌, min, ℕ, List, ap, sym, subst, arith}
use Rattle.paged_format.specs.Footers.{content_size}
use Rattle.paged_format.specs.Pages.{recovered}
use Rattle.paged_blob_parts.specs.Calls.{file_of, content}
use Rattle.paged_blob_parts.specs.Shrinks.{IsCut}
use Rattle.paged_blob.specs.ShrinksCode.{IsLast}
use Rattle.paged_blob_parts.specs.Laws.Moments.{weaker}
use Rattle.paged_blob_parts.proofs.CutBlob.{keeps_less, settle_moments, part_moments, cut_taken}
use Rattle.paged_blob.proofs.shrink.cut_blob.Goals as goal

-- so many whole pages, and a part of the next
parts : (kept from size : ℕ) → from ≡ size → 12 < size → kept / (from - 12) * content_size size + kept % (from - 12) ≡ kept
parts kept from size is footer =
    let room : 0 < from - 12 = omega (arith, is, footer) in
    let same : kept / (from - 12) * (size - 12) ≡ kept / (from - 12) * (from - 12) = ap (λ s. kept / (from - 12) * (s - 12)) (sym is) in
    omega (arith, same, room)

-- where there is no part
pages : (kept from size : ℕ) → from ≡ size → 12 < size → kept % (from - 12) ≡ 0 → kept / (from - 12) * content_size size ≡ kept
pages kept from size is footer none = omega (arith, parts kept from size is footer, none)

pub returns-in_err-settle-clause-any_moment : goal.returns-in_err-settle-clause-any_moment
returns-in_err-settle-clause-any_moment g c = λ synced w.
    let sum = g.C.Checksum.checksum_of in
    let size = c.args.physical_page_size in
    let calls = g.B.Blob.calls c.args.blob.now in
    let footer : 12 < size = search rules in
    weaker (λ now. keeps_less sum size (recovered sum size (content calls)) synced (min c.args.size synced) now (omega arith))
    (settle_moments sum size footer c.settle.result calls (g.B.Blob.calls c.settle.new.blob) synced c.requires.sound w c.settle.ensures.calls)

pub returns-in_err-cut_behind-clause-any_moment : goal.returns-in_err-cut_behind-clause-any_moment
returns-in_err-cut_behind-clause-any_moment g c = λ synced w.
    let size = c.args.physical_page_size in
    let kept = c.min-kept.result in
    let footer : 12 < size = search rules in
    let is : c.from-room.result ≡ size = search rules in
    part_moments g.C.Checksum.checksum_of size footer c.settle.result (g.B.Blob.calls c.args.blob.now) (g.B.Blob.calls c.settle.new.blob)
    (g.B.Blob.calls c.cut_behind.new.blob) synced c.args.size kept c.args.len (kept / (c.from-room.result - 12) * content_size size)
    c.requires.sound w c.settle.ensures.calls c.in_ok-settle.ensures.settled.base c.requires.known c.min-kept.ensures
    (pages kept c.from-room.result size is footer c.if-part-eq0.true) c.cut_behind.ensures.any_moment

pub returns-then-part-eq0-clause-any_moment : goal.returns-then-part-eq0-clause-any_moment
returns-then-part-eq0-clause-any_moment g c = λ synced w.
    let size = c.args.physical_page_size in
    let kept = c.min-kept.result in
    let footer : 12 < size = search rules in
    let is : c.from-room.result ≡ size = search rules in
    part_moments g.C.Checksum.checksum_of size footer c.settle.result (g.B.Blob.calls c.args.blob.now) (g.B.Blob.calls c.settle.new.blob)
    (g.B.Blob.calls c.cut_behind.new.blob) synced c.args.size kept c.args.len (kept / (c.from-room.result - 12) * content_size size)
    c.requires.sound w c.settle.ensures.calls c.in_ok-settle.ensures.settled.base c.requires.known c.min-kept.ensures
    (pages kept c.from-room.result size is footer c.if-part-eq0.true) c.cut_behind.ensures.any_moment

pub returns-in_err-last-clause-any_moment : goal.returns-in_err-last-clause-any_moment
returns-in_err-last-clause-any_moment g c = λ synced w.
    let size = c.args.physical_page_size in
    let kept = c.min-kept.result in
    let room = c.from-room.result - 12 in
    let footer : 12 < size = search rules in
    let is : c.from-room.result ≡ size = search rules in
    part_moments g.C.Checksum.checksum_of size footer c.settle.result (g.B.Blob.calls c.args.blob.now) (g.B.Blob.calls c.settle.new.blob)
    (g.B.Blob.calls c.cut_within.new.blob) synced c.args.size kept c.args.len (kept / room * content_size size + kept % room)
    c.requires.sound w c.settle.ensures.calls c.in_ok-settle.ensures.settled.base c.requires.known c.min-kept.ensures
    (parts kept c.from-room.result size is footer) c.cut_within.ensures.any_moment

pub returns-clause-any_moment : goal.returns-clause-any_moment
returns-clause-any_moment g c = λ synced w.
    let size = c.args.physical_page_size in
    let kept = c.min-kept.result in
    let room = c.from-room.result - 12 in
    let footer : 12 < size = search rules in
    let is : c.from-room.result ≡ size = search rules in
    part_moments g.C.Checksum.checksum_of size footer c.settle.result (g.B.Blob.calls c.args.blob.now) (g.B.Blob.calls c.settle.new.blob)
    (g.B.Blob.calls c.cut_within.new.blob) synced c.args.size kept c.args.len (kept / room * content_size size + kept % room)
    c.requires.sound w c.settle.ensures.calls c.in_ok-settle.ensures.settled.base c.requires.known c.min-kept.ensures
    (parts kept c.from-room.result size is footer) c.cut_within.ensures.any_moment

pub returns-then-part-eq0-clause-cut : goal.returns-then-part-eq0-clause-cut
returns-then-part-eq0-clause-cut g c =
    let sum = g.C.Checksum.checksum_of in
    let size = c.args.physical_page_size in
    let kept = c.min-kept.result in
    let footer : 12 < size = search rules in
    let is : c.from-room.result ≡ size = search rules in
    let new = g.B.Blob.calls c.cut_behind.new.blob in
    subst (λ (l : List ℕ). IsCut sum size l new)
    (cut_taken sum size (g.B.Blob.calls c.args.blob.now) (g.B.Blob.calls c.settle.new.blob) c.args.size kept c.args.len
    (kept / (c.from-room.result - 12) * content_size size) c.in_ok-settle.ensures.settled.base c.requires.known c.min-kept.ensures
    (pages kept c.from-room.result size is footer c.if-part-eq0.true)) c.in_ok-cut_behind.ensures.cut

pub returns-clause-cut : goal.returns-clause-cut
returns-clause-cut g c =
    let sum = g.C.Checksum.checksum_of in
    let size = c.args.physical_page_size in
    let kept = c.min-kept.result in
    let room = c.from-room.result - 12 in
    let footer : 12 < size = search rules in
    let is : c.from-room.result ≡ size = search rules in
    let new = g.B.Blob.calls c.cut_within.new.blob in
    subst (λ (l : List ℕ). IsCut sum size l new)
    (cut_taken sum size (g.B.Blob.calls c.args.blob.now) (g.B.Blob.calls c.settle.new.blob) c.args.size kept c.args.len
    (kept / room * content_size size + kept % room) c.in_ok-settle.ensures.settled.base c.requires.known c.min-kept.ensures
    (parts kept c.from-room.result size is footer)) c.in_ok-last.ensures.cut

pub returns-clause-last : goal.returns-clause-last
returns-clause-last g c =
    let sum = g.C.Checksum.checksum_of in
    let size = c.args.physical_page_size in
    let kept = c.min-kept.result in
    let room = c.from-room.result - 12 in
    let footer : 12 < size = search rules in
    let is : c.from-room.result ≡ size = search rules in
    let new = g.B.Blob.calls c.cut_within.new.blob in
    subst (λ (l : List ℕ). IsLast size l (file_of new).base c.in_ok-last.last)
    (cut_taken sum size (g.B.Blob.calls c.args.blob.now) (g.B.Blob.calls c.settle.new.blob) c.args.size kept c.args.len
    (kept / room * content_size size + kept % room) c.in_ok-settle.ensures.settled.base c.requires.known c.min-kept.ensures
    (parts kept c.from-room.result size is footer)) c.in_ok-last.ensures.last
