use Rattle.std.proofs.Common.{rules, arith, ◌≡◌, ◌+◌, ◌-◌, ◌/◌, ◌<◌, ◌≤◌, Ok, length, take, ap}
use Rattle.paged_format.specs.Footers.{content_size}
use Rattle.paged_blob_parts.specs.Caches.{Cache}
use Rattle.paged_blob_parts.specs.Writers.{written}
use Rattle.paged_blob_parts.proofs.CachedLaws.{others_given}
use Rattle.paged_blob_parts.proofs.WriterLaws.{written_is, is_writer}
use Rattle.paged_blob.proofs.Syncing.{waited, waited_cached}
use Rattle.paged_blob.proofs.writer.Writer.wait_for_sync.Goals as goal

pub returns-then-has_synced-clause-writer : goal.returns-then-has_synced-clause-writer
returns-then-has_synced-clause-writer g c =
    let all : c.args.started.size ≤ c.args.self.synced = search rules in
    (c.requires.under_way.idle all).0

pub returns-clause-writer : goal.returns-clause-writer
returns-clause-writer g c =
    let sum = g.C.Checksum.checksum_of in
    let calls = g.B.Blob.calls c.args._blob.now in
    let w = c.args.self in
    let some_room : 12 < w.page_size = search rules in
    let answered : c.args.started.sync.answer ≡ Ok tt = search rules in
    let lt : w.synced < c.args.started.size = search rules in
    let next = c.settle_first.new.self in
    let e = c.settle_first.ensures in
    let after = waited sum calls w some_room c.args.started c.requires.under_way answered lt next e.same.0 e.synced e.slot e.tip in
    is_writer sum calls next (omega (arith, some_room, e.same.0)) (written sum calls w) after

pub returns-clause-content : goal.returns-clause-content
returns-clause-content g c =
    let sum = g.C.Checksum.checksum_of in
    let calls = g.B.Blob.calls c.args._blob.now in
    let w = c.args.self in
    let some_room : 12 < w.page_size = search rules in
    let answered : c.args.started.sync.answer ≡ Ok tt = search rules in
    let lt : w.synced < c.args.started.size = search rules in
    let next = c.settle_first.new.self in
    let e = c.settle_first.ensures in
    let after = waited sum calls w some_room c.args.started c.requires.under_way answered lt next e.same.0 e.synced e.slot e.tip in
    written_is sum calls next (omega (arith, some_room, e.same.0)) (written sum calls w) after

pub returns-clause-cached : goal.returns-clause-cached
returns-clause-cached g c =
    let sum = g.C.Checksum.checksum_of in
    let calls = g.B.Blob.calls c.args._blob.now in
    let w = c.args.self in
    let some_room : 12 < w.page_size = search rules in
    let before = c.args.cache.now in
    let after = c.settle_first.new.cache in
    let way = c.requires.under_way in
    let e = c.settle_first.ensures in
    let same : after.page_size ≡ before.page_size = ap (λ (k : Cache). k.page_size) e.cache in
    λ holds.
    waited_cached sum calls w some_room c.args.started way (c.args.started.size - w.tip.offset) before after
    (omega (arith, way.begins, way.within)) c.requires.pages same (w.tip.offset / before.page_size)
    (ap (λ m. w.tip.offset / m) c.requires.pages) e.given holds

pub returns-clause-others : goal.returns-clause-others
returns-clause-others g c =
    let w = c.args.self in
    let before = c.args.cache.now in
    let bytes = take (c.args.started.size - w.tip.offset) w.tip.bytes in
    others_given before c.settle_first.new.cache w.blob_id (w.tip.offset / before.page_size) before.page_size bytes (length bytes / before.page_size)
    c.settle_first.ensures.given
