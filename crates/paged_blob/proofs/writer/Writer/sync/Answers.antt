use Rattle.std.proofs.Common.{rules, arith, ◌≡◌, ◌+◌, ◌/◌, ◌<◌, ◌≤◌, ◌∙◌, length, ap}
use Rattle.paged_format.specs.Footers.{content_size}
use Rattle.paged_blob_parts.specs.Flushes.{last_slot}
use Rattle.paged_blob_parts.specs.Writers.{written}
use Rattle.paged_blob_parts.proofs.WriterLaws.{nothing_moments, tip_cached, sync_moments, settled_after, written_is, is_writer}
use Rattle.paged_blob_parts.specs.Caches.{Cache}
use Rattle.paged_blob_parts.proofs.CachedLaws.{others_given}
use Rattle.paged_blob.proofs.Completed.{refused_completes_none, refused_too}
use Rattle.paged_blob.proofs.writer.Writer.sync.Goals as goal

pub returns-then-not-needs_sync-clause-any_moment : goal.returns-then-not-needs_sync-clause-any_moment
returns-then-not-needs_sync-clause-any_moment g c =
    let sum = g.C.Checksum.checksum_of in
    let old = g.B.Blob.calls c.args.blob.now in
    let w = c.args.self in
    let some_room : 12 < w.page_size = search rules in
    let small : w.page_size ≤ 65536 = search rules in
    nothing_moments sum old w some_room small c.requires.writer

pub returns-in_err-sync-clause-any_moment : goal.returns-in_err-sync-clause-any_moment
returns-in_err-sync-clause-any_moment g c =
    let sum = g.C.Checksum.checksum_of in
    let old = g.B.Blob.calls c.args.blob.now in
    let w = c.args.self in
    let some_room : 12 < w.page_size = search rules in
    let small : w.page_size ≤ 65536 = search rules in
    let mid = g.B.Blob.calls c.flush_tip.new.blob in
    let new = g.B.Blob.calls c.sync.new.self in
    sync_moments sum w.page_size some_room mid (written sum old w) w.synced
    (w.tip.offset / content_size w.page_size + length w.tip.bytes / content_size w.page_size)
    (last_slot sum w.page_size w.slot w.tip.bytes) c.in_ok-flush_tip.ensures.flushed c.sync.result old new c.flush_tip.ensures.any_moment c.sync.ensures.calls

pub returns-clause-any_moment : goal.returns-clause-any_moment
returns-clause-any_moment g c =
    let sum = g.C.Checksum.checksum_of in
    let old = g.B.Blob.calls c.args.blob.now in
    let w = c.args.self in
    let some_room : 12 < w.page_size = search rules in
    let small : w.page_size ≤ 65536 = search rules in
    let mid = g.B.Blob.calls c.flush_tip.new.blob in
    let new = g.B.Blob.calls c.sync.new.self in
    sync_moments sum w.page_size some_room mid (written sum old w) w.synced
    (w.tip.offset / content_size w.page_size + length w.tip.bytes / content_size w.page_size)
    (last_slot sum w.page_size w.slot w.tip.bytes) c.in_ok-flush_tip.ensures.flushed c.sync.result old new c.flush_tip.ensures.any_moment c.sync.ensures.calls

pub returns-clause-writer : goal.returns-clause-writer
returns-clause-writer g c =
    let sum = g.C.Checksum.checksum_of in
    let old = g.B.Blob.calls c.args.blob.now in
    let w = c.args.self in
    let some_room : 12 < w.page_size = search rules in
    let small : w.page_size ≤ 65536 = search rules in
    let mid = g.B.Blob.calls c.flush_tip.new.blob in
    let new = g.B.Blob.calls c.sync.new.self in
    let s = c.in_ok-sync.ensures.calls in
    let next = c.settle.new.self in
    let size_same : next.page_size ≡ w.page_size = c.settle.ensures.same.0 in
    let after = settled_after sum old w some_room small c.requires.writer mid new c.in_ok-flush_tip.ensures.flushed s.0 s.1 s.2 next size_same
    c.settle.ensures.synced c.settle.ensures.slot c.settle.ensures.tip in
    is_writer sum new next (omega (arith, some_room, size_same)) (written sum old w) after

pub returns-clause-content : goal.returns-clause-content
returns-clause-content g c =
    let sum = g.C.Checksum.checksum_of in
    let old = g.B.Blob.calls c.args.blob.now in
    let w = c.args.self in
    let some_room : 12 < w.page_size = search rules in
    let small : w.page_size ≤ 65536 = search rules in
    let mid = g.B.Blob.calls c.flush_tip.new.blob in
    let new = g.B.Blob.calls c.sync.new.self in
    let s = c.in_ok-sync.ensures.calls in
    let next = c.settle.new.self in
    let size_same : next.page_size ≡ w.page_size = c.settle.ensures.same.0 in
    let after = settled_after sum old w some_room small c.requires.writer mid new c.in_ok-flush_tip.ensures.flushed s.0 s.1 s.2 next size_same
    c.settle.ensures.synced c.settle.ensures.slot c.settle.ensures.tip in
    written_is sum new next (omega (arith, some_room, size_same)) (written sum old w) after

pub returns-clause-cached : goal.returns-clause-cached
returns-clause-cached g c =
    let sum = g.C.Checksum.checksum_of in
    let old = g.B.Blob.calls c.args.blob.now in
    let w = c.args.self in
    let some_room : 12 < w.page_size = search rules in
    let small : w.page_size ≤ 65536 = search rules in
    let before = c.args.cache.now in
    let after = c.settle.new.cache in
    let same : after.page_size ≡ before.page_size = ap (λ (k : Cache). k.page_size) c.settle.ensures.cache in
    λ holds. tip_cached sum old w some_room small c.requires.writer before after c.requires.pages same (w.tip.offset / before.page_size)
    (ap (λ m. w.tip.offset / m) c.requires.pages) c.settle.ensures.given holds

pub returns-clause-others : goal.returns-clause-others
returns-clause-others g c =
    let w = c.args.self in
    let before = c.args.cache.now in
    others_given before c.settle.new.cache w.blob_id (w.tip.offset / before.page_size) before.page_size w.tip.bytes (length w.tip.bytes / before.page_size)
    c.settle.ensures.given

pub returns-in_err-sync-clause-unsynced : goal.returns-in_err-sync-clause-unsynced
returns-in_err-sync-clause-unsynced g c =
    refused_too c.from_residual-in_err-sync.result
    (refused_completes_none c.in_err-sync.field-0.0 _ _ c.in_err-sync.ensures.calls ∙ c.flush_tip.ensures.syncs)
