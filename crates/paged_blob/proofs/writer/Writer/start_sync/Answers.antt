use Rattle.std.proofs.Common.{rules, arith, ◌≡◌, ◌+◌, ◌/◌, ◌<◌, ◌≤◌, Ok, length}
use Rattle.paged_format.specs.Footers.{content_size}
use Rattle.paged_blob_parts.specs.Flushes.{last_slot}
use Rattle.paged_blob_parts.specs.Writers.{written}
use Rattle.paged_blob_parts.proofs.WriterLaws.{nothing_moments, sync_moments}
use Rattle.paged_blob.proofs.Syncing.{nothing_started, started_content, sync_started}
use Rattle.paged_blob.proofs.writer.Writer.start_sync.Goals as goal

pub returns-then-not-needs_sync-clause-under_way : goal.returns-then-not-needs_sync-clause-under_way
returns-then-not-needs_sync-clause-under_way g c =
    let sum = g.C.Checksum.checksum_of in
    let old = g.B.Blob.calls c.args.blob.now in
    let w = c.args.self in
    let some_room : 12 < w.page_size = search rules in
    let small : w.page_size ≤ 65536 = search rules in
    let all : w.tip.offset + length w.tip.bytes ≤ w.synced = search rules in
    let size : c.size-size.result ≡ w.tip.offset + length w.tip.bytes = search rules in
    let answered : c.new-sync.result.answer ≡ Ok tt = search rules in
    nothing_started sum old w some_room small c.requires.writer (record { size = c.size-size.result; sync = c.new-sync.result }) size all answered

pub returns-then-not-needs_sync-clause-any_moment : goal.returns-then-not-needs_sync-clause-any_moment
returns-then-not-needs_sync-clause-any_moment g c =
    let sum = g.C.Checksum.checksum_of in
    let old = g.B.Blob.calls c.args.blob.now in
    let w = c.args.self in
    let some_room : 12 < w.page_size = search rules in
    let small : w.page_size ≤ 65536 = search rules in
    nothing_moments sum old w some_room small c.requires.writer

pub returns-clause-under_way : goal.returns-clause-under_way
returns-clause-under_way g c =
    let sum = g.C.Checksum.checksum_of in
    let old = g.B.Blob.calls c.args.blob.now in
    let w = c.args.self in
    let some_room : 12 < w.page_size = search rules in
    let small : w.page_size ≤ 65536 = search rules in
    let mid = g.B.Blob.calls c.flush_tip.new.blob in
    let new = g.B.Blob.calls c.start_sync-sync.new.self in
    let size : c.size-size.result ≡ w.tip.offset + length w.tip.bytes = search rules in
    let needed : w.synced < w.tip.offset + length w.tip.bytes = search rules in
    let flushed = c.in_ok-flush_tip.ensures.flushed in
    sync_started sum old w some_room small c.requires.writer (record { size = c.size-size.result; sync = c.start_sync-sync.result }) size mid new flushed
    c.start_sync-sync.ensures.calls
    (sync_moments sum w.page_size some_room mid (written sum old w) w.synced
    (w.tip.offset / content_size w.page_size + length w.tip.bytes / content_size w.page_size)
    (last_slot sum w.page_size w.slot w.tip.bytes) flushed c.start_sync-sync.result.answer old new c.flush_tip.ensures.any_moment
    c.start_sync-sync.ensures.calls) needed

pub returns-clause-content : goal.returns-clause-content
returns-clause-content g c =
    let sum = g.C.Checksum.checksum_of in
    let old = g.B.Blob.calls c.args.blob.now in
    let w = c.args.self in
    let some_room : 12 < w.page_size = search rules in
    let small : w.page_size ≤ 65536 = search rules in
    let mid = g.B.Blob.calls c.flush_tip.new.blob in
    let new = g.B.Blob.calls c.start_sync-sync.new.self in
    let size : c.size-size.result ≡ w.tip.offset + length w.tip.bytes = search rules in
    started_content sum old w some_room small c.requires.writer (record { size = c.size-size.result; sync = c.start_sync-sync.result }) size mid new
    c.in_ok-flush_tip.ensures.flushed c.start_sync-sync.ensures.calls

pub returns-clause-any_moment : goal.returns-clause-any_moment
returns-clause-any_moment g c =
    let sum = g.C.Checksum.checksum_of in
    let old = g.B.Blob.calls c.args.blob.now in
    let w = c.args.self in
    let some_room : 12 < w.page_size = search rules in
    let mid = g.B.Blob.calls c.flush_tip.new.blob in
    let new = g.B.Blob.calls c.start_sync-sync.new.self in
    sync_moments sum w.page_size some_room mid (written sum old w) w.synced
    (w.tip.offset / content_size w.page_size + length w.tip.bytes / content_size w.page_size)
    (last_slot sum w.page_size w.slot w.tip.bytes) c.in_ok-flush_tip.ensures.flushed c.start_sync-sync.result.answer old new
    c.flush_tip.ensures.any_moment c.start_sync-sync.ensures.calls
