use Rattle.std.proofs.Common.{rules, ◌≡◌, ◌+◌, ◌*◌, ◌/◌, ◌<◌, ◌≤◌, length, take, drop, subst, sym, ap}
use Rattle.paged_format.specs.Footers.{content_size}
use Rattle.paged_blob_parts.specs.Caches.{Cache}
use Rattle.paged_blob_parts.specs.CachedContent.{KeepsOthers}
use Rattle.paged_blob_parts.specs.Writers.{WriterState}
use Rattle.paged_blob_parts.proofs.CachedLaws.{others_given}
use Rattle.paged_blob_parts.proofs.Taken.{flushed_moments, flushed_writer, flushed_content, flushed_cached}
use Rattle.paged_blob.proofs.Completed.{write_completes_none}
use Rattle.paged_blob.proofs.writer.Writer.flush_pages.Goals as goal

pub returns-in_err-flush-clause-any_moment : goal.returns-in_err-flush-clause-any_moment
returns-in_err-flush-clause-any_moment g c =
    let i = c.self.inside in
    let w : WriterState = record { page_size = i.page_size; blob_id = i.blob_id; synced = i.synced; slot = i.slot; tip = i.tip } in
    let seen : w ≡ c.args.self.now = c.self.view_is in
    let some_room : 12 < w.page_size = search rules in
    let small : w.page_size ≤ 65536 = search rules in
    let part = c.split_at.result.0.now in
    let whole : part ≡ take (length w.tip.bytes / content_size w.page_size * content_size w.page_size) w.tip.bytes = search rules in
    let first_page = c.offset-offset.result / content_size w.page_size in
    let first : first_page ≡ w.tip.offset / content_size w.page_size = search rules in
    flushed_moments g.C.Checksum.checksum_of (g.B.Blob.calls c.args.blob.now) w c.args.self.now
    seen c.requires.writer some_room
    small c.requires.some part first_page whole first
    c.flush.result (g.B.Blob.calls c.flush.new.blob) c.flush.ensures.calls

pub returns-clause-any_moment : goal.returns-clause-any_moment
returns-clause-any_moment g c =
    let i = c.self.inside in
    let w : WriterState = record { page_size = i.page_size; blob_id = i.blob_id; synced = i.synced; slot = i.slot; tip = i.tip } in
    let seen : w ≡ c.args.self.now = c.self.view_is in
    let some_room : 12 < w.page_size = search rules in
    let small : w.page_size ≤ 65536 = search rules in
    let part = c.split_at.result.0.now in
    let whole : part ≡ take (length w.tip.bytes / content_size w.page_size * content_size w.page_size) w.tip.bytes = search rules in
    let first_page = c.offset-offset.result / content_size w.page_size in
    let first : first_page ≡ w.tip.offset / content_size w.page_size = search rules in
    flushed_moments g.C.Checksum.checksum_of (g.B.Blob.calls c.args.blob.now) w c.args.self.now
    seen c.requires.writer some_room
    small c.requires.some part first_page whole first
    c.flush.result (g.B.Blob.calls c.flush.new.blob) c.flush.ensures.calls

pub returns-clause-writer : goal.returns-clause-writer
returns-clause-writer g c =
    let i = c.self.inside in
    let w : WriterState = record { page_size = i.page_size; blob_id = i.blob_id; synced = i.synced; slot = i.slot; tip = i.tip } in
    let seen : w ≡ c.args.self.now = c.self.view_is in
    let some_room : 12 < w.page_size = search rules in
    let small : w.page_size ≤ 65536 = search rules in
    let part = c.split_at.result.0.now in
    let whole : part ≡ take (length w.tip.bytes / content_size w.page_size * content_size w.page_size) w.tip.bytes = search rules in
    let first_page = c.offset-offset.result / content_size w.page_size in
    let first : first_page ≡ w.tip.offset / content_size w.page_size = search rules in
    let tip : c.drain.new.self ≡ record w.tip { offset = w.tip.offset + length part; bytes = drop (length part) w.tip.bytes } = search rules in
    flushed_writer g.C.Checksum.checksum_of (g.B.Blob.calls c.args.blob.now) w c.args.self.now
    seen c.requires.writer some_room
    small c.requires.some part first_page whole first
    (g.B.Blob.calls c.flush.new.blob) c.in_ok-flush.ensures.calls c.in_ok-flush.ensures.fits c.drain.new.self tip

pub returns-clause-content : goal.returns-clause-content
returns-clause-content g c =
    let i = c.self.inside in
    let w : WriterState = record { page_size = i.page_size; blob_id = i.blob_id; synced = i.synced; slot = i.slot; tip = i.tip } in
    let seen : w ≡ c.args.self.now = c.self.view_is in
    let some_room : 12 < w.page_size = search rules in
    let small : w.page_size ≤ 65536 = search rules in
    let part = c.split_at.result.0.now in
    let whole : part ≡ take (length w.tip.bytes / content_size w.page_size * content_size w.page_size) w.tip.bytes = search rules in
    let first_page = c.offset-offset.result / content_size w.page_size in
    let first : first_page ≡ w.tip.offset / content_size w.page_size = search rules in
    let tip : c.drain.new.self ≡ record w.tip { offset = w.tip.offset + length part; bytes = drop (length part) w.tip.bytes } = search rules in
    flushed_content g.C.Checksum.checksum_of (g.B.Blob.calls c.args.blob.now) w c.args.self.now
    seen c.requires.writer some_room
    small c.requires.some part first_page whole first
    (g.B.Blob.calls c.flush.new.blob) c.in_ok-flush.ensures.calls c.in_ok-flush.ensures.fits c.drain.new.self tip

pub returns-clause-cached : goal.returns-clause-cached
returns-clause-cached g c =
    let i = c.self.inside in
    let w : WriterState = record { page_size = i.page_size; blob_id = i.blob_id; synced = i.synced; slot = i.slot; tip = i.tip } in
    let seen : w ≡ c.args.self.now = c.self.view_is in
    let some_room : 12 < w.page_size = search rules in
    let small : w.page_size ≤ 65536 = search rules in
    let part = c.split_at.result.0.now in
    let whole : part ≡ take (length w.tip.bytes / content_size w.page_size * content_size w.page_size) w.tip.bytes = search rules in
    let first_page = c.offset-offset.result / content_size w.page_size in
    let first : first_page ≡ w.tip.offset / content_size w.page_size = search rules in
    let tip : c.drain.new.self ≡ record w.tip { offset = w.tip.offset + length part; bytes = drop (length part) w.tip.bytes } = search rules in
    let before = c.args.cache.now in
    let after = c.cache.new.self in
    let same : after.page_size ≡ before.page_size = ap (λ (k : Cache). k.page_size) c.cache.ensures.same in
    let sizes : before.page_size ≡ content_size w.page_size =
    subst (λ (v : WriterState). before.page_size ≡ content_size v.page_size) (sym seen) c.requires.pages in
    flushed_cached g.C.Checksum.checksum_of (g.B.Blob.calls c.args.blob.now) w c.args.self.now
    seen c.requires.writer some_room
    small c.requires.some part first_page whole first
    (g.B.Blob.calls c.flush.new.blob) c.in_ok-flush.ensures.calls c.in_ok-flush.ensures.fits c.drain.new.self tip
    before after (c.offset-offset.result / before.page_size) c.requires.pages same (ap (λ m. c.offset-offset.result / m) sizes) c.cache.ensures.pages

pub returns-clause-others : goal.returns-clause-others
returns-clause-others g c =
    let i = c.self.inside in
    let before = c.args.cache.now in
    let part = c.split_at.result.0.now in
    subst (λ id. KeepsOthers before c.cache.new.self id) (ap (λ (v : WriterState). v.blob_id) c.self.view_is)
    (others_given before c.cache.new.self i.blob_id (c.offset-offset.result / before.page_size) before.page_size part
    (length part / before.page_size) c.cache.ensures.pages)

pub returns-in_err-flush-clause-syncs : goal.returns-in_err-flush-clause-syncs
returns-in_err-flush-clause-syncs g c = write_completes_none c.flush.result _ _ _ _ _ c.flush.ensures.calls

pub returns-clause-syncs : goal.returns-clause-syncs
returns-clause-syncs g c = write_completes_none c.flush.result _ _ _ _ _ c.flush.ensures.calls
