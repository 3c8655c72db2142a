use Rattle.std.proofs.Common.{rules, ◌≡◌, ◌<◌, ◌∙◌}
use Rattle.paged_blob_parts.specs.Writers.{WriterState, written}
use Rattle.paged_blob_parts.proofs.Taken.{still_there, taken_writer, taken_content, taken_moments, taken_cached}
use Rattle.paged_blob.proofs.writer.Writer.fill.Goals as goal

pub returns-in_err-count-clause-any_moment : goal.returns-in_err-count-clause-any_moment
returns-in_err-count-clause-any_moment g c =
    let i = c.self.inside in
    let w : WriterState = record { page_size = i.page_size; blob_id = i.blob_id; synced = i.synced; slot = i.slot; tip = i.tip } in
    let seen : w ≡ c.args.self.now = c.self.view_is in
    let some_room : 12 < w.page_size = search rules in
    still_there g.C.Checksum.checksum_of (g.B.Blob.calls c.args.blob.now) w c.args.self.now
    seen c.requires.writer some_room c.args.bytes.now

pub flush_pages-requires-clause-writer : goal.flush_pages-requires-clause-writer
flush_pages-requires-clause-writer g c =
    let i = c.self.inside in
    let w : WriterState = record { page_size = i.page_size; blob_id = i.blob_id; synced = i.synced; slot = i.slot; tip = i.tip } in
    let seen : w ≡ c.args.self.now = c.self.view_is in
    let some_room : 12 < w.page_size = search rules in
    taken_writer g.C.Checksum.checksum_of (g.B.Blob.calls c.args.blob.now) w c.args.self.now
    seen c.requires.writer some_room c.args.bytes.now c.in_ok-count.count
    c.append.new.self c.in_ok-count.ensures.ok c.requires.fits

pub returns-in_err-flush_pages-clause-any_moment : goal.returns-in_err-flush_pages-clause-any_moment
returns-in_err-flush_pages-clause-any_moment g c =
    let i = c.self.inside in
    let w : WriterState = record { page_size = i.page_size; blob_id = i.blob_id; synced = i.synced; slot = i.slot; tip = i.tip } in
    let seen : w ≡ c.args.self.now = c.self.view_is in
    let some_room : 12 < w.page_size = search rules in
    taken_moments g.C.Checksum.checksum_of (g.B.Blob.calls c.args.blob.now) w c.args.self.now
    seen c.requires.writer some_room c.args.bytes.now c.in_ok-count.count
    c.append.new.self c.in_ok-count.ensures.ok c.requires.fits
    (g.B.Blob.calls c.flush_pages.new.blob) c.flush_pages.ensures.any_moment

pub returns-clause-any_moment : goal.returns-clause-any_moment
returns-clause-any_moment g c =
    let i = c.self.inside in
    let w : WriterState = record { page_size = i.page_size; blob_id = i.blob_id; synced = i.synced; slot = i.slot; tip = i.tip } in
    let seen : w ≡ c.args.self.now = c.self.view_is in
    let some_room : 12 < w.page_size = search rules in
    taken_moments g.C.Checksum.checksum_of (g.B.Blob.calls c.args.blob.now) w c.args.self.now
    seen c.requires.writer some_room c.args.bytes.now c.in_ok-count.count
    c.append.new.self c.in_ok-count.ensures.ok c.requires.fits
    (g.B.Blob.calls c.flush_pages.new.blob) c.flush_pages.ensures.any_moment

pub returns-clause-content : goal.returns-clause-content
returns-clause-content g c =
    let i = c.self.inside in
    let w : WriterState = record { page_size = i.page_size; blob_id = i.blob_id; synced = i.synced; slot = i.slot; tip = i.tip } in
    let seen : w ≡ c.args.self.now = c.self.view_is in
    let some_room : 12 < w.page_size = search rules in
    c.in_ok-flush_pages.ensures.content
    ∙ taken_content g.C.Checksum.checksum_of (g.B.Blob.calls c.args.blob.now) w c.args.self.now
    seen c.requires.writer some_room c.args.bytes.now c.in_ok-count.count
    c.append.new.self c.in_ok-count.ensures.ok c.requires.fits

pub returns-clause-cached : goal.returns-clause-cached
returns-clause-cached g c =
    let i = c.self.inside in
    let w : WriterState = record { page_size = i.page_size; blob_id = i.blob_id; synced = i.synced; slot = i.slot; tip = i.tip } in
    let seen : w ≡ c.args.self.now = c.self.view_is in
    let some_room : 12 < w.page_size = search rules in
    let now = written g.C.Checksum.checksum_of (g.B.Blob.calls c.flush_pages.new.blob) c.flush_pages.new.self in
    taken_cached g.C.Checksum.checksum_of (g.B.Blob.calls c.args.blob.now) w c.args.self.now
    seen c.requires.writer some_room c.args.bytes.now c.in_ok-count.count
    c.append.new.self c.in_ok-count.ensures.ok c.requires.fits
    c.args.cache.now c.flush_pages.new.cache now c.in_ok-flush_pages.ensures.cached
