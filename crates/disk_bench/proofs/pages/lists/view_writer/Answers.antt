use Rattle.std.proofs.Common.{rules, ◌≡◌, ◌<◌, sym, subst}
use Rattle.paged_blob_parts.specs.Reads.{ServesPages}
use Rattle.paged_blob_parts.specs.Stands.{Stand, on_blob}
use Rattle.paged_blob_parts.specs.declared.read.FlushedPages.{FlushedPages}
use Rattle.paged_blob_parts.proofs.WriterViews.{writer_stands, writer_serves}
use Rattle.disk_bench.proofs.pages.lists.view_writer.Goals as goal

pub view_often-requires-clause-stand : goal.view_often-requires-clause-stand
view_often-requires-clause-stand g c =
    let sum = g.C.Checksum.checksum_of in
    let calls = g.B.Blob.calls c.args.disk.now in
    let w = c.args.writer.now in
    let some_room : 12 < w.page_size = search rules in
    subst (Stand sum calls) (sym c.view.ensures.pages) (writer_stands sum calls w some_room c.requires.writer)

pub view_often-requires-clause-cached : goal.view_often-requires-clause-cached
view_often-requires-clause-cached g c =
    let sum = g.C.Checksum.checksum_of in
    let calls = g.B.Blob.calls c.args.disk.now in
    let w = c.args.writer.now in
    let some_room : 12 < w.page_size = search rules in
    subst (λ (p : FlushedPages). ServesPages (on_blob sum calls p) c.args.cache.now p.blob_id) (sym c.view.ensures.pages)
    (writer_serves sum calls w some_room c.requires.writer c.args.cache.now c.requires.pages c.requires.cached).kept
