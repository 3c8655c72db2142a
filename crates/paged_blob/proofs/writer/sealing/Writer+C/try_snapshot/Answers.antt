use Rattle.std.proofs.Common.{rules, ◌<◌}
use Rattle.paged_blob_parts.proofs.WriterViews.{writer_sealed}
use Rattle.paged_blob.proofs.writer.sealing.Writer+C.try_snapshot.Goals as goal

pub returns-clause-sealed : goal.returns-clause-sealed
returns-clause-sealed g c = λ calls writer.
    let w = c.args.self.now in
    let some_room : 12 < w.page_size = search rules in
    let s = c.in_ok-sealed.sealed in
    let e = c.in_ok-sealed.ensures in
    writer_sealed g.C.Checksum.checksum_of calls w some_room writer s.pages s.tail.items e.pages e.tail
