use Rattle.std.proofs.Common.{rules, ◌<◌, ℕ, List, subst}
use Rattle.paged_blob_parts.specs.Stands.{IsSealed}
use Rattle.paged_blob_parts.proofs.WriterViews.{writer_sealed}
use Rattle.paged_blob.proofs.writer.Writer.snapshot.Goals as goal

pub returns-clause-sealed : goal.returns-clause-sealed
returns-clause-sealed g c =
    let sum = g.C.Checksum.checksum_of in
    let new = g.B.Blob.calls c.sync.new.blob in
    let w = c.in_ok-writer.writer in
    let some_room : 12 < w.page_size = search rules in
    let s = c.in_ok-sealed.sealed in
    let e = c.in_ok-sealed.ensures in
    subst (λ (l : List ℕ). IsSealed sum new l s.pages s.tail.items) c.in_ok-writer.ensures.content
    (writer_sealed sum new w some_room c.in_ok-writer.ensures.writer s.pages s.tail.items e.pages e.tail)
