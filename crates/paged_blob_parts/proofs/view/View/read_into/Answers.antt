use Rattle.std.proofs.Common.{List, sym, subst}
use Rattle.paged_blob_parts.specs.Calls.{Call}
use Rattle.paged_blob_parts.specs.Reads.{ServesPages}
use Rattle.paged_blob_parts.specs.Stands.{on_blob}
use Rattle.paged_blob_parts.proofs.ServedLaws.{still_serves}
use Rattle.paged_blob_parts.proofs.view.View.read_into.Goals as goal

pub returns-clause-serves : goal.returns-clause-serves
returns-clause-serves g c =
    let sum = g.C.Checksum.checksum_of in
    let pages = c.args.self.now.pages in
    let old = g.B.Blob.calls c.args.blob.now in
    subst (λ (l : List Call). ServesPages (on_blob sum l pages) c.read_slice.new.cache pages.blob_id) (sym c.read_slice.ensures.calls)
    (still_serves (on_blob sum old pages) c.args.cache.now c.read_slice.new.cache pages.blob_id c.requires.cached c.read_slice.ensures.kept)
