use Rattle.std.proofs.Common.{◌≡◌}
use Rattle.paged_format.specs.Footers.{content_size}
use Rattle.paged_blob_parts.specs.Reads.{ServesPages}
use Rattle.paged_blob_parts.specs.Stands.{on_blob}
use Rattle.disk_bench.proofs.pages.lists.view_often.Given as goal

abbrev pub invariant-loop : goal.invariant-loop
invariant-loop g l = record {
  calls : g.B.Blob.calls l.disk ≡ g.B.Blob.calls l.fn.disk;
  pages : l.cache.page_size ≡ content_size l.fn.view.pages.physical_page_size;
  cached : ServesPages (on_blob g.C.Checksum.checksum_of (g.B.Blob.calls l.disk) l.fn.view.pages) l.cache l.fn.view.pages.blob_id;
}
