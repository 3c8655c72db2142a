use Rattle.std.proofs.Common.{◌≡◌}
use Rattle.paged_format.specs.Footers.{content_size}
use Rattle.paged_blob_parts.specs.CachedContent.{HoldsPagesOf}
use Rattle.paged_blob_parts.specs.Writers.{written}
use Rattle.disk_bench.proofs.pages.work.read_often.Given as goal

abbrev pub invariant-loop : goal.invariant-loop
invariant-loop g l = record {
  calls : g.B.Blob.calls l.disk ≡ g.B.Blob.calls l.fn.disk;
  pages : l.cache.page_size ≡ content_size l.fn.writer.page_size;
  cached : HoldsPagesOf (written g.C.Checksum.checksum_of (g.B.Blob.calls l.disk) l.fn.writer) l.cache l.fn.writer.blob_id;
}
