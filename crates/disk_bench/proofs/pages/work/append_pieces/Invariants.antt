use Rattle.std.proofs.Common.{◌≡◌}
use Rattle.paged_format.specs.Footers.{content_size}
use Rattle.paged_blob_parts.specs.CachedContent.{HoldsPagesOf}
use Rattle.paged_blob_parts.specs.Writers.{IsWriter, written}
use Rattle.disk_bench.proofs.pages.work.append_pieces.Given as goal

abbrev pub invariant-loop-k : goal.invariant-loop-k
invariant-loop-k g l = record {
  writer : IsWriter g.C.Checksum.checksum_of (g.B.Blob.calls l.disk) l.writer;
  pages : l.cache.page_size ≡ content_size l.writer.page_size;
  cached : HoldsPagesOf (written g.C.Checksum.checksum_of (g.B.Blob.calls l.disk) l.writer) l.cache l.writer.blob_id;
}
