use Rattle.std.proofs.Common.{◌≡◌, ◌+◌, ◌++◌, length}
use Rattle.paged_blob_parts.specs.Flushes.{flushed_bytes, page_count, physical_size, SumsFit}
use Rattle.paged_blob_parts.proofs.flush.physical_bytes.Given as goal

abbrev pub invariant-loop-rest : goal.invariant-loop-rest
invariant-loop-rest g l = record {
  bytes : l.pages.items ++ flushed_bytes g.C.Checksum.checksum_of l.page_size l.stays l.rest
      ≡ flushed_bytes g.C.Checksum.checksum_of l.page_size l.fn.kept l.fn.content;
  long : length l.pages.items + physical_size l.page_size (length l.rest) ≡ physical_size l.page_size (length l.fn.content);
  fits : SumsFit g.C.Checksum.checksum_of l.page_size (page_count l.page_size (length l.rest)) l.rest
      → SumsFit g.C.Checksum.checksum_of l.page_size (page_count l.page_size (length l.fn.content)) l.fn.content;
}

abbrev pub decreases-loop-rest : goal.decreases-loop-rest
decreases-loop-rest g l = length l.rest
