use Rattle.std.proofs.Common.{◌≡◌, ◌≤◌, ◌-◌, length, take, drop}
use Rattle.paged_blob_parts.specs.CachedContent.{KeepsOthers}
use Rattle.paged_blob_parts.specs.Reads.{flushed, StaysKept}
use Rattle.paged_blob_parts.proofs.read.read_flushed.Given as goal

abbrev pub invariant-loop-done : goal.invariant-loop-done
invariant-loop-done g l = record {
  within : l.done ≤ length l.out;
  bytes : take l.done l.out ≡ take l.done (drop l.offset
      (flushed g.C.Checksum.checksum_of l.pages.physical_page_size (g.B.Blob.calls l.fn.blob) l.pages.len));
  kept : StaysKept (flushed g.C.Checksum.checksum_of l.pages.physical_page_size (g.B.Blob.calls l.fn.blob) l.pages.len)
      l.initial.cache l.cache l.pages.blob_id;
  others : KeepsOthers l.initial.cache l.cache l.pages.blob_id;
  same : l.cache ≡ record l.initial.cache { pages = l.cache.pages };
  calls : g.B.Blob.calls l.blob ≡ g.B.Blob.calls l.fn.blob;
  failures : g.B.Blob.failures l.blob ≡ g.B.Blob.failures l.fn.blob;
  left : g.B.Blob.left l.blob ≤ g.B.Blob.left l.fn.blob;
}

abbrev pub decreases-loop-done : goal.decreases-loop-done
decreases-loop-done g l = length l.initial.out - l.done
