use Rattle.std.proofs.Common.{◌≡◌, ◌≤◌, take}
use Rattle.paged_blob_parts.specs.CachedContent.{KeepsOthers}
use Rattle.paged_blob_parts.specs.Reads.{StaysKept}
use Rattle.paged_blob_parts.specs.Stands.{on_blob, listed}
use Rattle.paged_blob_parts.specs.Served.{slices, total}
use Rattle.paged_blob_parts.proofs.view.View.read_ranges_into.Given as goal

abbrev pub invariant-loop-offset : goal.invariant-loop-offset
invariant-loop-offset g l = record {
  done : l.done ≡ total (take l.offset-index l.ranges);
  bytes : take l.done l.out ≡ slices (listed g.C.Checksum.checksum_of (g.B.Blob.calls l.fn.blob) l.self.pages l.self.tail.now)
      (take l.offset-index l.ranges);
  served : l.served ≤ l.offset-index;
  kept : StaysKept (on_blob g.C.Checksum.checksum_of (g.B.Blob.calls l.fn.blob) l.self.pages) l.initial.cache l.cache l.self.pages.blob_id;
  others : KeepsOthers l.initial.cache l.cache l.self.pages.blob_id;
  same : l.cache ≡ record l.initial.cache { pages = l.cache.pages };
  calls : g.B.Blob.calls l.blob ≡ g.B.Blob.calls l.fn.blob;
  failures : g.B.Blob.failures l.blob ≡ g.B.Blob.failures l.fn.blob;
  left : g.B.Blob.left l.blob ≤ g.B.Blob.left l.fn.blob;
}
