use Rattle.std.proofs.Common.{◌≡◌, ◌≤◌, ◌*◌, ◌++◌, take, drop}
use Rattle.paged_format.specs.Footers.{content_size}
use Rattle.paged_blob_parts.specs.Stands.{on_blob}
use Rattle.paged_blob_parts.proofs.replay.append_pages.Given as goal

abbrev pub invariant-loop-k : goal.invariant-loop-k
invariant-loop-k g l = record {
  bytes : l.held.items ≡ l.fn.held.items ++ take (l.k * content_size l.pages.physical_page_size)
      (drop (l.page * content_size l.pages.physical_page_size) (on_blob g.C.Checksum.checksum_of (g.B.Blob.calls l.fn.blob) l.pages));
  calls : g.B.Blob.calls l.blob ≡ g.B.Blob.calls l.fn.blob;
  failures : g.B.Blob.failures l.blob ≡ g.B.Blob.failures l.fn.blob;
  left : g.B.Blob.left l.blob ≤ g.B.Blob.left l.fn.blob;
}
