use Rattle.std.proofs.Common.{◌≡◌, ◌≤◌, ◌+◌, ◌-◌, ◌*◌, length, take, drop, IsFalse}
use Rattle.paged_format.specs.Footers.{content_size}
use Rattle.paged_format.specs.Pages.{recovered}
use Rattle.paged_blob_parts.specs.Calls.{content, file_of}
use Rattle.paged_blob_parts.proofs.scan.prefix_of_blob_at_most.Given as goal

abbrev pub invariant-loop-page : goal.invariant-loop-page
invariant-loop-page g l = record {
  within : l.page ≤ l.pages;
  calls : g.B.Blob.calls l.blob ≡ g.B.Blob.calls l.fn.blob;
  failures : g.B.Blob.failures l.blob ≡ g.B.Blob.failures l.fn.blob;
  left : g.B.Blob.left l.blob ≤ g.B.Blob.left l.fn.blob;
  known : IsFalse (file_of (g.B.Blob.calls l.fn.blob)).failed
      → length (recovered g.C.Checksum.checksum_of l.physical_page_size (take l.blob_size (content (g.B.Blob.calls l.fn.blob))))
      ≡ l.page * content_size l.physical_page_size + length (recovered g.C.Checksum.checksum_of l.physical_page_size
      (drop (l.page * l.physical_page_size) (take l.blob_size (content (g.B.Blob.calls l.fn.blob)))));
}

abbrev pub decreases-loop-page : goal.decreases-loop-page
decreases-loop-page g l = l.pages - l.page
