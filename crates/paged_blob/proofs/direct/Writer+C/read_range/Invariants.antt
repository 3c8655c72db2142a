use Rattle.std.proofs.Common.{◌≡◌, ◌-◌, ◌≤◌, take, drop}
use Rattle.paged_format.specs.Pages.{recovered}
use Rattle.paged_blob_parts.specs.Calls.{content}
use Rattle.paged_blob.proofs.direct.Writer+C.read_range.Given as goal

abbrev pub invariant-loop-at : goal.invariant-loop-at
invariant-loop-at g l = record {
  from : l.offset ≤ l.at;
  within : l.at ≤ l.end;
  bytes : l.bytes.items ≡ take (l.at - l.offset) (drop l.offset
      (recovered g.C.Checksum.checksum_of l.physical_page_size (content (g.B.Blob.calls l.fn.blob))));
  calls : g.B.Blob.calls l.blob ≡ g.B.Blob.calls l.fn.blob;
  failures : g.B.Blob.failures l.blob ≡ g.B.Blob.failures l.fn.blob;
  left : g.B.Blob.left l.blob ≤ g.B.Blob.left l.fn.blob;
}

abbrev pub decreases-loop-at : goal.decreases-loop-at
decreases-loop-at g l = l.end - l.at
