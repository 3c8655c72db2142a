use Rattle.std.proofs.Common.{◌≡◌, ◌+◌, ◌-◌, ◌*◌, ◌≤◌, max, length, drop}
use Rattle.paged_format.specs.Footers.{content_size}
use Rattle.paged_blob_parts.specs.Stands.{listed}
use Rattle.paged_blob_parts.specs.Replays.{ReadsOn}
use Rattle.paged_blob_parts.proofs.replay.Replay.ensure.Given as goal

abbrev pub invariant-loop-self : goal.invariant-loop-self
invariant-loop-self g l = record {
  reads : ReadsOn (listed g.C.Checksum.checksum_of (g.B.Blob.calls l.fn.blob) l.fn.self.sealed.pages l.fn.self.sealed.tail.items)
      l.fn.self.next (drop l.fn.self.taken l.fn.self.held.items) l.self.next l.self.held.items;
  taken : l.self.taken ≡ 0;
  pages : l.self.sealed.pages ≡ l.fn.self.sealed.pages;
  tail : l.self.sealed.tail.items ≡ l.fn.self.sealed.tail.items;
  batch : l.self.batch ≡ l.fn.self.batch;
  most : length l.self.held.items ≤ max (length (drop l.fn.self.taken l.fn.self.held.items))
      (l.count + l.fn.self.batch * content_size l.fn.self.sealed.pages.physical_page_size);
  calls : g.B.Blob.calls l.blob ≡ g.B.Blob.calls l.fn.blob;
  failures : g.B.Blob.failures l.blob ≡ g.B.Blob.failures l.fn.blob;
  left : g.B.Blob.left l.blob ≤ g.B.Blob.left l.fn.blob;
}

abbrev pub decreases-loop-self : goal.decreases-loop-self
decreases-loop-self g l = l.self.sealed.pages.len + length l.self.sealed.tail.items - l.self.next
