use Rattle.std.proofs.Common.{◌≡◌, ◌≤◌, ◌+◌, ◌++◌, ℕ, length, take, drop}
use Rattle.paged_blob_parts.specs.CachedContent.{HoldsPagesOf, KeepsOthers}
use Rattle.paged_blob_parts.specs.Moments.{Through}
use Rattle.paged_blob_parts.specs.Writers.{IsWriter, Keeps, written}
use Rattle.paged_blob.specs.Completed.{completed_syncs}
use Rattle.paged_blob.proofs.writer.Writer.extend.Given as goal

abbrev pub invariant-loop-rest : goal.invariant-loop-rest
invariant-loop-rest g l = record {
  done : ℕ;
  within : done ≤ length l.fn.bytes;
  rest : l.rest ≡ drop done l.fn.bytes;
  writer : IsWriter g.C.Checksum.checksum_of (g.B.Blob.calls l.blob) l.self;
  content : written g.C.Checksum.checksum_of (g.B.Blob.calls l.blob) l.self
      ≡ written g.C.Checksum.checksum_of (g.B.Blob.calls l.initial.blob) l.initial.self ++ take done l.fn.bytes;
  moments : Through (Keeps g.C.Checksum.checksum_of l.initial.self.page_size
      (written g.C.Checksum.checksum_of (g.B.Blob.calls l.initial.blob) l.initial.self ++ l.fn.bytes) l.initial.self.synced)
      (g.B.Blob.calls l.initial.blob) (g.B.Blob.calls l.blob);
  synced : l.self.synced ≡ l.initial.self.synced;
  page_size : l.self.page_size ≡ l.initial.self.page_size;
  blob_id : l.self.blob_id ≡ l.initial.self.blob_id;
  capacity : l.self.tip.capacity ≡ l.initial.self.tip.capacity;
  failures : g.B.Blob.failures l.blob ≡ g.B.Blob.failures l.initial.blob;
  left : g.B.Blob.left l.blob ≤ g.B.Blob.left l.initial.blob;
  syncs : completed_syncs (g.B.Blob.calls l.blob) ≡ completed_syncs (g.B.Blob.calls l.initial.blob);
  cache : l.cache ≡ record l.initial.cache { pages = l.cache.pages };
  cached : HoldsPagesOf (written g.C.Checksum.checksum_of (g.B.Blob.calls l.initial.blob) l.initial.self) l.initial.cache l.initial.self.blob_id
      → HoldsPagesOf (written g.C.Checksum.checksum_of (g.B.Blob.calls l.blob) l.self) l.cache l.initial.self.blob_id;
  others : KeepsOthers l.initial.cache l.cache l.initial.self.blob_id;
}

abbrev pub decreases-loop-rest : goal.decreases-loop-rest
decreases-loop-rest g l = length l.rest + length l.self.tip.bytes
