use Rattle.std.proofs.Common.{◌≡◌, ◌≤◌, ◌+◌, ◌*◌, length, drop, ℕ}
use Rattle.paged_blob_parts.specs.Caches.{AreGiven}
use Rattle.paged_blob_parts.proofs.cache.CacheRef.cache.Given as goal

abbrev pub invariant-loop-rest : goal.invariant-loop-rest
invariant-loop-rest l = record {
  count : ℕ;
  number : l.number ≡ l.first + count;
  rest : l.rest ≡ drop (count * l.size) l.fn.bytes;
  reached : count * l.size + length l.rest ≡ length l.fn.bytes;
  pages : AreGiven l.initial.self.pages l.self.pages l.blob_id l.first l.size l.fn.bytes count;
  few : length l.self.pages ≤ l.self.capacity;
  same : l.self ≡ record l.initial.self { pages = l.self.pages };
}

abbrev pub decreases-loop-rest : goal.decreases-loop-rest
decreases-loop-rest l = length l.rest
