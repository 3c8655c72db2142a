use Rattle.std.proofs.Common.{◌≡◌, ◌++◌, ℕ, List, take}
use Rattle.paged_blob_parts.specs.Served.{Serves, AreServed, total}
use Rattle.paged_blob_parts.proofs.view.View.try_read_ranges_sync_into.Given as goal

abbrev pub invariant-loop-offset : goal.invariant-loop-offset
invariant-loop-offset g l = record {
  done : l.done ≡ total (take l.offset-index l.ranges);
  index : l.index ≡ l.offset-index;
  served : (front : List ℕ) → Serves front l.cache l.self.pages
      → AreServed l.cache l.self.pages (front ++ l.self.tail.now) 0 (take l.offset-index l.ranges) (take l.done l.out) l.missing.items;
}
