use Rattle.std.proofs.Common.{◌≡◌, ◌≤◌, ◌-◌, ℕ, List, length, take, drop}
use Rattle.paged_blob_parts.specs.Served.{AreKept, Serves}
use Rattle.paged_blob_parts.proofs.view.copy_flushed.Given as goal

abbrev pub invariant-loop-done : goal.invariant-loop-done
invariant-loop-done l = record {
  within : l.done ≤ length l.initial.out;
  bytes : (front : List ℕ) → Serves front l.cache l.pages → take l.done l.out ≡ take l.done (drop l.offset front);
  kept : AreKept l.cache l.pages l.offset l.done;
}

abbrev pub decreases-loop-done : goal.decreases-loop-done
decreases-loop-done l = length l.initial.out - l.done
