use Rattle.std.proofs.Common.{◌≤◌, ◌-◌, ℕ, suc, length, drop}
use Rattle.merkle_core_parts.specs.Mem.{encoded}
use Rattle.merkle_core_parts.specs.Laws.Replaced.{AreFrom}
use Rattle.merkle_core_parts.specs.Laws.Rebuilt.{IsDue, AreTakenTo}
use Rattle.merkle_memory.proofs.rebuild.taken.Given as goal

abbrev pub invariant-loop-digest : goal.invariant-loop-digest
invariant-loop-digest g l = record {
  within : l.after ≤ length l.updates;
  taken : (boundary : ℕ) → AreFrom l.location (drop l.next (encoded g.D.Write.encoding l.updates))
      → AreFrom boundary (drop l.next (encoded g.D.Write.encoding l.updates))
      → IsDue (suc l.location) (drop l.next (encoded g.D.Write.encoding l.updates))
      → AreTakenTo l.location boundary (drop l.next (encoded g.D.Write.encoding l.updates))
      (drop l.after (encoded g.D.Write.encoding l.updates)) (g.D.Write.encoding l.digest);
}

abbrev pub decreases-loop-digest : goal.decreases-loop-digest
decreases-loop-digest g l = length l.updates - l.after
