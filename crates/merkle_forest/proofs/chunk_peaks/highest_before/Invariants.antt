use Rattle.std.proofs.Common.{ℕ, ◌+◌, ◌^◌, ◌≤◌}
use Rattle.merkle_forest.specs.Forest.{forest_of}
use Rattle.merkle_forest.specs.Nodes.{HasNode}
use Rattle.merkle_forest.proofs.chunk_peaks.highest_before.Given as goal

abbrev pub invariant-loop-height : goal.invariant-loop-height
invariant-loop-height g l = record {
  fits : l.first + 2 ^ l.height ≤ l.end;
  highest : (h : ℕ) → HasNode (forest_of g.F.Family.merge_rule l.leaves) l.first h → l.first + 2 ^ h ≤ l.end
      → h ≤ l.height;
}

abbrev pub decreases-loop-height : goal.decreases-loop-height
decreases-loop-height g l = l.height
