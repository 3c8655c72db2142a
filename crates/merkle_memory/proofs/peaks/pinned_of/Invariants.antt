use Rattle.std.proofs.Common.{◌≡◌, ◌≤◌, ◌-◌, ◌++◌, [], true, map}
use Rattle.std.specs.Prelude.{unwrap_or}
use Rattle.merkle_forest.specs.Forest.{forest_of}
use Rattle.merkle_forest.specs.Peaks.{is_cut, positions_from}
use Rattle.merkle_core_parts.specs.Mem.{encoded, node_at, pinned_digests}
use Rattle.merkle_memory.proofs.peaks.pinned_of.Given as goal

abbrev pub invariant-loop-first : goal.invariant-loop-first
invariant-loop-first g l = record {
  cut : is_cut l.first (forest_of g.F.Family.merge_rule l.leaves) ≡ true;
  within : l.first ≤ l.leaves;
  rest : encoded g.D.Write.encoding l.found.items
      ++ map (λ peak. (peak.0, unwrap_or (node_at g.F.Family.merge_rule l.tree peak.0) []))
      (positions_from l.first (forest_of g.F.Family.merge_rule l.leaves))
      ≡ pinned_digests g.F.Family.merge_rule l.tree l.leaves;
}

abbrev pub decreases-loop-first : goal.decreases-loop-first
decreases-loop-first g l = l.leaves - l.first
