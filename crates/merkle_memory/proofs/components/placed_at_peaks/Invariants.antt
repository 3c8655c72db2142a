use Rattle.std.proofs.Common.{◌≡◌, ◌≤◌, ◌+◌, ◌-◌, ◌++◌, true, length, map, drop}
use Rattle.merkle_forest.specs.Forest.{forest_of}
use Rattle.merkle_forest.specs.Peaks.{is_cut, positions_from}
use Rattle.merkle_core_parts.specs.Mem.{encoded, pinned_positions, placed}
use Rattle.merkle_memory.proofs.components.placed_at_peaks.Given as goal

abbrev pub invariant-loop-first : goal.invariant-loop-first
invariant-loop-first g l = record {
  cut : is_cut l.first (forest_of g.F.Family.merge_rule l.leaves) ≡ true;
  within : l.first ≤ l.leaves;
  counted : length l.found.items + length (positions_from l.first (forest_of g.F.Family.merge_rule l.leaves))
      ≡ length l.digests;
  rest : encoded g.D.Write.encoding l.found.items
      ++ placed (map (λ peak. peak.0) (positions_from l.first (forest_of g.F.Family.merge_rule l.leaves)))
      (drop (length l.found.items) (map g.D.Write.encoding l.digests))
      ≡ placed (pinned_positions g.F.Family.merge_rule l.leaves) (map g.D.Write.encoding l.digests);
}

abbrev pub decreases-loop-first : goal.decreases-loop-first
decreases-loop-first g l = l.leaves - l.first
