use Rattle.std.proofs.Common.{◌≡◌, ◌+◌, ◌-◌, ◌≤◌, true}
use Rattle.merkle_forest.specs.Forest.{forest_of}
use Rattle.merkle_forest.specs.Trees.{located, inactive_peaks}
use Rattle.merkle_forest.specs.Peaks.{located_from, is_cut}
use Rattle.merkle_forest.proofs.peaks.inactive_count.Given as goal

abbrev pub invariant-loop-first : goal.invariant-loop-first
invariant-loop-first g l = record {
  within : l.first ≤ l.leaves;
  small : l.count ≤ l.first;
  cut : is_cut l.first (forest_of g.F.Family.merge_rule l.leaves) ≡ true;
  counted : l.count + inactive_peaks l.floor (located_from l.first (forest_of g.F.Family.merge_rule l.leaves))
      ≡ inactive_peaks l.floor (located (forest_of g.F.Family.merge_rule l.leaves));
}

abbrev pub decreases-loop-first : goal.decreases-loop-first
decreases-loop-first g l = l.leaves - l.first
