use Rattle.std.proofs.Common.{◌≡◌, ◌-◌, map}
use Rattle.merkle_forest.specs.Forest.{size, leaves, peaks_after_merges}
use Rattle.merkle_forest.specs.Shape.{shape}
use Rattle.merkle_forest.proofs.forest.merge_all.Given as goal

abbrev pub invariant-loop-merges : goal.invariant-loop-merges
invariant-loop-merges g l = record {
  merges_all : peaks_after_merges g.F.Family.merge_rule (l.room - l.merges) l.merges (map shape l.peaks.items)
      ≡ peaks_after_merges g.F.Family.merge_rule l.room 0 (map shape l.fn.peaks.items);
  sizes : l.nodes ≡ size (map shape l.peaks.items);
  kept : leaves (map shape l.peaks.items) ≡ leaves (map shape l.fn.peaks.items);
}
