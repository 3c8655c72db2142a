use Rattle.std.proofs.Common.{◌≡◌, map}
use Rattle.merkle_forest.specs.Forest.{size, leaves, forest_of}
use Rattle.merkle_forest.specs.Shape.{shape}
use Rattle.merkle_forest.proofs.forest.grow.Given as goal

abbrev pub invariant-loop : goal.invariant-loop
invariant-loop g l = record {
  grown : map shape l.peaks.items ≡ forest_of g.F.Family.merge_rule l.counter;
  sized : l.nodes ≡ size (map shape l.peaks.items);
  counted : leaves (map shape l.peaks.items) ≡ l.counter;
}
