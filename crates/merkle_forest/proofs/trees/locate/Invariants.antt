use Rattle.std.proofs.Common.{◌≡◌, ◌+◌, length, map, drop}
use Rattle.merkle_forest.specs.Forest.{leaves}
use Rattle.merkle_forest.specs.Shape.{shape}
use Rattle.merkle_forest.specs.Trees.{located}
use Rattle.merkle_forest.specs.TreesCode.{shapes}
use Rattle.merkle_forest.proofs.trees.locate.Given as goal

abbrev pub invariant-loop-index : goal.invariant-loop-index
invariant-loop-index l = record {
  located : shapes l.found.items ≡ located (map shape (drop l.index l.peaks));
  start : l.start ≡ leaves (map shape (drop l.index l.peaks));
  count : length l.found.items + l.index ≡ length l.peaks;
}
