use Rattle.std.proofs.Common.{◌≡◌, map, take}
use Rattle.merkle_forest.specs.Forest.{height}
use Rattle.merkle_forest.specs.Shape.{shape}
use Rattle.merkle_forest.proofs.forest.heights_of.Given as goal

abbrev pub invariant-loop-peak : goal.invariant-loop-peak
invariant-loop-peak l = l.heights.items ≡ map height (map shape (take l.peak-index l.peaks))
