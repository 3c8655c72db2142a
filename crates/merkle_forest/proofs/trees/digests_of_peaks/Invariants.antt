use Rattle.std.proofs.Common.{◌≡◌, ◌+◌, length, map, drop}
use Rattle.merkle_forest.specs.Forest.{leaves}
use Rattle.merkle_forest.specs.Shape.{shape}
use Rattle.merkle_forest.specs.Trees.{peak_digests}
use Rattle.merkle_forest.proofs.trees.digests_of_peaks.Given as goal

abbrev pub invariant-loop-index : goal.invariant-loop-index
invariant-loop-index g l = record {
  digests : map g.D.Write.encoding l.found.items
      ≡ peak_digests (g.T.TreeDigests.digest_at l.digests) (map shape (drop l.index l.peaks));
  start : l.start ≡ leaves (map shape (drop l.index l.peaks));
  count : length l.found.items + l.index ≡ length l.peaks;
}
