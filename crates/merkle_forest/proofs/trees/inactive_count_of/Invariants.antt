use Rattle.std.proofs.Common.{◌≡◌, ◌+◌, drop}
use Rattle.merkle_forest.specs.Trees.{inactive_peaks, Within}
use Rattle.merkle_forest.specs.TreesCode.{shapes}
use Rattle.merkle_forest.proofs.trees.inactive_count_of.Given as goal

abbrev pub invariant-loop-start : goal.invariant-loop-start
invariant-loop-start l = record {
  count : l.count ≡ l.start-index;
  total : inactive_peaks l.floor (shapes l.peaks) ≡ l.count + inactive_peaks l.floor (shapes (drop l.start-index l.peaks));
  within : Within 18446744073709551615 (shapes (drop l.start-index l.peaks));
}
