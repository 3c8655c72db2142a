use Rattle.std.proofs.Common.{◌<◌, ◌≤◌, ◌+◌, ◌-◌, ◌^◌, ℕ}
use Rattle.merkle_forest.specs.Forest.{size, forest_of}
use Rattle.merkle_forest.proofs.sizes.greatest_leaf_count.Given as goal

abbrev pub invariant-loop-above : goal.invariant-loop-above
invariant-loop-above g l = record {
  apart : l.low < l.above;
  valid : l.above ≤ 2 ^ 62 + 1;
  within : size (forest_of g.F.Family.merge_rule l.low) ≤ l.nodes;
  greatest : (n : ℕ) → n ≤ 2 ^ 62 → size (forest_of g.F.Family.merge_rule n) ≤ l.nodes → n < l.above;
}

abbrev pub decreases-loop-above : goal.decreases-loop-above
decreases-loop-above g l = l.above - l.low
