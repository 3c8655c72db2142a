-- Where a peak ends.
use Rattle.std.specs.Prelude.{◌≡◌, ℕ, ◌+◌, List}
use Rattle.merkle_forest.specs.Forest.{Tree, leaf_count}
use Rattle.merkle_forest.specs.Nodes.{IsPeakAt}

-- the peak that begins at a location ends before this one
pub record IsPeakEnd (peaks : List Tree) (first end : ℕ) : Type 0 where
  pub node : Tree
  pub stands : IsPeakAt first node peaks
  pub leaves : end ≡ first + leaf_count node
