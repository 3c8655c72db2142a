-- Trees that stand at subtrees, and a walk over the peaks of a forest from left to right.
use Rattle.std.specs.Prelude.{◌≡◌, ℕ, ◌+◌, ◌≤◌, ◌^◌}
use Rattle.merkle_forest.specs.Forest.{Tree, position, height, leaf_count, Rule, forest_of}
use Rattle.merkle_forest.specs.Nodes.{IsNodeAt, IsPeakAt}

-- the tree at this subtree: a node of a forest of the rule
pub record IsTreeAt (rule : Rule) (first at high : ℕ) (node : Tree) : Type 0 where
  pub leaf_total : ℕ
  pub few : leaf_total ≤ 2 ^ 62
  pub stands : IsNodeAt first node (forest_of rule leaf_total)
  pub subtree : at ≡ position node
  pub level : high ≡ height node

-- some tree stands at this subtree
abbrev pub HasTree : Rule → ℕ → ℕ → ℕ → Type 0
HasTree rule first at high = (node : Tree) × IsTreeAt rule first at high node

-- the peak that begins at `first` stands at this subtree, and the next one begins after its last leaf
pub record IsPeakFrom (rule : Rule) (leaves first begins at high end : ℕ) : Type 0 where
  pub node : Tree
  pub stands : IsPeakAt first node (forest_of rule leaves)
  pub tree : IsTreeAt rule begins at high node
  pub same : begins ≡ first
  pub next : end ≡ first + leaf_count node
