-- The maximal nodes over the leaves of a range.
use Rattle.std.specs.Prelude.{◌≡◌, ◌&&◌, ℕ, ◌+◌, ◌*◌, ◌≤◌, ◌^◌}
use Rattle.std.specs.Prelude.{Bool, nat_le, if◌then◌else◌, List, [], ◌∷◌, ◌++◌, map}
use Rattle.merkle_forest.specs.Forest.{Tree, leaf, branch, leaf_count, size, leaves, Rule, forest_of}
use Rattle.merkle_forest.specs.Trees.{Located}
use Rattle.merkle_forest.specs.Nodes.{IsWithin, IsNodeAt}
use Rattle.merkle_forest.specs.Peaks.{position_and_height}

-- the leaves of the tree that starts at `start` all have locations from `from` on and before `to`
abbrev pub is_inside : ℕ → ℕ → ℕ → Tree → Bool
is_inside from to start tree = nat_le from start && nat_le (start + leaf_count tree) to

-- the tree itself where its leaves all stand in the range, else such nodes below it, from left to right
abbrev pub maximal_in_tree : ℕ → ℕ → ℕ → Tree → List Located
maximal_in_tree from to start (leaf p) = if is_inside from to start (leaf p) then (start, leaf p) ∷ [] else []
maximal_in_tree from to start (branch p left right) =
    if is_inside from to start (branch p left right) then (start, branch p left right) ∷ []
    else maximal_in_tree from to start left ++ maximal_in_tree from to (start + leaf_count left) right

-- the maximal nodes of a forest whose leaves all stand in the range, from left to right
abbrev pub maximal_nodes : ℕ → ℕ → List Tree → List Located
maximal_nodes from to [] = []
maximal_nodes from to (peak ∷ peaks) = maximal_nodes from to peaks ++ maximal_in_tree from to (leaves peaks) peak

-- their positions and heights
abbrev pub maximal_positions : ℕ → ℕ → List Tree → List (ℕ × ℕ)
maximal_positions from to peaks = map position_and_height (maximal_nodes from to peaks)

-- these are the maximal nodes over the chunk of that number, of 2 ^ level leaves, in the forest of so many nodes
abbrev pub AreChunkPeaks : Rule → ℕ → ℕ → ℕ → List (ℕ × ℕ) → Type 0
AreChunkPeaks rule nodes chunk level positions =
    (n : ℕ) → n ≤ 2 ^ 62 → nodes ≡ size (forest_of rule n)
    → positions ≡ maximal_positions (chunk * 2 ^ level) (chunk * 2 ^ level + 2 ^ level) (forest_of rule n)

-- a node whose leaves all stand in the range, and there is no other such node that it stands below
pub record IsMaximalNode (from to : ℕ) (peaks : List Tree) (first : ℕ) (node : Tree) : Type 0 where
  pub stands : IsNodeAt first node peaks
  pub low : from ≤ first
  pub high : first + leaf_count node ≤ to
  pub top : (start : ℕ) (other : Tree) → IsNodeAt start other peaks → from ≤ start → start + leaf_count other ≤ to
      → IsWithin first node start other → other ≡ node
