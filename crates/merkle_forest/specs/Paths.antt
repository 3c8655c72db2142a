-- The way from a node of a forest down to a leaf below it.
--
-- In the range of 11 leaves that is drawn in `mmr`, from peak 14 down to leaf 3: (14, 13, 3), then (6, 2, 2), then (5,
-- 3, 1): each branch on the way, its child beside the way, and its height.
use Rattle.std.specs.Prelude.{◌≡◌, ℕ, zero, suc, ◌+◌, ◌^◌, nat_lt, if◌then◌else◌, List, [], ◌∷◌}
use Rattle.merkle_forest.specs.Forest.{Tree, leaf, branch, position, height, leaf_count, Rule, forest_of}
use Rattle.merkle_forest.specs.Nodes.{IsNodeAt}

-- the branches on the way from a tree, whose first leaf has the location `first`, down to the leaf at a location, from
-- the top: the position of each, that of its child beside the way, and its height
abbrev pub path_down : ℕ → ℕ → Tree → List (ℕ × ℕ × ℕ)
path_down target first (leaf p) = []
path_down target first (branch p left right) =
    if nat_lt target (first + leaf_count left)
    then (p, position right, suc (height left)) ∷ path_down target first left
    else (p, position left, suc (height left)) ∷ path_down target (first + leaf_count left) right

-- the same, where the node of a height over the leaves from a location on stands at the position that `root_of` tells
unfoldable pub path_by : (ℕ → ℕ → ℕ) → ℕ → ℕ → ℕ → List (ℕ × ℕ × ℕ)
path_by root_of target first zero = []
path_by root_of target first (suc h) =
    if nat_lt target (first + 2 ^ h)
    then (root_of first (suc h), root_of (first + 2 ^ h) h, suc h) ∷ path_by root_of target first h
    else (root_of first (suc h), root_of first h, suc h) ∷ path_by root_of target (first + 2 ^ h) h

-- this is the way down from each node of a forest of the rule that has this height and begins at this location
abbrev pub IsPathDown : Rule → ℕ → ℕ → ℕ → List (ℕ × ℕ × ℕ) → Type 0
IsPathDown rule target first h path = (n : ℕ) (node : Tree) → IsNodeAt first node (forest_of rule n) → h ≡ height node
    → path ≡ path_down target first node
