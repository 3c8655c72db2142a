-- The trees of a Merkle Mountain Belt.
use Rattle.std.specs.Prelude.{◌≡◌, ℕ, zero, suc, ◌+◌, ◌-◌, ◌*◌, ◌/◌, ◌%◌, ◌^◌, List, [], ◌∷◌}
use Rattle.merkle_forest.specs.Forest.{Tree, leaf, branch, size, leaves, forest_of, mmb_rule}

-- the position of the leaf at a location: how many nodes the forest of the leaves before it has
abbrev pub leaf_position : ℕ → ℕ
leaf_position location = size (forest_of mmb_rule location)

-- the leaf count at which the node of height h over the leaves from a location on is born: a leaf comes by itself, and
-- a branch once the leaves after it are half as many as its own, less one
abbrev pub birth : ℕ → ℕ → ℕ
birth first zero = first + 1
birth first (suc h) = first + (3 * 2 ^ h - 1)

-- the position of that node: a branch stands right after the last leaf before its birth
abbrev pub root_position : ℕ → ℕ → ℕ
root_position first zero = leaf_position first
root_position first (suc h) = suc (leaf_position (first + (3 * 2 ^ h - 2)))

-- the tree of a height over the leaves from a location on
unfoldable pub mmb_tree : ℕ → ℕ → Tree
mmb_tree zero first = leaf (leaf_position first)
mmb_tree (suc h) first = branch (root_position first (suc h)) (mmb_tree h first) (mmb_tree h (first + 2 ^ h))

-- The peaks, from right to left, that the binary digits of m stand for, of which the lowest is the one at this index:
-- a peak for each digit but the highest, as high as its index, or one higher where the digit is 1.
abbrev pub IsBelt : ℕ → ℕ → List Tree → Type 0
IsBelt index m [] = m ≡ 1
IsBelt index m (peak ∷ peaks) = (peak ≡ mmb_tree (index + m % 2) (leaves peaks)) × IsBelt (suc index) (m / 2) peaks
