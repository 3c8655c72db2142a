-- The trees of a Merkle Mountain Range.
use Rattle.std.specs.Prelude.{◌≡◌, ℕ, zero, suc, ◌+◌, ◌-◌, ◌*◌, ◌^◌, ◌≤◌, count_ones, List, [], ◌∷◌}
use Rattle.merkle_forest.specs.Forest.{Tree, leaf, branch, height, size}

-- the position of the leaf at a location: twice the location, less the number of ones among its binary digits
abbrev pub leaf_position : ℕ → ℕ
leaf_position location = 2 * location - count_ones location

-- the position of the root over 2 ^ h leaves from a location on
abbrev pub root_position : ℕ → ℕ → ℕ
root_position first h = leaf_position first + (2 ^ suc h - 2)

-- the tree of a height whose first leaf has this position: each branch stands right after its right child
unfoldable pub mmr_tree : ℕ → ℕ → Tree
mmr_tree zero first = leaf first
mmr_tree (suc h) first =
    branch (first + (2 ^ suc (suc h) - 2)) (mmr_tree h first) (mmr_tree h (first + (2 ^ suc h - 1)))

-- each peak's nodes stand right after those of the peaks to its left, and the heights, from right to left, strictly
-- increase from this one on
abbrev pub IsRange : ℕ → List Tree → Type 0
IsRange h [] = Unit {0}
IsRange h (peak ∷ peaks) = (h ≤ height peak) × (peak ≡ mmr_tree (height peak) (size peaks))
    × IsRange (suc (height peak)) peaks
