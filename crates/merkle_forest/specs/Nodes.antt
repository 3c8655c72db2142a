-- Which nodes a forest has. A node is told by the location of the first leaf below it, or by its position, together
-- with its height.
use Rattle.std.specs.Prelude.{◌≡◌, ◌==◌, ℕ, suc, ◌+◌, ◌≤◌, ◌^◌}
use Rattle.std.specs.Prelude.{◌⊎◌, ◌↔◌, if◌then◌else◌, List, [], ◌∷◌, length}
use Rattle.std.specs.Prelude.{slice_get, Some}
use Rattle.merkle_forest.specs.Forest.{Tree, leaf, branch, position, height, leaf_count, size, leaves, Rule, forest_of}

-- the first tree, whose first leaf has the location `first`, is the second one, whose first leaf has the location
-- `start`, or stands in it
abbrev pub IsWithin : ℕ → Tree → ℕ → Tree → Type 0
IsWithin first node start (leaf p) = (first ≡ start) × (node ≡ leaf p)
IsWithin first node start (branch p left right) =
    ((first ≡ start) × (node ≡ branch p left right))
    ⊎ (IsWithin first node start left ⊎ IsWithin first node (start + leaf_count left) right)

-- a node of the forest of these peaks
abbrev pub IsNodeAt : ℕ → Tree → List Tree → Type 0
IsNodeAt first node [] = ⊥
IsNodeAt first node (peak ∷ peaks) = IsWithin first node (leaves peaks) peak ⊎ IsNodeAt first node peaks

-- a peak
abbrev pub IsPeakAt : ℕ → Tree → List Tree → Type 0
IsPeakAt first node [] = ⊥
IsPeakAt first node (peak ∷ peaks) = ((first ≡ leaves peaks) × (node ≡ peak)) ⊎ IsPeakAt first node peaks

-- the branch at position p, of height h, over these two trees is a node of a forest of the rule
pub record IsBranchOf (rule : Rule) (p h : ℕ) (left right : Tree) : Type 0 where
  pub leaf_total : ℕ
  pub few : leaf_total ≤ 2 ^ 62
  pub first : ℕ
  pub stands : IsNodeAt first (branch p left right) (forest_of rule leaf_total)
  pub high : h ≡ suc (height left)

-- these are the positions of the two children of the branch at position p, of height h
abbrev pub AreChildren : Rule → ℕ → ℕ → ℕ → ℕ → Type 0
AreChildren rule p h at_left at_right = (left right : Tree) → IsBranchOf rule p h left right
    → (at_left ≡ position left) × (at_right ≡ position right)

-- there is such a branch
abbrev pub HasBranch : Rule → ℕ → ℕ → Type 0
HasBranch rule p h = (left : Tree) × (right : Tree) × IsBranchOf rule p h left right

-- the peak that begins at a location has this position and this height
abbrev pub IsPositionOfPeak : List Tree → ℕ → ℕ → ℕ → Type 0
IsPositionOfPeak peaks first p h = (peak : Tree) → IsPeakAt first peak peaks → (p ≡ position peak) × (h ≡ height peak)

-- a peak begins at this location
abbrev pub HasPeak : List Tree → ℕ → Type 0
HasPeak peaks first = (peak : Tree) × IsPeakAt first peak peaks

-- the node count of a forest of the rule
abbrev pub IsSize : Rule → ℕ → Type 0
IsSize rule s = (n : ℕ) × (n ≤ 2 ^ 62) × (s ≡ size (forest_of rule n))

-- a node of height h whose first leaf has the location `first`
abbrev pub HasNode : List Tree → ℕ → ℕ → Type 0
HasNode peaks first h = (node : Tree) × IsNodeAt first node peaks × (h ≡ height node)

-- a forest of the rule has such a node
abbrev pub IsSubtree : Rule → ℕ → ℕ → Type 0
IsSubtree rule first h = (n : ℕ) × (n ≤ 2 ^ 62) × HasNode (forest_of rule n) first h

-- in every forest of the rule such a node has this position
abbrev pub IsPositionOfNode : Rule → ℕ → ℕ → ℕ → Type 0
IsPositionOfNode rule first h p = (n : ℕ) (node : Tree) → n ≤ 2 ^ 62 → IsNodeAt first node (forest_of rule n)
    → h ≡ height node → p ≡ position node

-- the forests that have such a node are those of so many leaves or more
abbrev pub IsBirth : Rule → ℕ → ℕ → ℕ → Type 0
IsBirth rule first h birth = (n : ℕ) → (HasNode (forest_of rule n) first h ↔ (birth ≤ n))

-- a node of height h at position p
abbrev pub HasNodeAtPosition : List Tree → ℕ → ℕ → Type 0
HasNodeAtPosition peaks p h = (first : ℕ) × (node : Tree) × IsNodeAt first node peaks × (p ≡ position node)
    × (h ≡ height node)

-- a forest of the rule has such a node
abbrev pub StandsAt : Rule → ℕ → ℕ → Type 0
StandsAt rule p h = (n : ℕ) × (n ≤ 2 ^ 62) × HasNodeAtPosition (forest_of rule n) p h

-- the forests that have such a node are those of so many leaves or more
abbrev pub IsBirthAt : Rule → ℕ → ℕ → ℕ → Type 0
IsBirthAt rule p h birth = (n : ℕ) → n ≤ 2 ^ 62 → (HasNodeAtPosition (forest_of rule n) p h ↔ (birth ≤ n))

-- the first leaf below the node of height h at position p has this location
abbrev pub IsFirstLeaf : Rule → ℕ → ℕ → ℕ → Type 0
IsFirstLeaf rule p h location = (n first : ℕ) (node : Tree) → n ≤ 2 ^ 62 → IsNodeAt first node (forest_of rule n)
    → p ≡ position node → h ≡ height node → location ≡ first

-- every node at position p has height h
abbrev pub IsHeightAt : Rule → ℕ → ℕ → Type 0
IsHeightAt rule p h = (n first : ℕ) (node : Tree) → n ≤ 2 ^ 62 → IsNodeAt first node (forest_of rule n)
    → p ≡ position node → h ≡ height node

-- The heights of the parents that are born with the leaf after n leaves, in order of birth: those of the nodes that
-- stand after it in the forest which it makes.
abbrev pub AreParents : Rule → ℕ → List ℕ → Type 0
AreParents rule n heights = (suc (size (forest_of rule n)) + length heights ≡ size (forest_of rule (suc n)))
    × ((i h : ℕ) → slice_get heights i ≡ Some h
    → HasNodeAtPosition (forest_of rule (suc n)) (suc (size (forest_of rule n)) + i) h)

-- how many nodes of a height a tree has
abbrev pub nodes_at : ℕ → Tree → ℕ
nodes_at level (leaf p) = if level == 0 then 1 else 0
nodes_at level (branch p left right) =
    if height (branch p left right) == level then 1 else nodes_at level left + nodes_at level right

-- how many nodes of a height a forest has
abbrev pub nodes_of_height : ℕ → List Tree → ℕ
nodes_of_height level [] = 0
nodes_of_height level (peak ∷ peaks) = nodes_at level peak + nodes_of_height level peaks
