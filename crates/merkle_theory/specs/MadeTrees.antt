-- Trees as they are made: from all elements, or from the elements of a range and the digests beside it.
use Rattle.std.specs.Prelude.{ℕ, ◌+◌, ◌-◌, if◌then◌else◌, List, [], ◌∷◌, Option, None, Some, option_map}
use Rattle.std.specs.Prelude.{option_and_then, slice_index_or}
use Rattle.merkle_forest.specs.Forest.{Tree, leaf, branch, height, leaf_count}
use Rattle.merkle_forest.specs.Hashing.{number}
use Rattle.merkle_forest.specs.Made.{at_plain, Made, bytes, both, hashed}
use Rattle.merkle_theory.specs.Ranges.{meets}

-- how a branch's string is hashed: from the location of its first leaf, its height, its position and the string
abbrev pub Over : Type 0
Over = ℕ → ℕ → ℕ → Made → Made

-- in the plain tree
abbrev pub plain_over : Over
plain_over at high p string = hashed (at_plain p) [] string

-- the element at each location
abbrev pub Elements : Type 0
Elements = ℕ → List ℕ

-- those of a list from a location on
abbrev pub from : ℕ → List (List ℕ) → Elements
from start elements location = slice_index_or elements (location - start) []

-- those of a whole list
abbrev pub whole : List (List ℕ) → Elements
whole elements location = slice_index_or elements location []

-- a leaf, of its position and its element
abbrev pub leaf_made : ℕ → List ℕ → Made
leaf_made p element = hashed (at_plain p) [] (both (bytes (number p)) (bytes element))

-- a branch, of its position and its children
abbrev pub branch_made : Over → ℕ → ℕ → ℕ → Made → Made → Made
branch_made over at high p left right = over at high p (both (bytes (number p)) (both left right))

-- a tree over all elements
abbrev pub made_tree : Over → Elements → ℕ → Tree → Made
made_tree over elements at (leaf p) = leaf_made p (elements at)
made_tree over elements at (branch p left right) =
    branch_made over at (height (branch p left right)) p (made_tree over elements at left) (made_tree over elements (at
    + leaf_count left) right)

-- what is read, and the digests that are left
abbrev pub Reading : Type 0
Reading = Option (Made × List (List ℕ))

-- the first digest
abbrev pub given : List (List ℕ) → Reading
given [] = None
given (d ∷ digests) = Some (bytes d, digests)

-- a tree from the elements of the range, and from the digests of the maximal nodes that hold no leaf of it, from left
-- to right
abbrev pub read_tree : Over → Elements → ℕ → ℕ → ℕ → Tree → List (List ℕ) → Reading
read_tree over elements start stop at (leaf p) digests =
    if meets start stop (at, leaf p) then Some (leaf_made p (elements at), digests) else given digests
read_tree over elements start stop at (branch p left right) digests =
    if meets start stop (at, branch p left right)
    then option_and_then (λ x. option_map (λ y. (branch_made over at (height (branch p left right)) p x.0 y.0, y.1))
    (read_tree over elements start stop (at + leaf_count left) right x.1))
    (read_tree over elements start stop at left digests)
    else given digests
