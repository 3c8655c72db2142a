-- The forest that grows leaf by leaf, and what is read off it.
use Rattle.std.specs.Prelude.{◌≡◌, ℕ, zero, suc, ◌+◌, ◌==◌, if◌then◌else◌, List, [], ◌∷◌, ◌++◌, length, map, take, drop}
use Rattle.std.specs.Prelude.{slice_get, Option, Some, None}
use Rattle.std.specs.Option.{option_map, option_map_or}

-- a leaf at its position, or a branch at its position over the tree to its left and the one to its right
pub data Tree : Type 0 where
  leaf : ℕ → Tree
  branch : ℕ → Tree → Tree → Tree

abbrev pub position : Tree → ℕ
position (leaf p) = p
position (branch p left right) = p

abbrev pub height : Tree → ℕ
height (leaf p) = 0
height (branch p left right) = suc (height left)

abbrev pub leaf_count : Tree → ℕ
leaf_count (leaf p) = 1
leaf_count (branch p left right) = leaf_count left + leaf_count right

abbrev pub node_count : Tree → ℕ
node_count (leaf p) = 1
node_count (branch p left right) = suc (node_count left + node_count right)

-- A family's rule. From the number of merges since the last leaf was appended, and the heights of the peaks
-- from right to left, it tells the index of the two neighbours that merge next: the index of the right one,
-- counted from the right. None: no peaks merge.
abbrev pub Rule : Type 0
Rule = ℕ → List ℕ → Option ℕ

-- A forest is its peaks, from right to left. Its nodes are numbered in order of birth.
abbrev pub size : List Tree → ℕ
size [] = 0
size (peak ∷ peaks) = node_count peak + size peaks

abbrev pub leaves : List Tree → ℕ
leaves [] = 0
leaves (peak ∷ peaks) = leaf_count peak + leaves peaks

-- the two peaks at the right end under a new node
abbrev pub with_parent : ℕ → List Tree → List Tree
with_parent p (right ∷ left ∷ peaks) = branch p left right ∷ peaks
with_parent p peaks = peaks

-- two neighbours under a new node
abbrev pub merged : ℕ → ℕ → List Tree → List Tree
merged p index peaks = take index peaks ++ with_parent p (drop index peaks)

-- the peaks after the merges that the rule asks for, of which there are at most `room`
unfoldable pub peaks_after_merges : Rule → ℕ → ℕ → List Tree → List Tree
peaks_after_merges rule zero merges peaks = peaks
peaks_after_merges rule (suc room) merges peaks =
    option_map_or (λ index. peaks_after_merges rule room (suc merges) (merged (size peaks) index peaks))
    (rule merges (map height peaks)) peaks

-- one more leaf: it joins as a peak of its own, and then peaks merge
abbrev pub with_leaf : Rule → List Tree → List Tree
with_leaf rule peaks = peaks_after_merges rule (length peaks) 0 (leaf (size peaks) ∷ peaks)

-- the forest of n leaves
unfoldable pub forest_of : Rule → ℕ → List Tree
forest_of rule zero = []
forest_of rule (suc n) = with_leaf rule (forest_of rule n)

-- MMR: the last two peaks merge while their heights are equal
abbrev pub mmr_rule : Rule
mmr_rule merges (a ∷ b ∷ heights) = if a == b then Some 0 else None
mmr_rule merges heights = None

-- the least index at which two neighbours have equal heights, of a list that begins with this height
abbrev pub first_pair_from : ℕ → List ℕ → Option ℕ
first_pair_from a [] = None
first_pair_from a (b ∷ heights) = if a == b then Some 0 else option_map (λ index. suc index) (first_pair_from b heights)

abbrev pub first_pair : List ℕ → Option ℕ
first_pair [] = None
first_pair (a ∷ heights) = first_pair_from a heights

-- MMB: once for each leaf, the rightmost two neighbours of equal heights merge
abbrev pub mmb_rule : Rule
mmb_rule zero heights = first_pair heights
mmb_rule (suc merges) heights = None

-- an index at which two neighbours have equal heights
abbrev pub IsPairOfEquals : List ℕ → ℕ → Type 0
IsPairOfEquals heights index = (h : ℕ) × (slice_get heights index ≡ Some h) × (slice_get heights (suc index) ≡ Some h)
