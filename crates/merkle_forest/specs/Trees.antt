-- Digests of trees, by recursion over the forest.
use Rattle.std.specs.Prelude.{ℕ, ◌+◌, ◌≤◌, List, [], ◌∷◌, ◌++◌, length, map, slice_index_or, nat_le, if◌then◌else◌, suc}
use Rattle.std.specs.List.{AllByRecursion}
use Rattle.merkle_forest.specs.declared.bagging.Bagging.{Bagging}
use Rattle.merkle_forest.specs.Forest.{Tree, leaf, branch, leaf_count, leaves, Rule, forest_of}
use Rattle.merkle_forest.specs.Hashing.{Hash, leaf_string, node_string, root_of}

-- a tree and the location of its first leaf
abbrev pub Located : Type 0
Located = ℕ × Tree

-- the location after its last leaf
abbrev pub end_of : Located → ℕ
end_of peak = peak.0 + leaf_count peak.1

-- the peaks from left to right, each with the location of its first leaf
abbrev pub located : List Tree → List Located
located [] = []
located (peak ∷ peaks) = located peaks ++ (leaves peaks, peak) ∷ []

-- every one of these peaks ends within so many leaves
abbrev pub Within : ℕ → List Located → Type 0
Within count peaks = AllByRecursion (λ peak. end_of peak ≤ count) peaks

-- the digest of a tree over the elements from `start` on: of each leaf's and each branch's string
abbrev pub plain_digest : Hash → List (List ℕ) → ℕ → Tree → List ℕ
plain_digest hash elements start (leaf p) = hash (leaf_string p (slice_index_or elements start []))
plain_digest hash elements start (branch p left right) =
    hash (node_string p (plain_digest hash elements start left)
    (plain_digest hash elements (start + leaf_count left) right))

-- the digests of the peaks, from left to right
abbrev pub peak_digests : (ℕ → Tree → List ℕ) → List Tree → List (List ℕ)
peak_digests digest peaks = map (λ peak. digest peak.0 peak.1) (located peaks)

-- how many peaks come first whose leaves all stand before the floor
abbrev pub inactive_peaks : ℕ → List Located → ℕ
inactive_peaks floor [] = 0
inactive_peaks floor (peak ∷ peaks) = if nat_le (end_of peak) floor then suc (inactive_peaks floor peaks) else 0

-- the root of the tree over these elements, of whose peaks so many come first as inactive ones
unfoldable pub tree_root : Hash → Bagging → Rule → List (List ℕ) → ℕ → List ℕ
tree_root hash bagging rule elements inactive =
    root_of hash bagging (length elements) inactive
    (peak_digests (plain_digest hash elements) (forest_of rule (length elements)))
