-- Chunks grafted onto the tree of the operations. `bits` is how many bits a chunk has, 2 to the grafting height.
use Rattle.std.specs.Prelude.{ℕ, zero, suc, ◌+◌, ◌/◌, ◌%◌, ◌==◌, nat_le, if◌then◌else◌, List, [], ◌∷◌, ◌++◌}
use Rattle.std.specs.Prelude.{slice_index_or}
use Rattle.merkle_forest.specs.Forest.{Tree, leaf, branch, height, leaf_count}
use Rattle.merkle_forest.specs.Hashing.{Hash, leaf_string, node_string}
use Rattle.merkle_forest.specs.Trees.{Located, end_of}
use Rattle.state_theory.specs.SetBits.{is_zero}

-- a chunk and the digest of the subtree over its operations: a chunk without a set bit leaves the digest as it is
abbrev pub grafted : Hash → List ℕ → List ℕ → List ℕ
grafted hash chunk digest = if is_zero chunk then digest else hash (chunk ++ digest)

-- the digest of a tree of the grafted tree: at the grafting height the chunk is joined in
abbrev pub grafted_digest : Hash → ℕ → ℕ → List (List ℕ) → List (List ℕ) → ℕ → Tree → List ℕ
grafted_digest hash grafting_height bits chunks elements start (leaf p) =
    hash (leaf_string p (slice_index_or elements start []))
grafted_digest hash grafting_height bits chunks elements start (branch p left right) =
    let own = hash (node_string p (grafted_digest hash grafting_height bits chunks elements start left)
    (grafted_digest hash grafting_height bits chunks elements (start + leaf_count left) right)) in
    if height (branch p left right) == grafting_height then grafted hash
    (slice_index_or chunks (start / bits) []) own else own

-- this peak's part of that number: where no later peak ends at a border, 1 if this one does; else one more than the
-- later ones give
abbrev pub aligned_count_with : ℕ → ℕ → Located → ℕ
aligned_count_with bits zero peak = if end_of peak % bits == 0 then 1 else 0
aligned_count_with bits (suc later) peak = suc (suc later)

-- the greatest number of first peaks whose leaves all stand before the floor and of which the last one ends at a
-- chunk's border; 0 where there is none
abbrev pub chunk_aligned_inactive_peaks : ℕ → ℕ → List Located → ℕ
chunk_aligned_inactive_peaks bits floor [] = 0
chunk_aligned_inactive_peaks bits floor (peak ∷ peaks) =
    if nat_le (end_of peak) floor then aligned_count_with bits
    (chunk_aligned_inactive_peaks bits floor peaks) peak else 0
