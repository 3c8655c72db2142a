-- The digests of a range proof, in their order. `digest` gives the digest of a tree whose first leaf stands at a
-- location.
use Rattle.std.specs.Prelude.{ℕ, ◌+◌, ◌||◌, not, Bool, nat_le, if◌then◌else◌, List, [], ◌∷◌, ◌++◌, map, filter}
use Rattle.std.specs.List.{flat_map}
use Rattle.merkle_forest.specs.declared.bagging.Bagging.{Bagging}
use Rattle.merkle_forest.specs.declared.bagging.Bagging.TheVariants.{ForwardFold, BackwardFold}
use Rattle.merkle_forest.specs.Forest.{Tree, leaf, branch, leaf_count}
use Rattle.merkle_forest.specs.Hashing.{Hash, folded_forward, folded_backward}
use Rattle.merkle_forest.specs.Trees.{Located, end_of}

abbrev pub Digests : Type 0
Digests = ℕ → Tree → List ℕ

-- all leaves of the peak stand before the range
abbrev pub is_before : ℕ → Located → Bool
is_before start peak = nat_le (end_of peak) start

-- all leaves of the peak stand after the range
abbrev pub is_after : ℕ → Located → Bool
is_after stop peak = nat_le stop peak.0

-- the peak stands neither wholly before the range nor wholly after it: some leaf of it is in the range, which is not
-- empty
abbrev pub meets : ℕ → ℕ → Located → Bool
meets start stop peak = not (is_before start peak || is_after stop peak)

-- several digests as one, where there is any
abbrev pub as_one : (List (List ℕ) → List ℕ) → List (List ℕ) → List (List ℕ)
as_one fold [] = []
as_one fold (d ∷ digests) = fold (d ∷ digests) ∷ []

-- the digests of these peaks, singly
abbrev pub singly : Digests → List Located → List (List ℕ)
singly digest peaks = map (λ peak. digest peak.0 peak.1) peaks

-- the maximal nodes of a tree that hold no leaf of the range, from left to right
abbrev pub siblings : Digests → ℕ → ℕ → ℕ → Tree → List (List ℕ)
siblings digest start stop at (leaf p) = if meets start stop (at, leaf p) then [] else digest at (leaf p) ∷ []
siblings digest start stop at (branch p left right) =
    if meets start stop (at, branch p left right) then siblings digest start stop at left ++ siblings digest start
    stop (at + leaf_count left) right
    else digest at (branch p left right) ∷ []

-- the peaks before the range, of which the inactive ones are folded from the left into one (all of them by ForwardFold)
abbrev pub before_digests : Hash → Digests → Bagging → ℕ → List Located → List Located → List (List ℕ)
before_digests hash digest BackwardFold start inactive active =
    as_one (folded_forward hash) (singly digest (filter (is_before start) inactive)) ++ singly digest
    (filter (is_before start) active)
before_digests hash digest ForwardFold start inactive active =
    as_one (folded_forward hash) (singly digest (filter (is_before start) inactive) ++ singly digest
    (filter (is_before start) active))

-- the peaks after the range, of which the active ones are folded from the right into one (none of them by ForwardFold)
abbrev pub after_digests : Hash → Digests → Bagging → ℕ → List Located → List Located → List (List ℕ)
after_digests hash digest BackwardFold stop inactive active =
    singly digest (filter (is_after stop) inactive) ++ as_one (folded_backward hash)
    (singly digest (filter (is_after stop) active))
after_digests hash digest ForwardFold stop inactive active =
    singly digest (filter (is_after stop) inactive) ++ singly digest (filter (is_after stop) active)

-- the siblings in the peaks that meet the range
abbrev pub inner_digests : Digests → ℕ → ℕ → List Located → List (List ℕ)
inner_digests digest start stop peaks =
    flat_map (λ peak. siblings digest start stop peak.0 peak.1) (filter (meets start stop) peaks)

-- The digests of the proof of the leaves from `start` up to `stop`, over the inactive peaks and the active ones after
-- them.
abbrev pub range_digests : Hash → Digests → Bagging → ℕ → ℕ → List Located → List Located → List (List ℕ)
range_digests hash digest bagging start stop inactive active =
    before_digests hash digest bagging start inactive active ++ after_digests hash digest bagging stop inactive active
    ++ inner_digests digest start stop inactive ++ inner_digests digest start stop active
