-- The strings that are hashed. A hash is a function from bytes to bytes.
use Rattle.std.specs.Prelude.{◌≡◌, ◌⊎◌, ℕ, ◌==◌, if◌then◌else◌, List, [], ◌∷◌, ◌++◌, take, drop}
use Rattle.std.specs.Int.{w64, to_be_bytes}
use Rattle.merkle_forest.specs.declared.bagging.Bagging.{Bagging}
use Rattle.merkle_forest.specs.declared.bagging.Bagging.TheVariants.{ForwardFold, BackwardFold}

abbrev pub Hash : Type 0
Hash = List ℕ → List ℕ

-- a number in a string: eight bytes, the highest first
abbrev pub number : ℕ → List ℕ
number n = to_be_bytes w64 n

-- a leaf: its position and its element
abbrev pub leaf_string : ℕ → List ℕ → List ℕ
leaf_string position element = number position ++ element

-- a branch: its position and the digests of its two children
abbrev pub node_string : ℕ → List ℕ → List ℕ → List ℕ
node_string position left right = number position ++ (left ++ right)

-- two digests that are folded into one
abbrev pub fold_string : List ℕ → List ℕ → List ℕ
fold_string left right = left ++ right

-- digests folded from the left onto a first one
abbrev pub folded_onto : Hash → List ℕ → List (List ℕ) → List ℕ
folded_onto hash first [] = first
folded_onto hash first (d ∷ digests) = folded_onto hash (hash (fold_string first d)) digests

-- digests folded from the left: nothing where there is none
abbrev pub folded_forward : Hash → List (List ℕ) → List ℕ
folded_forward hash [] = []
folded_forward hash (d ∷ digests) = folded_onto hash d digests

-- digests folded from the right: nothing where there is none
abbrev pub folded_backward : Hash → List (List ℕ) → List ℕ
folded_backward hash [] = []
folded_backward hash (d ∷ []) = d
folded_backward hash (d ∷ e ∷ digests) = hash (fold_string d (folded_backward hash (e ∷ digests)))

-- the items that are bagged: the inactive peaks, which come first, folded from the left into one, then the other peaks
-- singly
abbrev pub items : Hash → ℕ → List (List ℕ) → List (List ℕ)
items hash inactive peaks =
    if inactive == 0 then peaks else folded_forward hash (take inactive peaks) ∷ drop inactive peaks

-- the items as one digest: nothing where there is no peak
abbrev pub bagged : Hash → Bagging → List (List ℕ) → List ℕ
bagged hash ForwardFold digests = folded_forward hash digests
bagged hash BackwardFold digests = folded_backward hash digests

-- the byte that tells the baggings apart
abbrev pub domain_of : Bagging → ℕ
domain_of ForwardFold = 0
domain_of BackwardFold = 1

-- the count of inactive peaks, which stands in the root's string only where there are some
abbrev pub inactive_count : ℕ → List ℕ
inactive_count inactive = if inactive == 0 then [] else number inactive

-- a tree's root: leaf count, bagging, count of inactive peaks, and the bagged digest if there is a peak
unfoldable pub root_string : Bagging → ℕ → ℕ → List ℕ → List ℕ
root_string bagging leaves inactive digest = number leaves ++ (domain_of bagging ∷ (inactive_count inactive ++ digest))

-- the root of a tree with these peaks, from left to right, of which so many come first as inactive ones
unfoldable pub root_of : Hash → Bagging → ℕ → ℕ → List (List ℕ) → List ℕ
root_of hash bagging leaves inactive peaks =
    hash (root_string bagging leaves inactive (bagged hash bagging (items hash inactive peaks)))

-- the lengths of a root's string where digests have 32 bytes: without a digest, with one, and with an inactive count
-- too
abbrev pub IsRootLength : ℕ → Type 0
IsRootLength n = (n ≡ 9) ⊎ ((n ≡ 41) ⊎ (n ≡ 49))
