-- Where located peaks end.
use Rattle.std.proofs.Common.{◌≡◌, ℕ, zero, suc, ◌+◌, ◌≤◌, List, [], ◌∷◌, ◌++◌, length, take, drop, refl, arith}
use Rattle.std.proofs.lemmas.List.{length-append}
use Rattle.merkle_forest.specs.Forest.{Tree, leaf_count, leaves}
use Rattle.merkle_forest.specs.Trees.{Located, located, Within}

-- more leaves hold them too
pub within_more : (few many : ℕ) (peaks : List Located) → few ≤ many → Within few peaks → Within many peaks
within_more few many [] le h = tt
within_more few many (p ∷ peaks) le h = (omega (arith, h.0), within_more few many peaks le h.1)

pub within_append : (count : ℕ) (front back : List Located) → Within count front → Within count back
    → Within count (front ++ back)
within_append count [] back f b = b
within_append count (p ∷ front) back f b = (f.0, within_append count front back f.1 b)

pub within_take : (count n : ℕ) (peaks : List Located) → Within count peaks → Within count (take n peaks)
within_take count zero peaks h = tt
within_take count (suc n) [] h = tt
within_take count (suc n) (p ∷ peaks) h = (h.0, within_take count n peaks h.1)

pub within_drop : (count n : ℕ) (peaks : List Located) → Within count peaks → Within count (drop n peaks)
within_drop count zero peaks h = h
within_drop count (suc n) [] h = tt
within_drop count (suc n) (p ∷ peaks) h = within_drop count n peaks h.1

-- the peaks of a forest end within its leaves
pub located_within : (peaks : List Tree) → Within (leaves peaks) (located peaks)
located_within [] = tt
located_within (t ∷ peaks) =
    within_append (leaf_count t + leaves peaks) (located peaks) ((leaves peaks, t) ∷ [])
    (within_more (leaves peaks) (leaf_count t + leaves peaks) (located peaks) (omega arith) (located_within peaks))
    (omega arith, tt)

-- there are as many as peaks
pub length-located : (peaks : List Tree) → length (located peaks) ≡ length peaks
length-located [] = refl
length-located (t ∷ peaks) = omega (arith, length-append (located peaks) ((leaves peaks, t) ∷ []), length-located peaks)
