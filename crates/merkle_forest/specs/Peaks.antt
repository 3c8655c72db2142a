-- The peaks of a forest from left to right, as positions and heights.
use Rattle.std.specs.Prelude.{◌≡◌, ◌==◌, ◌||◌, ℕ, ◌≤◌, ◌^◌, Bool, List, [], ◌∷◌, ◌++◌, map, nat_le, if◌then◌else◌}
use Rattle.std.specs.Prelude.{Option}
use Rattle.std.specs.Iterator.{YieldsFirst}
use Rattle.merkle_forest.specs.Forest.{Tree, position, height, size, leaves, Rule, forest_of}
use Rattle.merkle_forest.specs.Trees.{Located, located, inactive_peaks}

-- a peak's position and height
abbrev pub position_and_height : Located → ℕ × ℕ
position_and_height peak = (position peak.1, height peak.1)

-- those of all peaks, from left to right
abbrev pub peak_positions : List Tree → List (ℕ × ℕ)
peak_positions peaks = map position_and_height (located peaks)

-- the peaks that begin at a location or after it, from left to right
abbrev pub located_from : ℕ → List Tree → List Located
located_from first [] = []
located_from first (peak ∷ peaks) =
    if nat_le first (leaves peaks) then located_from first peaks ++ (leaves peaks, peak) ∷ [] else []

-- those of the peaks from a location on
abbrev pub positions_from : ℕ → List Tree → List (ℕ × ℕ)
positions_from first peaks = map position_and_height (located_from first peaks)

-- a peak begins at this location, or it is the one after all leaves
abbrev pub is_cut : ℕ → List Tree → Bool
is_cut first [] = first == 0
is_cut first (peak ∷ peaks) = (first == leaves (peak ∷ peaks)) || is_cut first peaks

-- a way over the peaks of a forest: how many leaves the forest has, and the peaks that are left, from left to right
pub record PeaksLeft : Type 0 where
  pub leaves : ℕ
  pub left : List (ℕ × ℕ)

-- the way over the forest of so many leaves, of which all peaks are left
abbrev pub all_peaks : Rule → ℕ → PeaksLeft
all_peaks rule n = record { leaves = n; left = peak_positions (forest_of rule n) }

-- a call gave the first of the peaks that were left, and the others are left of the same forest
abbrev pub GivesFirstPeak : PeaksLeft → Option (ℕ × ℕ) → PeaksLeft → Type 0
GivesFirstPeak before given after = YieldsFirst (λ (way : PeaksLeft). way.left) before given after
    × (after.leaves ≡ before.leaves)

-- these are the peaks of the forest of so many nodes
abbrev pub ArePeaksOf : Rule → ℕ → PeaksLeft → Type 0
ArePeaksOf rule nodes peaks = (n : ℕ) → n ≤ 2 ^ 62 → nodes ≡ size (forest_of rule n) → peaks ≡ all_peaks rule n

-- so many of the peaks of the forest of so many nodes come first whose leaves all stand before the floor
abbrev pub IsInactiveCount : Rule → ℕ → ℕ → ℕ → Type 0
IsInactiveCount rule nodes floor count = (n : ℕ) → n ≤ 2 ^ 62 → nodes ≡ size (forest_of rule n)
    → count ≡ inactive_peaks floor (located (forest_of rule n))
