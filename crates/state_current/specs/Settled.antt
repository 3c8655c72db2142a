-- How many chunks may be pruned of a state's two trees, so that what is left still stands for it.
use Rattle.std.specs.Prelude.{◌≡◌, ◌⊎◌, ℕ, ◌+◌, ◌*◌, ◌^◌, ◌<◌, ◌≤◌}
use Rattle.merkle_forest.specs.Forest.{Tree, height, leaf_count, Rule, forest_of}
use Rattle.merkle_forest.specs.Nodes.{HasNode, IsPeakAt}

-- Each peak of the forest of so many chunks, raised by the grafting height, is a node of the forest of so many
-- operations: so many chunks are settled.
abbrev pub IsSettled : Rule → ℕ → ℕ → ℕ → Type 0
IsSettled rule grafting_height operations chunks =
    (first : ℕ) (peak : Tree) → IsPeakAt first peak (forest_of rule chunks)
    → HasNode (forest_of rule operations) (first * 2 ^ grafting_height) (height peak + grafting_height)

-- A node over the operations from a location on, of a height, stands above the peaks of so many chunks: no peak over
-- its first operation is higher.
abbrev pub IsAbove : Rule → ℕ → ℕ → ℕ → ℕ → Type 0
IsAbove rule grafting_height chunks first high = (at : ℕ) (peak : Tree) → IsPeakAt at peak (forest_of rule chunks)
    → at * 2 ^ grafting_height ≤ first → first < (at + leaf_count peak) * 2 ^ grafting_height
    → height peak + grafting_height ≤ high

-- The chunks that are pruned up to a limit, of which so many were pruned before: as many as are settled, but none that
-- was pruned comes back. For one limit that is one number, since no chunks at all are settled.
pub record IsGreatestSettled (rule : Rule) (grafting_height operations before limit after : ℕ) : Type 0 where
  pub from : before ≤ after
  pub to : (after ≡ before) ⊎ (after ≤ limit)
  pub settled : IsSettled rule grafting_height operations after
  pub greatest : (chunks : ℕ) → chunks ≤ limit → IsSettled rule grafting_height operations chunks → chunks ≤ after
