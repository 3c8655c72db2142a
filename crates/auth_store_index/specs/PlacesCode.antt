-- Places as the code keeps them.
use Rattle.std.specs.Prelude.{◌≡◌, ◌==◌, ℕ, List}
use Rattle.std.specs.List.{list_any}
use Rattle.std.specs.Ordering.{nat_cmp}
use Rattle.std.specs.BTreeSet.{BTreeSet, contains_by}

-- the set has these places, and no others
abbrev pub IsSetOf : BTreeSet ℕ → List ℕ → Type 0
IsSetOf set places = (at : ℕ) → contains_by (nat_cmp at) set ≡ list_any (λ place. place == at) places
