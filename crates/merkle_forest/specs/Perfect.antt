-- Perfect trees.
use Rattle.std.specs.Prelude.{◌≡◌, ℕ, List, [], ◌∷◌, IfSome}
use Rattle.merkle_forest.specs.Forest.{Tree, leaf, branch, height, Rule, IsPairOfEquals}

-- both children of each branch have one height
abbrev pub IsPerfect : Tree → Type 0
IsPerfect (leaf p) = Unit {0}
IsPerfect (branch p left right) = (height left ≡ height right) × IsPerfect left × IsPerfect right

abbrev pub ArePerfect : List Tree → Type 0
ArePerfect [] = Unit {0}
ArePerfect (peak ∷ peaks) = IsPerfect peak × ArePerfect peaks

-- a rule that merges neighbours of one height alone
abbrev pub IsPairing : Rule → Type 0
IsPairing rule = (merges : ℕ) (heights : List ℕ) → IfSome (rule merges heights) (IsPairOfEquals heights)
