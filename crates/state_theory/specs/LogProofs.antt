-- The root of the operations' tree, from a proof in it and the operations that it is to show.
use Rattle.std.specs.Prelude.{ℕ, List, Option, option_map}
use Rattle.merkle_forest.specs.declared.bagging.Bagging.TheVariants.{BackwardFold}
use Rattle.merkle_forest.specs.Forest.{Rule}
use Rattle.merkle_forest.specs.Hashing.{Hash, leaf_string, node_string}
use Rattle.merkle_forest.specs.Made.{value}
use Rattle.merkle_theory.specs.MadeTrees.{plain_over}
use Rattle.merkle_theory.specs.MultiReads.{multi_root}
use Rattle.merkle_theory.specs.Reads.{range_root}
use Rattle.merkle_theory.specs.Soundness.{plain_names}

-- of operations that stand from a location on. None: the proof leads to no root
abbrev pub log_root : Rule → Hash → ℕ → ℕ → ℕ → List (List ℕ) → List (List ℕ) → Option (List ℕ)
log_root rule hash leaves inactive start operations digests =
    option_map (value hash) (range_root plain_names plain_over BackwardFold rule leaves inactive start
    operations digests)

-- of operations that each stand at a location of their own
abbrev pub many_root : Rule → Hash → ℕ → ℕ → List (List ℕ × ℕ) → List (List ℕ) → Option (List ℕ)
many_root rule hash leaves inactive operations digests =
    option_map (value hash) (multi_root plain_names plain_over BackwardFold rule leaves inactive operations digests)

abbrev pub placed : List ℕ → ℕ → List ℕ × ℕ
placed operation location = (operation, location)

-- how leaves and branches of that tree are hashed
abbrev pub leaf_hash : Hash → ℕ → List ℕ → List ℕ
leaf_hash hash position element = hash (leaf_string position element)

abbrev pub branch_hash : Hash → ℕ → List ℕ → List ℕ → List ℕ
branch_hash hash position left right = hash (node_string position left right)
