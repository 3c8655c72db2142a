-- The digests of a range proof, from those of the single nodes that it is made of.
use Rattle.std.specs.Prelude.{ℕ, List, ◌++◌, take, drop}
use Rattle.merkle_forest.specs.declared.bagging.Bagging.{Bagging}
use Rattle.merkle_forest.specs.declared.bagging.Bagging.TheVariants.{ForwardFold, BackwardFold}
use Rattle.merkle_forest.specs.Hashing.{Hash, folded_forward, folded_backward}
use Rattle.merkle_theory.specs.Ranges.{as_one}

-- of the peaks before the range and of those after it so many are inactive
abbrev pub assembled : Hash → Bagging → ℕ → List (List ℕ) → ℕ → List (List ℕ) → List (List ℕ) → List (List ℕ)
assembled hash ForwardFold inactive_before before inactive_after after inner =
    as_one (folded_forward hash) before ++ (after ++ inner)
assembled hash BackwardFold inactive_before before inactive_after after inner =
    as_one (folded_forward hash) (take inactive_before before) ++ (drop inactive_before before
    ++ (take inactive_after after ++ (as_one (folded_backward hash) (drop inactive_after after) ++ inner)))
