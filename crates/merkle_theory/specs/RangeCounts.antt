-- How many of the digests of a range proof stand for the peaks beside the range.
use Rattle.std.specs.Prelude.{ℕ, ◌+◌, min, Bool, List, length, filter, take, drop}
use Rattle.merkle_forest.specs.declared.bagging.Bagging.{Bagging}
use Rattle.merkle_forest.specs.declared.bagging.Bagging.TheVariants.{ForwardFold, BackwardFold}
use Rattle.merkle_forest.specs.Trees.{Located}
use Rattle.merkle_theory.specs.Ranges.{is_before, is_after}

-- of these peaks so many pass the test
abbrev pub passing : (Located → Bool) → List Located → ℕ
passing test peaks = length (filter test peaks)

-- how many digests stand for so many inactive and so many active peaks before the range: the inactive ones are folded
-- into one (by ForwardFold all)
abbrev pub digests_for_before : Bagging → ℕ → ℕ → ℕ
digests_for_before ForwardFold inactive active = min 1 (inactive + active)
digests_for_before BackwardFold inactive active = min 1 inactive + active

-- and after it: the active ones are folded into one (by ForwardFold none)
abbrev pub digests_for_after : Bagging → ℕ → ℕ → ℕ
digests_for_after ForwardFold inactive active = inactive + active
digests_for_after BackwardFold inactive active = inactive + min 1 active

-- of these peaks, of which so many first ones are inactive
abbrev pub range_outer : Bagging → ℕ → ℕ → ℕ → List Located → ℕ
range_outer bagging start stop inactive peaks =
    digests_for_before bagging (passing (is_before start) (take inactive peaks))
    (passing (is_before start) (drop inactive peaks))
    + digests_for_after bagging (passing (is_after stop) (take inactive peaks))
    (passing (is_after stop) (drop inactive peaks))
