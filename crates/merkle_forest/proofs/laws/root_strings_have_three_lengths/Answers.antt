use Rattle.merkle_forest.specs.Laws.RootLengths.{root-lengths}
use Rattle.merkle_forest.proofs.laws.root_strings_have_three_lengths.Goals as goal

pub returns : goal.returns
returns c hash bagging leaves inactive peaks sized all within =
    root-lengths hash sized bagging leaves inactive peaks all within
