-- The sides of a range, as the code names them.
use Rattle.std.specs.Prelude.{Bool}
use Rattle.merkle_proofs.specs.declared.building.plain.Side.{Side}
use Rattle.merkle_proofs.specs.declared.building.plain.Side.TheVariants.{Before, After}
use Rattle.merkle_forest.specs.Trees.{Located}
use Rattle.merkle_theory.specs.Ranges.{is_before, is_after}

abbrev pub stands : Side → Located → Bool
stands (Before start) peak = is_before start peak
stands (After stop) peak = is_after stop peak
