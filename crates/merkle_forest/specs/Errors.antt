-- The printed texts of the Merkle layer's errors.
use Rattle.std.specs.Prelude.{ℕ, List, ◌++◌, codes}
use Rattle.std.specs.Fmt.{decimal}
use Rattle.merkle_forest.specs.declared.error.Error.{Error}
use Rattle.merkle_forest.specs.declared.error.Error.TheVariants.{NonLeaf, PositionOverflow, LocationOverflow}
use Rattle.merkle_forest.specs.declared.error.Error.TheVariants.{InvalidInactivePeaks}

-- an error's number and what it means
abbrev pub error_text : {F : Type 0} → Error F → List ℕ
error_text (NonLeaf position) = codes "M1: no leaf stands at position " ++ decimal position
error_text (PositionOverflow position) = codes "M2: position " ++ decimal position ++ codes " is past the limit"
error_text (LocationOverflow location) = codes "M3: location " ++ decimal location ++ codes " is past the limit"
error_text InvalidInactivePeaks = codes "M16: fewer peaks than inactive ones"
