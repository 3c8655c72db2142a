-- Located trees of the code as located trees of the forest.
use Rattle.std.specs.Prelude.{ℕ, List, map}
use Rattle.std.specs.Borrow.{Bor}
use Rattle.merkle_forest.specs.declared.forest.Tree.{Tree as CodeTree}
use Rattle.merkle_forest.specs.Shape.{shape}
use Rattle.merkle_forest.specs.Trees.{Located}

abbrev pub located_shape : ℕ × Bor CodeTree → Located
located_shape peak = (peak.0, shape peak.1.now)

abbrev pub shapes : List (ℕ × Bor CodeTree) → List Located
shapes peaks = map located_shape peaks
