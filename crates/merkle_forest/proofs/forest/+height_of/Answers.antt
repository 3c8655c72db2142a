use Rattle.std.proofs.Common.{◌∙◌, ap, arith}
use Rattle.merkle_forest.specs.Forest.{height}
use Rattle.merkle_forest.specs.Shape.{shape}
use Rattle.merkle_forest.specs.Laws.ForestGrowth.{height_below}
use Rattle.merkle_forest.proofs.forest.+height_of.Goals as goal

pub overflow_add-result : goal.overflow_add-result
overflow_add-result t c =
    omega (
      arith,
      height_below (shape c.in-Branch.left.value),
      c.height_of.ensures
          ∙ ap (λ t. height (shape t)) c.deref.ensures,
      rw c.in-Branch.is at c.requires,
    )
