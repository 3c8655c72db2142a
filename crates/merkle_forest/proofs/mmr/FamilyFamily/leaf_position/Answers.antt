use Rattle.std.proofs.Common.{arith}
use Rattle.std.proofs.lemmas.Nat.{ones_le_self}
use Rattle.merkle_forest.specs.Laws.Mmr.{size-mmr}
use Rattle.merkle_forest.proofs.mmr.FamilyFamily.leaf_position.Goals as goal

pub overflow_sub-result : goal.overflow_sub-result
overflow_sub-result c = omega (arith, ones_le_self c.args.leaves)

pub returns : goal.returns
returns c = omega (arith, size-mmr c.args.leaves)
