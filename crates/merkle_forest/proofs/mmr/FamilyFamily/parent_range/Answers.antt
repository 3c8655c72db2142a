use Rattle.std.proofs.Common.{arith}
use Rattle.merkle_forest.specs.Laws.MmrParents.{parents-trailing_mmr}
use Rattle.merkle_forest.proofs.mmr.FamilyFamily.parent_range.Goals as goal

pub returns-clause-parents : goal.returns-clause-parents
returns-clause-parents c =
    (parents-trailing_mmr c.args.leaves c.trailing_ones.result (omega arith) c.trailing_ones.ensures).0
