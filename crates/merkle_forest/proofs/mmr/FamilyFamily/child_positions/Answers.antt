use Rattle.std.proofs.Common.{◌<◌, arith}
use Rattle.std.proofs.lemmas.Nat.{one_shl}
use Rattle.merkle_forest.specs.Forest.{mmr_rule}
use Rattle.merkle_forest.specs.Laws.Rules.{mmr_merges_equals}
use Rattle.merkle_forest.specs.Laws.Nodes.{branch-height}
use Rattle.merkle_forest.specs.Laws.MmrNodes.{children-mmr}
use Rattle.merkle_forest.proofs.mmr.FamilyFamily.child_positions.Goals as goal

pub overflow_shl-result : goal.overflow_shl-result
overflow_shl-result c =
    omega (
      arith,
      (branch-height mmr_rule mmr_merges_equals c.args.branch c.args.height c.requires.0 c.requires.1
          c.requires.2).0,
    )

pub overflow_sub-result : goal.overflow_sub-result
overflow_sub-result c =
    let low : c.args.height < 64 = overflow_shl-result c in
    omega (
      arith,
      one_shl c.args.height 64 low,
      children-mmr c.args.branch c.args.height c.requires.0 c.requires.1
          c.requires.2,
    )

pub overflow_sub-result-2 : goal.overflow_sub-result-2
overflow_sub-result-2 c = omega (arith, children-mmr c.args.branch c.args.height c.requires.0 c.requires.1 c.requires.2)

pub returns : goal.returns
returns c left right it =
    let low : c.args.height < 64 = overflow_shl-result c in
    let apart = children-mmr c.args.branch c.args.height left right it in
    (omega (arith, one_shl c.args.height 64 low, apart.0), omega (arith, apart.1))
