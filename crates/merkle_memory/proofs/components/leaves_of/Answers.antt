use Rattle.std.proofs.Common.{◌+◌, ◌<◌, ◌^◌, arith}
use Rattle.merkle_forest.specs.Forest.{forest_of}
use Rattle.merkle_forest.specs.Nodes.{IsSize}
use Rattle.merkle_forest.specs.Laws.ForestGrowth.{size_bound, leaves-forest_of}
use Rattle.merkle_memory.proofs.components.leaves_of.Given.{Over}
use Rattle.merkle_memory.proofs.components.leaves_of.Goals as goal

small : (g : Over) (c : goal.In-None g) → IsSize g.F.Family.merge_rule (c.args.before + c.args.from)
    → c.args.before + c.args.from < 2 ^ 64
small g c (n, few, is) =
    omega (
      arith,
      few,
      is,
      size_bound (forest_of g.F.Family.merge_rule n),
      leaves-forest_of g.F.Family.merge_rule g.met.F.Family.merges_equals n,
    )

pub returns-in-None-clause-found : goal.returns-in-None-clause-found
returns-in-None-clause-found g c = (λ bad. absurd cc, λ it. absurd (c.in-None.ensures (small g c it)))
