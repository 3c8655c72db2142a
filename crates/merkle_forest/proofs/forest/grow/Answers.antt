use Rattle.std.proofs.Common.{sym, ◌∙◌, ap, arith}
use Rattle.std.proofs.lemmas.Grind.{common_steps}
use Rattle.merkle_forest.specs.Forest.{with_leaf}
use Rattle.merkle_forest.proofs.ForestLemmas.{forest_of-next, forest_of-zero}
use Rattle.merkle_forest.proofs.forest.grow.Goals as goal

pub loop-init : goal.loop-init
loop-init g c = grind (arith, common_steps, forest_of-zero g.F.Family.merge_rule)

pub loop-preserved : goal.loop-preserved
loop-preserved g c =
    record {
      grown = c.in_ok-nodes.ensures.grown ∙ ap (with_leaf g.F.Family.merge_rule) c.loop.invariant.grown
          ∙ sym (forest_of-next g.F.Family.merge_rule c.loop.counter);
      sized = c.in_ok-nodes.ensures.sizes;
      counted = omega (arith, c.in_ok-nodes.ensures.counted);
    }
