use Rattle.std.proofs.Common.{◌-◌, ◌+◌, ◌/◌, ◌<◌, arith}
use Rattle.merkle_forest.specs.Forest.{size, forest_of}
use Rattle.merkle_forest.specs.Laws.ForestGrowth.{leaves-below, leaves-forest_of}
use Rattle.merkle_forest.proofs.ForestLemmas.{leaves-le-size, size-none}
use Rattle.merkle_forest.proofs.sizes.greatest_leaf_count.Goals as goal

pub loop-above-init : goal.loop-above-init
loop-above-init g c = record {
  apart = omega arith;
  valid = omega (arith, c.min-above.ensures);
  within = omega (arith, size-none g.F.Family.merge_rule);
  greatest = λ n few fits. omega (
    arith,
    c.min-above.ensures,
    few,
    fits,
    leaves-le-size (forest_of g.F.Family.merge_rule n),
    leaves-forest_of g.F.Family.merge_rule g.met.F.Family.merges_equals n,
  );
}

pub loop-above-preserved : goal.loop-above-preserved
loop-above-preserved g c =
    let middle = c.loop-above.low + (c.loop-above.above - c.loop-above.low) / 2 in
    let more : c.args.nodes < size (forest_of g.F.Family.merge_rule middle) = omega arith in
    record {
      apart = omega arith;
      valid = omega arith;
      within = c.loop-above.invariant.within;
      greatest = λ n few fits.
          leaves-below g.F.Family.merge_rule g.met.F.Family.merges_equals n middle c.args.nodes fits more;
    }
