use Rattle.std.proofs.Common.{◌≡◌, ◌-◌, ◌^◌, ◌≤◌, inl, inr, arith, subst, pow-suc}
use Rattle.std.proofs.lemmas.Bool.{cases_lt, both_ways}
use Rattle.merkle_forest.specs.Forest.{forest_of}
use Rattle.merkle_forest.specs.Laws.ForestGrowth.{height_fits, leaves-forest_of}
use Rattle.merkle_forest.specs.Nodes.{HasNode}
use Rattle.merkle_forest.specs.Laws.Powers.{pow_le, pow_order}
use Rattle.merkle_forest.specs.Laws.Maximal.{leaf-stands}
use Rattle.merkle_forest.proofs.chunk_peaks.highest_before.Goals as goal

pub loop-height-init : goal.loop-height-init
loop-height-init g c =
    let found = c.ilog2-height.ensures in
    record {
      fits = omega (arith, found.power_le, c.requires.some);
      highest = λ h stands fits. pow_order h c.ilog2-height.result
          (omega (arith, fits, found.next_power_gt, pow-suc 2 c.ilog2-height.result));
    }

pub has_node-requires-clause-low : goal.has_node-requires-clause-low
has_node-requires-clause-low g c = height_fits 62 c.loop-height.height (omega (arith, c.loop-height.invariant.fits))

pub overflow_sub-height : goal.overflow_sub-height
overflow_sub-height g c =
    let rule = g.F.Family.merge_rule in
    let all = leaves-forest_of rule g.met.F.Family.merges_equals c.args.leaves in
    let there : HasNode (forest_of rule c.args.leaves) c.args.first 0 =
    leaf-stands c.args.first (forest_of rule c.args.leaves) (omega (arith, all)) in
    elim (cases_lt 0 c.loop-height.height) [
      | inl some ↦ omega (arith, some)
      | inr none ↦ (let same : 0 ≡ c.loop-height.height = omega (arith, none) in
          absurd (both_ways c.has_node.result c.loop-height-test.true
          (c.has_node.ensures.1 (subst (λ h. HasNode (forest_of rule c.args.leaves) c.args.first h) same there))))
    ]

pub loop-height-smaller : goal.loop-height-smaller
loop-height-smaller g c = let some : 1 ≤ c.loop-height.height = overflow_sub-height g c in omega (arith, some)

pub loop-height-preserved : goal.loop-height-preserved
loop-height-preserved g c =
    let rule = g.F.Family.merge_rule in
    let height = c.loop-height.height in
    let lower : 2 ^ (height - 1) ≤ 2 ^ height = pow_le (height - 1) height (omega arith) in
    record {
      fits = omega (arith, c.loop-height.invariant.fits, lower);
      highest = λ h stands fits. (let most : h ≤ height = c.loop-height.invariant.highest h stands fits in
          elim (cases_lt h height) [
            | inl less ↦ omega (arith, less)
            | inr same ↦ (let here : h ≡ height = omega (arith, most, same) in
                absurd (both_ways c.has_node.result c.loop-height-test.true
                (c.has_node.ensures.1
                (subst (λ k. HasNode (forest_of rule c.args.leaves) c.args.first k) here stands))))
          ]);
    }
