use Rattle.std.proofs.Common.{◌≡◌, ◌+◌, ◌*◌, ◌^◌, ◌%◌, cond, suc, ◌∙◌, ap, arith}
use Rattle.std.proofs.lemmas.Bool.{le-leb, lt-leb}
use Rattle.merkle_forest.specs.Forest.{forest_of}
use Rattle.merkle_forest.specs.Trees.{inactive_peaks}
use Rattle.merkle_forest.specs.Laws.ForestGrowth.{leaves-forest_of}
use Rattle.merkle_forest.specs.Peaks.{located_from}
use Rattle.merkle_forest.specs.Laws.Peaks.{step, cut-zero, cut-begins, located_from-zero, located_from-end}
use Rattle.merkle_forest.proofs.peaks.inactive_count.Goals as goal

pub loop-first-init : goal.loop-first-init
loop-first-init g c =
    let all = ap (inactive_peaks c.args.floor) (located_from-zero (forest_of g.F.Family.merge_rule c.args.leaves)) in
    record {
      within = omega arith;
      small = omega arith;
      cut = cut-zero (forest_of g.F.Family.merge_rule c.args.leaves);
      counted = omega (arith, all);
    }

pub peak_from-height-requires-clause-begins : goal.peak_from-height-requires-clause-begins
peak_from-height-requires-clause-begins g c =
    cut-begins c.loop-first.first (forest_of g.F.Family.merge_rule c.args.leaves) c.loop-first.invariant.cut
    (omega (
      arith,
      c.loop-first-test.true,
      leaves-forest_of g.F.Family.merge_rule g.met.F.Family.merges_equals
          c.args.leaves,
    ))

pub overflow_shl-end : goal.overflow_shl-end
overflow_shl-end g c =
    (step g.F.Family.merge_rule g.met.F.Family.merges_equals c.args.leaves c.loop-first.first
    c.peak_from-height.result.0 c.peak_from-height.result.1 c.requires c.loop-first.invariant.cut
    c.loop-first-test.true c.peak_from-height.ensures).low

pub overflow_add-end : goal.overflow_add-end
overflow_add-end g c =
    let it = step g.F.Family.merge_rule g.met.F.Family.merges_equals c.args.leaves c.loop-first.first
    c.peak_from-height.result.0 c.peak_from-height.result.1 c.requires c.loop-first.invariant.cut
    c.loop-first-test.true c.peak_from-height.ensures in
    omega (arith, it.fits, c.requires)

pub returns-then-end-floor : goal.returns-then-end-floor
returns-then-end-floor g c =
    let it = step g.F.Family.merge_rule g.met.F.Family.merges_equals c.args.leaves c.loop-first.first
    c.peak_from-height.result.0 c.peak_from-height.result.1 c.requires c.loop-first.invariant.cut
    c.loop-first-test.true c.peak_from-height.ensures in
    let past = lt-leb (c.loop-first.first + 1 * 2 ^ c.peak_from-height.result.1 % 2 ^ 64) c.args.floor
    c.if-end-floor.true in
    let none : inactive_peaks c.args.floor (located_from c.loop-first.first
    (forest_of g.F.Family.merge_rule c.args.leaves)) ≡ 0 =
    it.inactive c.args.floor
    ∙ ap (λ b. cond b (suc (inactive_peaks c.args.floor
    (located_from (c.loop-first.first + 1 * 2 ^ c.peak_from-height.result.1 % 2 ^ 64)
    (forest_of g.F.Family.merge_rule c.args.leaves)))) 0) past in
    omega (arith, none, c.loop-first.invariant.counted)

pub loop-first-smaller : goal.loop-first-smaller
loop-first-smaller g c =
    let it = step g.F.Family.merge_rule g.met.F.Family.merges_equals c.args.leaves c.loop-first.first
    c.peak_from-height.result.0 c.peak_from-height.result.1 c.requires c.loop-first.invariant.cut
    c.loop-first-test.true c.peak_from-height.ensures in
    omega (arith, it.further, it.fits)

pub loop-first-preserved : goal.loop-first-preserved
loop-first-preserved g c =
    let it = step g.F.Family.merge_rule g.met.F.Family.merges_equals c.args.leaves c.loop-first.first
    c.peak_from-height.result.0 c.peak_from-height.result.1 c.requires c.loop-first.invariant.cut
    c.loop-first-test.true c.peak_from-height.ensures in
    let before = le-leb (c.loop-first.first + 1 * 2 ^ c.peak_from-height.result.1 % 2 ^ 64) c.args.floor
    c.if-end-floor.false in
    let one : inactive_peaks c.args.floor (located_from c.loop-first.first
    (forest_of g.F.Family.merge_rule c.args.leaves))
    ≡ suc (inactive_peaks c.args.floor (located_from
    (c.loop-first.first + 1 * 2 ^ c.peak_from-height.result.1 % 2 ^ 64)
    (forest_of g.F.Family.merge_rule c.args.leaves))) =
    it.inactive c.args.floor
    ∙ ap (λ b. cond b (suc (inactive_peaks c.args.floor
    (located_from (c.loop-first.first + 1 * 2 ^ c.peak_from-height.result.1 % 2 ^ 64)
    (forest_of g.F.Family.merge_rule c.args.leaves)))) 0) before in
    record {
      within = it.fits;
      small = omega (arith, it.further, c.loop-first.invariant.small);
      cut = it.cut;
      counted = omega (arith, one, c.loop-first.invariant.counted);
    }

pub returns : goal.returns
returns g c =
    let none = ap (inactive_peaks c.args.floor) (located_from-end
    (forest_of g.F.Family.merge_rule c.args.leaves) c.loop-first.first
    (omega (
      arith,
      c.loop-first-test.false,
      leaves-forest_of g.F.Family.merge_rule g.met.F.Family.merges_equals
          c.args.leaves,
    ))) in
    omega (arith, none, c.loop-first.invariant.counted)
