use Rattle.std.proofs.Common.{◌≡◌, ◌-◌, map, sym, ◌∙◌, ap, arith}
use Rattle.merkle_forest.specs.Forest.{height, peaks_after_merges}
use Rattle.merkle_forest.specs.Shape.{shape}
use Rattle.merkle_forest.proofs.ForestLemmas.{peaks_after_merges-zero, peaks_after_merges-none, peaks_after_merges-merged, size_bound}
use Rattle.merkle_forest.proofs.forest.merge_all.Goals as goal

pub returns-in_default-clause-merges_all : goal.returns-in_default-clause-merges_all
returns-in_default-clause-merges_all g c =
    let rule = g.F.Family.merge_rule in
    let none = ap (λ peaks. rule c.loop-merges.merges (map height (map shape peaks))) (sym c.deref.ensures.value)
    ∙ sym c.in_ok-index.ensures.index ∙ c.in_default.is in
    sym (peaks_after_merges-none rule (c.args.room - c.loop-merges.merges) c.loop-merges.merges _ none)
    ∙ c.loop-merges.invariant.merges_all

pub overflow_add-nodes : goal.overflow_add-nodes
overflow_add-nodes g c =
    omega (
      arith,
      size_bound (map shape c.loop-merges.peaks.items),
      c.loop-merges.invariant.sizes,
      c.loop-merges.invariant.kept,
      c.requires.few,
    )

pub loop-merges-preserved : goal.loop-merges-preserved
loop-merges-preserved g c =
    let rule = g.F.Family.merge_rule in
    let some = ap (λ peaks. rule c.loop-merges.merges (map height (map shape peaks))) (sym c.deref.ensures.value)
    ∙ sym c.in_ok-index.ensures.index ∙ c.in-Some.is in
    record {
      merges_all = peaks_after_merges-merged rule c.args.room c.loop-merges.merges c.in-Some.index c.loop-merges.nodes
          _ _ _ c.loop-merges-test.true some c.loop-merges.invariant.sizes c.in_ok-merge.ensures.with_parent
          c.loop-merges.invariant.merges_all;
      sizes = omega (arith, c.in_ok-merge.ensures.grown, c.loop-merges.invariant.sizes);
      kept = c.in_ok-merge.ensures.kept ∙ c.loop-merges.invariant.kept;
    }

pub returns-clause-merges_all : goal.returns-clause-merges_all
returns-clause-merges_all g c =
    let rule = g.F.Family.merge_rule in
    let peaks = map shape c.loop-merges.peaks.items in
    let none : c.args.room - c.loop-merges.merges ≡ 0 = omega arith in
    sym (peaks_after_merges-zero rule c.loop-merges.merges peaks)
    ∙ ap (λ room. peaks_after_merges rule room c.loop-merges.merges peaks) (sym none)
    ∙ c.loop-merges.invariant.merges_all
