use Rattle.std.proofs.Common.{◌≡◌, ℕ, ◌-◌, ◌^◌, length, ap, sym, ◌∙◌, arith}
use Rattle.std.specs.Int.Count.{ones-ones}
use Rattle.std.specs.Int.RustNames.{count_ones}
use Rattle.merkle_forest.specs.Forest.{forest_of, mmr_rule, mmb_rule}
use Rattle.merkle_forest.specs.Laws.ForestGrowth.{leaves-forest_of}
use Rattle.merkle_forest.specs.Laws.Mmb.{length-log}
use Rattle.merkle_forest.specs.Laws.Mmr.{forest_of-range, ones-range}
use Rattle.merkle_forest.specs.Laws.Rules.{mmr_merges_equals}
use Rattle.merkle_core_parts.specs.Laws.Placed.{length-pinned}
use Rattle.merkle_proofs.proofs.laws.pinned_nodes_are_few.Goals as goal

-- a range has a peak for each one of its leaf count in binary
ones-forest : (n : ℕ) → count_ones n ≡ length (forest_of mmr_rule n)
ones-forest n =
    ap count_ones (sym (leaves-forest_of mmr_rule mmr_merges_equals n))
    ∙ (ones-range 0 (forest_of mmr_rule n) (forest_of-range n)).2

ones_all : (k : ℕ) → count_ones (2 ^ k - 1) ≡ k
unfolding count_ones
ones_all = ones-ones

pub returns-clause-few : goal.returns-clause-few
returns-clause-few g c boundary few =
    omega (arith, length-pinned g.F.Family.merge_rule boundary, g.met.F.Family.peaks_bounded boundary few)

pub returns-clause-reached_by_ranges : goal.returns-clause-reached_by_ranges
returns-clause-reached_by_ranges g c =
    omega (arith, length-pinned mmr_rule (2 ^ 62 - 1), ones-forest (2 ^ 62 - 1), ones_all 62)

pub returns-clause-reached_by_belts : goal.returns-clause-reached_by_belts
returns-clause-reached_by_belts g c =
    omega (arith, length-pinned mmb_rule (2 ^ 62 - 1), length-log (2 ^ 62 - 1) 62 (omega arith) (omega arith))
