use Rattle.std.proofs.Common.{◌≡◌, length, ap, sym, arith}
use Rattle.merkle_forest.specs.Forest.{leaves, forest_of}
use Rattle.merkle_forest.specs.Laws.ForestGrowth.{leaves-forest_of}
use Rattle.merkle_forest.specs.Laws.Peaks.{located_from-end}
use Rattle.merkle_theory.proofs.Walks.{walk_from}
use Rattle.merkle_proofs.proofs.subtree.+peaks_from.Goals as goal

pub returns-then-first-leaves-clause-count : goal.returns-then-first-leaves-clause-count
returns-then-first-leaves-clause-count g t c =
    let all : leaves (forest_of g.F.Family.merge_rule c.args.leaves) ≡ c.args.leaves =
    leaves-forest_of g.F.Family.merge_rule g.met.F.Family.merges_equals c.args.leaves in
    ap length (sym (located_from-end (forest_of g.F.Family.merge_rule c.args.leaves) c.args.first (omega (arith, all))))

pub returns-clause-count : goal.returns-clause-count
returns-clause-count g t c =
    let step = walk_from g.F.Family.merge_rule c.args.leaves c.args.first _ _ _ _ c.peak_at-next.ensures.peak in
    omega (arith, ap length step, c.peaks_from.ensures.count)
