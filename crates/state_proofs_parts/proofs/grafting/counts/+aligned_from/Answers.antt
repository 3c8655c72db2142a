use Rattle.std.proofs.Common.{◌≡◌, ◌+◌, ◌%◌, ap, sym, ◌∙◌, arith}
use Rattle.merkle_forest.specs.Forest.{leaves, forest_of}
use Rattle.merkle_forest.specs.Laws.ForestGrowth.{leaves-forest_of}
use Rattle.merkle_forest.specs.Laws.Peaks.{located_from-end}
use Rattle.state_theory.specs.Grafting.{chunk_aligned_inactive_peaks}
use Rattle.state_theory.proofs.PeakSteps.{located_step, aligned_past, aligned_before, count_border, count_none, count_more}
use Rattle.state_proofs_parts.proofs.grafting.counts.+aligned_from.Goals as goal

pub returns-then-first-leaves-clause-count : goal.returns-then-first-leaves-clause-count
returns-then-first-leaves-clause-count g t c =
    let all : leaves (forest_of g.F.Family.merge_rule c.args.leaves) ≡ c.args.leaves =
    leaves-forest_of g.F.Family.merge_rule g.met.F.Family.merges_equals c.args.leaves in
    ap (chunk_aligned_inactive_peaks c.args.bits c.args.floor)
    (sym (located_from-end (forest_of g.F.Family.merge_rule c.args.leaves) c.args.first (omega (arith, all))))

pub returns-then-end-floor-clause-count : goal.returns-then-end-floor-clause-count
returns-then-end-floor-clause-count g t c =
    let it = c.peak_end-end.ensures.peak in
    sym (aligned_past c.args.bits c.args.floor c.args.first it.node _ _
    (located_step (forest_of g.F.Family.merge_rule c.args.leaves) c.args.first c.peak_end-end.result it) (omega (arith, it.leaves)))

pub returns-then-later-gt0-clause-count : goal.returns-then-later-gt0-clause-count
returns-then-later-gt0-clause-count g t c =
    let it = c.peak_end-end.ensures.peak in
    let some : c.aligned_from-later.result ≡ 0 → ⊥ = λ none. omega (arith, none) in
    sym (aligned_before c.args.bits c.args.floor c.args.first it.node _ _
    (located_step (forest_of g.F.Family.merge_rule c.args.leaves) c.args.first c.peak_end-end.result it) (omega (arith, it.leaves))
    ∙ count_more c.args.bits c.args.first it.node _ (λ none. some (c.aligned_from-later.ensures.count ∙ none))
    ∙ ap (λ k. k + 1) (sym c.aligned_from-later.ensures.count))

pub returns-then-end-bits-eq0-clause-count : goal.returns-then-end-bits-eq0-clause-count
returns-then-end-bits-eq0-clause-count g t c =
    let it = c.peak_end-end.ensures.peak in
    let none : c.aligned_from-later.result ≡ 0 = omega arith in
    sym (aligned_before c.args.bits c.args.floor c.args.first it.node _ _
    (located_step (forest_of g.F.Family.merge_rule c.args.leaves) c.args.first c.peak_end-end.result it) (omega (arith, it.leaves))
    ∙ count_border c.args.bits c.args.first it.node _ (sym c.aligned_from-later.ensures.count ∙ none)
    (ap (λ k. k % c.args.bits) (sym it.leaves) ∙ c.if-end-bits-eq0.true))

pub returns-else-end-bits-eq0-clause-count : goal.returns-else-end-bits-eq0-clause-count
returns-else-end-bits-eq0-clause-count g t c =
    let it = c.peak_end-end.ensures.peak in
    let none : c.aligned_from-later.result ≡ 0 = omega arith in
    sym (aligned_before c.args.bits c.args.floor c.args.first it.node _ _
    (located_step (forest_of g.F.Family.merge_rule c.args.leaves) c.args.first c.peak_end-end.result it) (omega (arith, it.leaves))
    ∙ count_none c.args.bits c.args.first it.node _ (sym c.aligned_from-later.ensures.count ∙ none)
    (λ border. c.if-end-bits-eq0.false (ap (λ k. k % c.args.bits) it.leaves ∙ border)))
