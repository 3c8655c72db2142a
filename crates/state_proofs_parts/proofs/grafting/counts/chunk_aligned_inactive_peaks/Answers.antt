use Rattle.std.proofs.Common.{◌≡◌, ◌*◌, ◌%◌, ◌^◌, ℕ, ◌∙◌, ap, arith}
use Rattle.std.proofs.lemmas.Nat.{one_shl}
use Rattle.merkle_forest.specs.Forest.{forest_of}
use Rattle.merkle_forest.specs.Laws.ForestGrowth.{leaves-forest_of}
use Rattle.merkle_forest.specs.Laws.Nodes.{first_peak}
use Rattle.merkle_forest.specs.Laws.Peaks.{located_from-zero}
use Rattle.merkle_forest.specs.Peaks.{located_from}
use Rattle.state_theory.specs.Grafting.{chunk_aligned_inactive_peaks}
use Rattle.state_proofs_parts.proofs.grafting.counts.chunk_aligned_inactive_peaks.Goals as goal

pub aligned_from-requires-clause-begins : goal.aligned_from-requires-clause-begins
aligned_from-requires-clause-begins g c = λ some.
    first_peak (forest_of g.F.Family.merge_rule c.as_u64-2.result)
    (omega (arith, some, leaves-forest_of g.F.Family.merge_rule g.met.F.Family.merges_equals c.as_u64-2.result))

pub returns-clause-count : goal.returns-clause-count
returns-clause-count g c =
    let shift : 1 * 2 ^ c.args.grafting_height % 2 ^ 64 ≡ 2 ^ c.args.grafting_height = one_shl c.args.grafting_height 64 c.requires in
    let count : ℕ → ℕ → ℕ → ℕ = λ bits floor n. chunk_aligned_inactive_peaks bits floor (located_from 0 (forest_of g.F.Family.merge_rule n)) in
    c.aligned_from.ensures.count
    ∙ ap (λ k. count k c.as_u64-3.result c.as_u64-2.result) shift
    ∙ ap (λ k. count (2 ^ c.args.grafting_height) k c.as_u64-2.result) c.as_u64-3.ensures
    ∙ ap (count (2 ^ c.args.grafting_height) c.args.floor) c.as_u64-2.ensures
    ∙ ap (chunk_aligned_inactive_peaks (2 ^ c.args.grafting_height) c.args.floor)
    (located_from-zero (forest_of g.F.Family.merge_rule c.args.leaves))
