use Rattle.std.proofs.Common.{◌++◌, List, ℕ, Some, map, sym, ◌∙◌, ap, subst}
use Rattle.std.specs.List.{AllByRecursion}
use Rattle.std.specs.Prelude.{IsSome}
use Rattle.merkle_forest.specs.Forest.{mmr_rule, forest_of}
use Rattle.merkle_forest.specs.Peaks.{peak_positions}
use Rattle.merkle_core_parts.specs.Mem.{node_at}
use Rattle.state_theory.proofs.PartsLemmas.{pinned_there}
use Rattle.state_proofs_parts.proofs.parts.pinned_digests.Goals as goal

pub loop-position-init : goal.loop-position-init
loop-position-init g c =
    let known = node_at mmr_rule c.args.tree.now in
    let same = c.into_iter-position-iterator.ensures.into_iter_gives ∙ c.nodes_to_pin-position-items.ensures
    ∙ ap (λ n. map (λ (peak : ℕ × ℕ). peak.0) (peak_positions (forest_of mmr_rule n))) c.pruning_boundary.ensures.boundary in
    record {
      rest = ap (λ items. map (λ (d : List ℕ). Some d) (map g.D.Write.encoding items) ++ map known c.into_iter-position-iterator.result)
          c.new-found.ensures.items ∙ ap (map known) same;
      there = subst (AllByRecursion (λ p. IsSome (known p))) (sym same) (pinned_there c.args.tree.now c.pruning_boundary.ensures.shape);
    }
