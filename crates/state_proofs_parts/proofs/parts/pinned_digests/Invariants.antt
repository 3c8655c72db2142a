use Rattle.std.proofs.Common.{◌≡◌, ◌++◌, List, ℕ, Some, map}
use Rattle.std.specs.List.{AllByRecursion}
use Rattle.std.specs.Prelude.{IsSome}
use Rattle.merkle_forest.specs.Forest.{mmr_rule}
use Rattle.merkle_core_parts.specs.Mem.{node_at, pinned_positions}
use Rattle.state_proofs_parts.proofs.parts.pinned_digests.Given as goal

abbrev pub invariant-loop-position : goal.invariant-loop-position
invariant-loop-position g l = record {
  rest : map (λ (d : List ℕ). Some d) (map g.D.Write.encoding l.found.items) ++ map (node_at mmr_rule l.tree) l.position-iterator
      ≡ map (node_at mmr_rule l.tree) (pinned_positions mmr_rule l.tree.boundary);
  there : AllByRecursion (λ p. IsSome (node_at mmr_rule l.tree p)) l.position-iterator;
}
