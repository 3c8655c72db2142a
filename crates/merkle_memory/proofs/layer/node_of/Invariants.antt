use Rattle.std.proofs.Common.{◌≡◌, ℕ, List, Option, map, length}
use Rattle.merkle_core_parts.specs.Layers.{known_above}
use Rattle.merkle_memory.proofs.layer.node_of.Given as goal

abbrev pub invariant-loop-rest : goal.invariant-loop-rest
invariant-loop-rest g l = (known : ℕ → Option (List ℕ))
    → known_above g.F.Family.merge_rule (map (λ layer. layer.value) l.rest) known l.position
    ≡ known_above g.F.Family.merge_rule (map (λ layer. layer.value) l.layers) known l.position

abbrev pub decreases-loop-rest : goal.decreases-loop-rest
decreases-loop-rest g l = length l.rest
