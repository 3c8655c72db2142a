use Rattle.std.proofs.Common.{◌≡◌, map, length}
use Rattle.merkle_core_parts.specs.Layers.{oldest_leaves}
use Rattle.merkle_memory.proofs.batch.oldest_base.Given as goal

abbrev pub invariant-loop-rest : goal.invariant-loop-rest
invariant-loop-rest g l = oldest_leaves l.leaves (map (λ layer. layer.value) l.rest)
    ≡ oldest_leaves l.own.base.leaves (map (λ layer. layer.value) l.below)

abbrev pub decreases-loop-rest : goal.decreases-loop-rest
decreases-loop-rest g l = length l.rest
