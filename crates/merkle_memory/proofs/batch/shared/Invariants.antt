use Rattle.std.proofs.Common.{◌≡◌, ◌∷◌, map, take}
use Rattle.merkle_memory.proofs.batch.shared.Given as goal

abbrev pub invariant-loop-layer : goal.invariant-loop-layer
invariant-loop-layer g l = map (λ layer. layer.value) l.layers.items
    ≡ l.own.value ∷ map (λ layer. layer.value) (take l.layer-index l.below)
