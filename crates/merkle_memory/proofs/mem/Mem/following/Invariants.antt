use Rattle.std.proofs.Common.{◌≡◌, ◌+◌, ◌<◌, Some, ℕ, map}
use Rattle.std.specs.Prelude.{slice_get}
use Rattle.merkle_core_parts.specs.Layers.{bases}
use Rattle.merkle_core_parts.specs.Mem.{base_of}
use Rattle.merkle_memory.proofs.mem.Mem.following.Given as goal

abbrev pub invariant-loop-layer : goal.invariant-loop-layer
invariant-loop-layer g l = record {
  counted : l.count ≡ l.layer-index;
  none_before : (i : ℕ) → i < l.count + 1
      → slice_get (bases l.own.base (map (λ layer. layer.value) l.below)) i ≡ Some (base_of g.F.Family.merge_rule l.self) → ⊥;
}
