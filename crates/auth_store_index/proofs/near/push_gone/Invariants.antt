use Rattle.std.proofs.Common.{◌≡◌, ◌++◌, ℕ, List, map}
use Rattle.state_ops.specs.Operation.{delete}
use Rattle.auth_store_parts.specs.Map.{state_of}
use Rattle.auth_store_parts.specs.History as spec
use Rattle.auth_store_index.proofs.near.push_gone.Given as goal

abbrev pub invariant-loop-key : goal.invariant-loop-key
invariant-loop-key g l = (value : ℕ → List ℕ) → spec.meanings g.K.Write.encoding g.V.Write.encoding l.out.items
    ++ map (λ e. delete e.0) (state_of g.K.Write.encoding value l.key-iterator)
    ≡ spec.meanings g.K.Write.encoding g.V.Write.encoding l.fn.out.items
    ++ map (λ e. delete e.0) (state_of g.K.Write.encoding value l.gone.entries)
