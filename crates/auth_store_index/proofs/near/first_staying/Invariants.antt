use Rattle.std.proofs.Common.{◌≡◌, ℕ, List}
use Rattle.auth_store_parts.specs.Chains.{first_of}
use Rattle.auth_store_parts.specs.Map.{state_of}
use Rattle.auth_store_index.specs.Near.{staying}
use Rattle.auth_store_index.proofs.near.first_staying.Given as goal

abbrev pub invariant-loop-key : goal.invariant-loop-key
invariant-loop-key g l = (value : ℕ → List ℕ) →
    first_of (staying (state_of g.K.Write.encoding value l.gone.entries) (state_of g.K.Write.encoding value l.key-iterator))
    ≡ first_of (staying (state_of g.K.Write.encoding value l.gone.entries) (state_of g.K.Write.encoding value l.fn.entries))
