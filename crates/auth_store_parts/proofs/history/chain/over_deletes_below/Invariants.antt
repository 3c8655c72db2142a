use Rattle.std.proofs.Common.{◌≡◌, ℕ, Bool, List, drop, option_map}
use Rattle.state_ops.specs.Operation.{Operation}
use Rattle.auth_store_parts.specs.Chains as chains
use Rattle.auth_store_parts.specs.Chains.{Pointer}
use Rattle.auth_store_parts.specs.History as spec
use Rattle.auth_store_parts.proofs.history.chain.over_deletes_below.Given as goal

-- the walk up to the update goes on with the deletes that are left
abbrev pub invariant-loop-at : goal.invariant-loop-at
invariant-loop-at g l =
    let key = g.K.Write.encoding in
    let meanings = spec.meanings key g.V.Write.encoding in
    let old = spec.latest_map (spec.history_of (meanings l.log)) in
    (first_new : Pointer) (v n : List ℕ) (go : List Operation → Pointer → Pointer → Bool)
    → chains.up_to_update old first_new (key l.key) v n go (meanings (drop l.at l.all))
    (option_map (λ k. key k.now) l.pointers.0) (option_map (λ k. key k.now) l.pointers.1)
    ≡ chains.up_to_update old first_new (key l.key) v n go (meanings l.all)
    (option_map (λ k. key k.now) l.from.0) (option_map (λ k. key k.now) l.from.1)
