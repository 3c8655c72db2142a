use Rattle.std.proofs.Common.{◌≡◌, drop, option_map}
use Rattle.auth_store_parts.specs.Chains as chains
use Rattle.auth_store_parts.specs.Chains.{Pointer}
use Rattle.auth_store_parts.specs.History as spec
use Rattle.auth_store_parts.proofs.history.chain.over_deletes.Given as goal

-- the walk over all deletes goes on with those that are left
abbrev pub invariant-loop-at : goal.invariant-loop-at
invariant-loop-at g l =
    let key = g.K.Write.encoding in
    let meanings = spec.meanings key g.V.Write.encoding in
    let old = spec.latest_map (spec.history_of (meanings l.log)) in
    (first_old first_new : Pointer)
    → chains.over_deletes old first_old first_new (meanings (drop l.at l.deletes))
    (option_map (λ k. key k.now) l.pointers.0) (option_map (λ k. key k.now) l.pointers.1)
    ≡ chains.over_deletes old first_old first_new (meanings l.deletes)
    (option_map (λ k. key k.now) l.from.0) (option_map (λ k. key k.now) l.from.1)
