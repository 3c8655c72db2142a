use Rattle.std.proofs.Common.{◌≡◌, ◌+◌, ◌++◌, ◌∷◌, [], drop}
use Rattle.auth_store_parts.specs.History as spec
use Rattle.auth_store_parts.specs.Map.{state_of}
use Rattle.auth_store_parts.specs.Places.{located_keys}
use Rattle.auth_store_parts.proofs.history.places.located_keys.Given as goal

abbrev pub invariant-loop-index : goal.invariant-loop-index
invariant-loop-index g l =
    let meanings = spec.meanings g.K.Write.encoding g.V.Write.encoding in
    state_of g.K.Write.encoding (λ location. location ∷ []) l.keys.items
    ++ located_keys (l.start + l.index) (meanings (drop l.index l.operations))
    ≡ located_keys l.start (meanings l.operations)
