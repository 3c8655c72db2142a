use Rattle.std.proofs.Common.{◌≡◌, drop}
use Rattle.auth_store_parts.specs.History as spec
use Rattle.auth_store_parts.specs.Map.{state_of}
use Rattle.auth_store_parts.proofs.history.replay.apply_operations.Given as goal

abbrev pub invariant-loop-operation : goal.invariant-loop-operation
invariant-loop-operation g l =
    spec.replayed (state_of g.K.Write.encoding g.V.Write.encoding l.state.entries)
    (spec.meanings g.K.Write.encoding g.V.Write.encoding (drop l.operation-index l.operations))
    ≡ spec.replayed (state_of g.K.Write.encoding g.V.Write.encoding l.fn.state.entries)
    (spec.meanings g.K.Write.encoding g.V.Write.encoding l.operations)
