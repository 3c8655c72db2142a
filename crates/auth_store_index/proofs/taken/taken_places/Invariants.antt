use Rattle.std.proofs.Common.{◌≡◌, ◌++◌, drop}
use Rattle.auth_store_parts.specs.History as spec
use Rattle.auth_store_index.specs.Growth.{taken}
use Rattle.auth_store_index.proofs.taken.taken_places.Given as goal

abbrev pub invariant-loop-operation : goal.invariant-loop-operation
invariant-loop-operation g l =
    l.out.items ++ taken l.places l.last (spec.meanings g.K.Write.encoding g.V.Write.encoding (drop l.operation-index l.operations))
    ≡ taken l.places l.last (spec.meanings g.K.Write.encoding g.V.Write.encoding l.operations)
