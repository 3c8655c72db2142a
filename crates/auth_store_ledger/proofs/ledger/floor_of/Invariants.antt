use Rattle.std.proofs.Common.{◌≡◌, length}
use Rattle.auth_store_ledger.specs.History as spec
use Rattle.auth_store_ledger.proofs.ledger.floor_of.Given as goal

abbrev pub invariant-loop-rest : goal.invariant-loop-rest
invariant-loop-rest g l = spec.floor_after l.floor (spec.meanings g.K.Write.encoding g.V.Write.encoding l.rest)
    ≡ spec.last_floor (spec.meanings g.K.Write.encoding g.V.Write.encoding l.operations)

abbrev pub decreases-loop-rest : goal.decreases-loop-rest
decreases-loop-rest g l = length l.rest
