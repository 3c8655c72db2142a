use Rattle.std.proofs.Common.{◌≡◌, drop}
use Rattle.auth_store_parts.specs.History as spec
use Rattle.auth_store_parts.specs.Staged.{without_deleted}
use Rattle.auth_store_parts.proofs.history.places.Places.follow_deletes.Given as goal

abbrev pub invariant-loop-operation : goal.invariant-loop-operation
invariant-loop-operation g l =
    let meanings = spec.meanings g.K.Write.encoding g.V.Write.encoding in
    without_deleted l.self (meanings (drop l.operation-index l.operations))
    ≡ without_deleted l.initial.self (meanings l.operations)
