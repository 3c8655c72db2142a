use Rattle.std.proofs.Common.{◌≡◌, ◌+◌, drop}
use Rattle.auth_store_parts.specs.History as spec
use Rattle.auth_store_parts.specs.Places.{placed}
use Rattle.auth_store_parts.proofs.history.places.Places.follow_each.Given as goal

abbrev pub invariant-loop-operation : goal.invariant-loop-operation
invariant-loop-operation g l =
    let meanings = spec.meanings g.K.Write.encoding g.V.Write.encoding in
    record {
      stands : l.location ≡ l.start + l.operation-index;
      placed : placed l.location l.self (meanings (drop l.operation-index l.operations))
          ≡ placed l.start l.initial.self (meanings l.operations);
    }
