use Rattle.std.proofs.Common.{◌≡◌, ◌+◌, length}
use Rattle.auth_store_parts.specs.History as spec
use Rattle.auth_store_parts.specs.Places.{placed}
use Rattle.auth_store_parts.proofs.history.places.Places.follow_all.Given as goal

abbrev pub invariant-loop-rest : goal.invariant-loop-rest
invariant-loop-rest g l =
    let meanings = spec.meanings g.K.Write.encoding g.V.Write.encoding in
    record {
      stands : l.location + length l.rest ≡ l.start + length l.operations;
      placed : placed l.location l.self (meanings l.rest) ≡ placed l.start l.initial.self (meanings l.operations);
    }

abbrev pub decreases-loop-rest : goal.decreases-loop-rest
decreases-loop-rest g l = length l.rest
