use Rattle.std.proofs.Common.{◌≡◌, ◌+◌, drop}
use Rattle.auth_store_parts.specs.History as spec
use Rattle.auth_store_parts.specs.Map.{Map}
use Rattle.auth_store_parts.specs.Staged.{updated, told, AreEarlier}
use Rattle.auth_store_parts.proofs.history.places.Places.follow_each_update.Given as goal

abbrev pub invariant-loop-operation : goal.invariant-loop-operation
invariant-loop-operation g l =
    let meanings = spec.meanings g.K.Write.encoding g.V.Write.encoding in
    record {
      stands : l.location ≡ l.start + l.operation-index;
      updated : updated l.location l.self (meanings (drop l.operation-index l.operations))
          ≡ updated l.start l.initial.self (meanings l.operations);
      earlier : (first : Map) → AreEarlier first l.initial.self (told g.K.Write.encoding l.initial.earlier.items)
          → AreEarlier first l.self (told g.K.Write.encoding l.earlier.items);
    }
