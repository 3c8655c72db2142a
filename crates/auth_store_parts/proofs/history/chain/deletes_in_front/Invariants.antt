use Rattle.std.proofs.Common.{◌≡◌, ◌+◌, drop}
use Rattle.auth_store_parts.specs.History as spec
use Rattle.auth_store_parts.specs.Chains.{deletes_in_front}
use Rattle.auth_store_parts.proofs.history.chain.deletes_in_front.Given as goal

abbrev pub invariant-loop-operation : goal.invariant-loop-operation
invariant-loop-operation g l =
    let meanings = spec.meanings g.K.Write.encoding g.V.Write.encoding in
    record {
      passed : l.count ≡ l.operation-index;
      counted : l.count + deletes_in_front (meanings (drop l.operation-index l.operations))
          ≡ deletes_in_front (meanings l.operations);
    }
