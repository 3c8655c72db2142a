use Rattle.std.proofs.Common.{◌≡◌, ◌+◌, ◌≤◌, length}
use Rattle.auth_store_parts.specs.History as spec
use Rattle.auth_store_parts.proofs.history.activity.inactivity_floor_from.Given as goal

abbrev pub invariant-loop-rest : goal.invariant-loop-rest
invariant-loop-rest g l = record {
  within : length l.rest ≤ length l.operations;
  counted : spec.inactivity_floor
      (spec.meanings g.K.Write.encoding g.V.Write.encoding l.rest) + length l.operations ≡ spec.inactivity_floor
      (spec.meanings g.K.Write.encoding g.V.Write.encoding l.operations) + length l.rest;
}

abbrev pub decreases-loop-rest : goal.decreases-loop-rest
decreases-loop-rest g l = length l.rest
