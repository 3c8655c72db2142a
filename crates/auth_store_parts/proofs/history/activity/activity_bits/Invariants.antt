use Rattle.std.proofs.Common.{◌≡◌, take}
use Rattle.auth_store_parts.specs.History as spec
use Rattle.auth_store_parts.proofs.history.activity.activity_bits.Given as goal

abbrev pub invariant-loop-location : goal.invariant-loop-location
invariant-loop-location g l = l.bits.items
    ≡ take l.location (spec.activity_bits (spec.meanings g.K.Write.encoding g.V.Write.encoding l.log))
