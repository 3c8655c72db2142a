use Rattle.std.proofs.Common.{◌≤◌, ◌-◌, length}
use Rattle.auth_store_parts.specs.History as spec
use Rattle.auth_store_parts.proofs.history.activity.inactivity_floor_by.Given as goal

-- the floor is not before the location
abbrev pub invariant-loop-location : goal.invariant-loop-location
invariant-loop-location g l =
    l.location ≤ spec.inactivity_floor (spec.meanings g.K.Write.encoding g.V.Write.encoding l.log)

abbrev pub decreases-loop-location : goal.decreases-loop-location
decreases-loop-location g l = length l.log - l.location
