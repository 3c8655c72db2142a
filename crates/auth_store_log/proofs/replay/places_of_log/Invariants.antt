use Rattle.std.proofs.Common.{◌≡◌, ◌≤◌, List, length, option_map}
use Rattle.state_ops.specs.Operation.{Operation}
use Rattle.auth_store_parts.specs.History as spec
use Rattle.auth_store_parts.specs.Places.{places_of}
use Rattle.auth_store_parts.specs.Chains.{first_of}
use Rattle.auth_store_parts.specs.Ranked.{AreNamed}
use Rattle.auth_store_log.proofs.Batches.{IsReached}
use Rattle.auth_store_log.proofs.replay.places_of_log.Given as goal

-- what was passed is the log of a history, which has states, with its places and its first key; each operation has its key
-- at its location
abbrev pub invariant-loop-batch : goal.invariant-loop-batch
invariant-loop-batch g l =
    let key = g.K.Write.encoding in
    let value = g.V.Write.encoding in
    let said : List Operation = spec.meanings key value l.operations in
    let left : List Operation = spec.meanings key value l.rest in
    (history : spec.History) × IsReached history said left
    × (l.ranked.places ≡ places_of (spec.log_of history))
    × (l.floor ≤ spec.inactivity_floor (spec.log_of history))
    × spec.AreStates history
    × AreNamed l.ranked.names 0 said
    × (option_map (λ k. key k.now) l.first ≡ first_of (places_of (spec.log_of history)))

abbrev pub decreases-loop-batch : goal.decreases-loop-batch
decreases-loop-batch g l = length l.rest
