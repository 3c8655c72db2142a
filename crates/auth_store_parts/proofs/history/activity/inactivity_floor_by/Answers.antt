use Rattle.std.proofs.Common.{◌≡◌, ◌∙◌, ◌<◌, ℕ, zero, suc, sym, refl, List, [], ◌∷◌, length, Some, slice_get, arith}
use Rattle.std.proofs.lemmas.List.{length-map}
use Rattle.state_ops.specs.Operation.{Operation, meaning_of}
use Rattle.auth_store_parts.specs.History as spec
use Rattle.auth_store_parts.specs.Laws.Floors.{floor_there, floor_behind, floor_within}
use Rattle.auth_store_parts.proofs.history.activity.inactivity_floor_by.Goals as goal

-- an operation stands at each location within a log
some_there : (log : List Operation) (location : ℕ) → location < length log
    → (operation : Operation) × (slice_get log location ≡ Some operation)
some_there [] location within = absurd (omega (arith, within))
some_there (operation ∷ later) zero within = (operation, refl)
some_there (operation ∷ later) (suc location) within = some_there later location (omega (arith, within))

pub loop-location-preserved : goal.loop-location-preserved
loop-location-preserved g c =
    let log : List Operation = spec.meanings g.K.Write.encoding g.V.Write.encoding c.args.log.now in
    let within : c.loop-location.location < length log =
    omega (
      arith,
      c.loop-location-test.true,
      length-map c.args.log.now (meaning_of g.K.Write.encoding g.V.Write.encoding),
    ) in
    let here = some_there log c.loop-location.location within in
    floor_behind log c.loop-location.location here.0 here.1 c.loop-location.invariant
    (sym (c.is_active_update_at.ensures here.0 here.1) ∙ c.if-not-is_active_update_at.true)

pub returns-else-not-is_active_update_at : goal.returns-else-not-is_active_update_at
returns-else-not-is_active_update_at g c =
    let log : List Operation = spec.meanings g.K.Write.encoding g.V.Write.encoding c.args.log.now in
    let within : c.loop-location.location < length log =
    omega (
      arith,
      c.loop-location-test.true,
      length-map c.args.log.now (meaning_of g.K.Write.encoding g.V.Write.encoding),
    ) in
    let here = some_there log c.loop-location.location within in
    floor_there log c.loop-location.location here.0 here.1 c.loop-location.invariant
    (sym (c.is_active_update_at.ensures here.0 here.1) ∙ c.if-not-is_active_update_at.false)

pub returns-after-loop-location : goal.returns-after-loop-location
returns-after-loop-location g c =
    let log : List Operation = spec.meanings g.K.Write.encoding g.V.Write.encoding c.args.log.now in
    omega (
      arith,
      c.loop-location-test.false,
      c.loop-location.invariant,
      floor_within log,
      length-map c.args.log.now (meaning_of g.K.Write.encoding g.V.Write.encoding),
    )
