use Rattle.std.proofs.Common.{◌≡◌, ◌∙◌, ◌≤◌, ◌-◌, ap, sym, length, map, drop, take, List, ℕ, arith}
use Rattle.std.proofs.lemmas.List.{length-map, length-drop, drop-map, take_rest}
use Rattle.state_ops.specs.Operation.{Operation, meaning_of}
use Rattle.auth_store_parts.specs.History as spec
use Rattle.auth_store_parts.specs.Laws.Floors.{floor_within, floor_left}
use Rattle.auth_store_parts.proofs.history.activity.inactivity_floor_from.Goals as goal

-- the floor, and so what is at or before it, is within the log
within : {A : Type 0} (meaning : A → Operation) (all : List A) (start : ℕ) → start ≤ spec.inactivity_floor (map meaning all)
    → start ≤ length all
within meaning all start before = omega (arith, before, floor_within (map meaning all), length-map all meaning)

pub offset_bounds-operations-start : goal.offset_bounds-operations-start
offset_bounds-operations-start g c = within (meaning_of g.K.Write.encoding g.V.Write.encoding) c.args.operations.now c.args.start c.requires

pub slice_bounds-rest-count : goal.slice_bounds-rest-count
slice_bounds-rest-count g c = within (meaning_of g.K.Write.encoding g.V.Write.encoding) c.args.operations.now c.args.start c.requires

pub slice_bounds-rest-start : goal.slice_bounds-rest-start
slice_bounds-rest-start g c = within (meaning_of g.K.Write.encoding g.V.Write.encoding) c.args.operations.now c.args.start c.requires

pub loop-rest-init : goal.loop-rest-init
loop-rest-init g c =
    let meaning = meaning_of g.K.Write.encoding g.V.Write.encoding in
    let all = c.args.operations.now in
    let start = c.args.start in
    let fits = within meaning all start c.requires in
    let rest : take (length all - start) (drop start all) ≡ drop start all = take_rest all start in
    let long : length (take (length all - start) (drop start all)) ≡ length all - start = ap length rest ∙ length-drop start all in
    let left = floor_left (spec.meanings g.K.Write.encoding g.V.Write.encoding all) start c.requires in
    let same : spec.inactivity_floor (spec.meanings g.K.Write.encoding g.V.Write.encoding (take (length all - start) (drop start all)))
    ≡ spec.inactivity_floor (drop start (spec.meanings g.K.Write.encoding g.V.Write.encoding all)) =
    ap (λ l. spec.inactivity_floor (spec.meanings g.K.Write.encoding g.V.Write.encoding l)) rest
    ∙ ap spec.inactivity_floor (sym (drop-map meaning start all)) in
    record { within = omega (arith, long); counted = omega (arith, same, left, long, fits) }
