use Rattle.std.proofs.Common.{◌≡◌, ◌++◌, ◌∷◌}
use Rattle.auth_store_parts.specs.Map.{Map, state_of, first_key}
use Rattle.auth_store_parts.specs.History as spec
use Rattle.auth_store_parts.proofs.history.changes.push_updates.Given as goal

-- the entries passed, the one whose update comes next, and those behind it are the new state
abbrev pub invariant-loop-next : goal.invariant-loop-next
invariant-loop-next g l =
    let old : Map = state_of g.K.Write.encoding g.V.Write.encoding l.old.entries in
    let new : Map = state_of g.K.Write.encoding g.V.Write.encoding l.new.entries in
    let left : Map = (g.K.Write.encoding l.key, g.V.Write.encoding l.value)
    ∷ state_of g.K.Write.encoding g.V.Write.encoding l.next-iterator in
    (passed : Map) × (passed ++ left ≡ new) × spec.IsState new × (g.K.Write.encoding l.first ≡ first_key new)
    × (spec.meanings g.K.Write.encoding g.V.Write.encoding l.out.items ++ spec.updates left old new
    ≡ spec.meanings g.K.Write.encoding g.V.Write.encoding l.fn.out.items ++ spec.updates new old new)
