use Rattle.std.proofs.Common.{◌≡◌, ◌+◌, ◌≤◌, ◌++◌, ◌∷◌, length}
use Rattle.auth_store_parts.specs.Map.{Map, state_of, first_key}
use Rattle.auth_store_parts.specs.Places.{places_of}
use Rattle.auth_store_parts.specs.History as spec
use Rattle.auth_store_index.specs.Near.{IsTold}
use Rattle.auth_store_index.specs.Sources.{AreOwn, source_value, value_there}
use Rattle.auth_store_index.proofs.near.push_near.Given as goal

-- the entries passed, the one whose update comes next, and those behind it are all that are near; the log stays;
-- each logged one that is left names its key's place; each entry passed has taken one read at most
abbrev pub invariant-loop-end : goal.invariant-loop-end
invariant-loop-end g l =
    let key = g.K.Write.encoding in
    let log = g.L.LoggedValues.log l.fn.log in
    let value = source_value g.V.Write.encoding log in
    let old : Map = state_of key (value_there log) l.index.entries in
    let gone : Map = state_of key (value_there log) l.gone.entries in
    let near : Map = state_of key value l.near.entries in
    let left : Map = (key l.key, value l.source) ∷ state_of key value l.end-iterator in
    (passed : Map) × (passed ++ left ≡ near) × spec.IsState near × (key l.first ≡ first_key near)
    × ((new : Map) → IsTold old gone near new
    → spec.meanings key g.V.Write.encoding l.out.items ++ spec.updates left old new
    ≡ spec.meanings key g.V.Write.encoding l.fn.out.items ++ spec.updates near old new)
    × (g.L.LoggedValues.log l.log ≡ log)
    × AreOwn key (places_of log) ((l.key, l.source) ∷ l.end-iterator)
    × (g.L.LoggedValues.reads l.log + (length l.end-iterator + 1)
    ≤ g.L.LoggedValues.reads l.fn.log + length l.near.entries)
    × g.L.LoggedValues.leads l.fn.log l.log
