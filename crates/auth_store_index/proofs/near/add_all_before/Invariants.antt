use Rattle.std.proofs.Common.{◌≡◌, ◌+◌, ◌≤◌, drop, length, List, [], ◌∷◌}
use Rattle.state_ops.specs.Operation.{Operation}
use Rattle.auth_store_parts.specs.Map.{Map, state_of}
use Rattle.auth_store_parts.specs.Batch.{meanings}
use Rattle.auth_store_index.specs.Near.{near_after}
use Rattle.auth_store_index.specs.Sources.{AreOwn, source_value, value_there}
use Rattle.auth_store_index.proofs.near.add_all_before.Given as goal

abbrev pub invariant-loop-word : goal.invariant-loop-word
invariant-loop-word g l = ((log : List Operation) →
    let old : Map = state_of g.K.Write.encoding (value_there log) l.index.entries in
    let gone : Map = state_of g.K.Write.encoding (value_there log) l.gone.entries in
    near_after old gone (state_of g.K.Write.encoding (source_value g.V.Write.encoding log) l.near.entries)
    (meanings g.K.Write.encoding g.V.Write.encoding (drop l.word-index l.batch.words.items))
    ≡ near_after old gone (state_of g.K.Write.encoding (source_value g.V.Write.encoding log) l.fn.near.entries)
    (meanings g.K.Write.encoding g.V.Write.encoding l.batch.words.items))
    × (AreOwn g.K.Write.encoding (state_of g.K.Write.encoding (λ place. place ∷ []) l.index.entries) l.fn.near.entries
    → AreOwn g.K.Write.encoding (state_of g.K.Write.encoding (λ place. place ∷ []) l.index.entries) l.near.entries)
    × (length l.near.entries ≤ length l.fn.near.entries + l.word-index)
