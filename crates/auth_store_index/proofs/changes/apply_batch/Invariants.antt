use Rattle.std.proofs.Common.{◌≡◌, ◌+◌, ◌≤◌, drop, length, List}
use Rattle.state_ops.specs.Operation.{Operation}
use Rattle.auth_store_parts.specs.Map.{Map, state_of}
use Rattle.auth_store_parts.specs.Batch.{meanings, map_after}
use Rattle.auth_store_index.specs.Sources.{AreOwn, source_value}
use Rattle.auth_store_index.proofs.changes.apply_batch.Given as goal

abbrev pub invariant-loop-word : goal.invariant-loop-word
invariant-loop-word g l = ((log : List Operation) →
    map_after (meanings g.K.Write.encoding g.V.Write.encoding (drop l.word-index l.batch.words.items))
    (state_of g.K.Write.encoding (source_value g.V.Write.encoding log) l.after.entries)
    ≡ map_after (meanings g.K.Write.encoding g.V.Write.encoding l.batch.words.items)
    (state_of g.K.Write.encoding (source_value g.V.Write.encoding log) l.fn.state.entries))
    × ((places : Map) → AreOwn g.K.Write.encoding places l.fn.state.entries → AreOwn g.K.Write.encoding places l.after.entries)
    × (length l.after.entries ≤ length l.fn.state.entries + l.word-index)
