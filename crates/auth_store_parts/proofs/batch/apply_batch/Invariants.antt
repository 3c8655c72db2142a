use Rattle.std.proofs.Common.{◌≡◌, drop}
use Rattle.auth_store_parts.specs.Map.{state_of}
use Rattle.auth_store_parts.specs.Batch.{meanings, map_after}
use Rattle.auth_store_parts.proofs.batch.apply_batch.Given as goal

abbrev pub invariant-loop-word : goal.invariant-loop-word
invariant-loop-word g l =
    map_after (meanings g.K.Write.encoding g.V.Write.encoding (drop l.word-index l.batch.words.items))
    (state_of g.K.Write.encoding g.V.Write.encoding l.after.entries)
    ≡ map_after (meanings g.K.Write.encoding g.V.Write.encoding l.batch.words.items)
    (state_of g.K.Write.encoding g.V.Write.encoding l.fn.state.entries)
