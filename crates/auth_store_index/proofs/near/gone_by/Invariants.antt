use Rattle.std.proofs.Common.{◌≡◌, [], drop, List}
use Rattle.state_ops.specs.Operation.{Operation}
use Rattle.auth_store_parts.specs.Map.{Map, state_of}
use Rattle.auth_store_parts.specs.Batch.{meanings}
use Rattle.auth_store_index.specs.Near.{gone_after}
use Rattle.auth_store_index.specs.Sources.{source_value, value_there}
use Rattle.auth_store_index.proofs.near.gone_by.Given as goal

abbrev pub invariant-loop-word : goal.invariant-loop-word
invariant-loop-word g l = (log : List Operation) →
    let old : Map = state_of g.K.Write.encoding (value_there log) l.index.entries in
    let puts : Map = state_of g.K.Write.encoding (source_value g.V.Write.encoding log) l.puts.entries in
    gone_after old puts (state_of g.K.Write.encoding (value_there log) l.gone.entries)
    (meanings g.K.Write.encoding g.V.Write.encoding (drop l.word-index l.batch.words.items))
    ≡ gone_after old puts [] (meanings g.K.Write.encoding g.V.Write.encoding l.batch.words.items)
