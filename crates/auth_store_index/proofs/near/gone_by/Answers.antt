use Rattle.std.proofs.Common.{◌∙◌, ap, subst, ◌≤◌, ◌<◌, arith, length, get_or}
use Rattle.auth_store_parts.specs.Batch.{meaning_of, meanings}
use Rattle.auth_store_parts.specs.Map.{Map, state_of}
use Rattle.auth_store_index.specs.Near.{with_gone, gone_after}
use Rattle.auth_store_index.specs.Sources.{source_value, value_there}
use Rattle.auth_store_index.specs.Laws.NearCode.{gone_passed, gone_ended}
use Rattle.auth_store_index.proofs.near.gone_by.Goals as goal

pub loop-word-init : goal.loop-word-init
loop-word-init g c log =
    let key = g.K.Write.encoding in
    let old : Map = state_of key (value_there log) c.args.index.now.entries in
    let puts : Map = state_of key (source_value g.V.Write.encoding log) c.args.puts.now.entries in
    ap (λ es. gone_after old puts (state_of key (value_there log) es) (meanings key g.V.Write.encoding c.args.batch.now.words.items))
    c.new-gone.ensures.empty

pub loop-word-preserved : goal.loop-word-preserved
loop-word-preserved g c log =
    let key = g.K.Write.encoding in
    let value = g.V.Write.encoding in
    let items = c.deref-word-items.ensures.value in
    let old : Map = state_of key (value_there log) c.args.index.now.entries in
    let puts : Map = state_of key (source_value value log) c.args.puts.now.entries in
    let before : Map = state_of key (value_there log) c.loop-word.gone.entries in
    gone_passed (meaning_of key value) old puts c.args.batch.now.words.items c.loop-word.word-index c.word-item.result before
    (state_of key (value_there log) c.add_gone.new.gone.entries) _
    (subst (λ xs. c.loop-word.word-index < length xs) items c.loop-word-test.true)
    (c.word-item.is ∙ ap (λ xs. get_or xs c.loop-word.word-index c.word-item.result) items)
    (c.in_ok-add_gone.ensures log ∙ ap (with_gone old puts before) c.named_key.ensures) (c.loop-word.invariant log)

pub returns : goal.returns
returns g c log =
    let key = g.K.Write.encoding in
    let value = g.V.Write.encoding in
    let past : length c.args.batch.now.words.items ≤ c.loop-word.word-index = omega (arith, c.loop-word-test.false) in
    gone_ended (meaning_of key value) (state_of key (value_there log) c.args.index.now.entries)
    (state_of key (source_value value log) c.args.puts.now.entries) c.args.batch.now.words.items c.loop-word.word-index
    (state_of key (value_there log) c.loop-word.gone.entries) _ past (c.loop-word.invariant log)
