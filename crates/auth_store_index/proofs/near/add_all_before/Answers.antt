use Rattle.std.proofs.Common.{refl, ◌∙◌, ap, subst, ◌≤◌, ◌<◌, arith, length, get_or}
use Rattle.auth_store_parts.specs.Batch.{meaning_of}
use Rattle.auth_store_parts.specs.Map.{Map, state_of}
use Rattle.auth_store_index.specs.Near.{prev_key, with_kept}
use Rattle.auth_store_index.specs.Sources.{source_value, value_there}
use Rattle.auth_store_index.specs.Laws.NearCode.{near_passed, near_ended}
use Rattle.auth_store_index.proofs.near.add_all_before.Goals as goal

pub loop-word-init : goal.loop-word-init
loop-word-init g c = ((λ log. refl), (λ all. all), omega arith)

pub loop-word-preserved : goal.loop-word-preserved
loop-word-preserved g c = (
  (λ log. let key = g.K.Write.encoding in
      let value = g.V.Write.encoding in
      let items = c.deref-word-items.ensures.value in
      let old : Map = state_of key (value_there log) c.args.index.now.entries in
      let gone : Map = state_of key (value_there log) c.args.gone.now.entries in
      let before : Map = state_of key (source_value value log) c.loop-word.near.entries in
      near_passed (meaning_of key value) old gone c.args.batch.now.words.items c.loop-word.word-index c.word-item.result before
      (state_of key (source_value value log) c.add_before.new.near.entries) _
      (subst (λ xs. c.loop-word.word-index < length xs) items c.loop-word-test.true)
      (c.word-item.is ∙ ap (λ xs. get_or xs c.loop-word.word-index c.word-item.result) items)
      (c.in_ok-add_before.ensures.near log ∙ ap (λ k. with_kept old gone before (prev_key old k)) c.named_key.ensures)
      (c.loop-word.invariant.0 log)),
  (λ all. c.in_ok-add_before.ensures.own (c.loop-word.invariant.1 all)),
  omega (arith, c.in_ok-add_before.ensures.few, c.loop-word.invariant.2),
)

pub returns-clause-near : goal.returns-clause-near
returns-clause-near g c log =
    let key = g.K.Write.encoding in
    let value = g.V.Write.encoding in
    let past : length c.args.batch.now.words.items ≤ c.loop-word.word-index = omega (arith, c.loop-word-test.false) in
    near_ended (meaning_of key value) (state_of key (value_there log) c.args.index.now.entries)
    (state_of key (value_there log) c.args.gone.now.entries) c.args.batch.now.words.items c.loop-word.word-index
    (state_of key (source_value value log) c.loop-word.near.entries) _ past (c.loop-word.invariant.0 log)

pub returns-clause-own : goal.returns-clause-own
returns-clause-own g c = c.loop-word.invariant.1

pub returns-clause-few : goal.returns-clause-few
returns-clause-few g c = omega (arith, c.loop-word.invariant.2, c.loop-word.auto.word-index-end)
