use Rattle.std.proofs.Common.{refl, ◌∙◌, ap, subst, ◌≤◌, ◌<◌, arith, length, get_or}
use Rattle.auth_store_parts.specs.Batch.{meaning_of}
use Rattle.auth_store_parts.specs.Map.{state_of}
use Rattle.auth_store_index.specs.Sources.{source_value}
use Rattle.auth_store_index.specs.Laws.Sourced.{word_passed, words_passed}
use Rattle.auth_store_index.proofs.changes.apply_batch.Goals as goal

pub loop-word-init : goal.loop-word-init
loop-word-init g c = ((λ log. refl), (λ places all. all), omega arith)

pub loop-word-preserved : goal.loop-word-preserved
loop-word-preserved g c = (
  (λ log. let key = g.K.Write.encoding in
      let value = g.V.Write.encoding in
      let items = c.deref-word-items.ensures.value in
      word_passed (meaning_of key value) c.args.batch.now.words.items c.loop-word.word-index c.word-item.result
      (state_of key (source_value value log) c.loop-word.after.entries)
      (state_of key (source_value value log) c.apply_word.new.state.entries) _
      (subst (λ xs. c.loop-word.word-index < length xs) items c.loop-word-test.true)
      (c.word-item.is ∙ ap (λ xs. get_or xs c.loop-word.word-index c.word-item.result) items)
      (c.in_ok-apply_word.ensures.after log) (c.loop-word.invariant.0 log)),
  (λ places all. c.in_ok-apply_word.ensures.own places (c.loop-word.invariant.1 places all)),
  omega (arith, c.in_ok-apply_word.ensures.few, c.loop-word.invariant.2),
)

pub returns-clause-after : goal.returns-clause-after
returns-clause-after g c log =
    let key = g.K.Write.encoding in
    let value = g.V.Write.encoding in
    let past : length c.args.batch.now.words.items ≤ c.loop-word.word-index = omega (arith, c.loop-word-test.false) in
    words_passed (meaning_of key value) c.args.batch.now.words.items c.loop-word.word-index
    (state_of key (source_value value log) c.loop-word.after.entries) _ past (c.loop-word.invariant.0 log)

pub returns-clause-own : goal.returns-clause-own
returns-clause-own g c = c.loop-word.invariant.1

pub returns-clause-few : goal.returns-clause-few
returns-clause-few g c = omega (arith, c.loop-word.invariant.2, c.loop-word.auto.word-index-end)
