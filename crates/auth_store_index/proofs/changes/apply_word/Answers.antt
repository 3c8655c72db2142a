use Rattle.std.proofs.Common.{◌∙◌, ap, sym, subst}
use Rattle.auth_store_parts.specs.Map.{state_of}
use Rattle.auth_store_parts.specs.Batch as words
use Rattle.auth_store_parts.specs.Laws.Entries.{state_of-insert_copies, state_of-remove_entry}
use Rattle.auth_store_index.specs.declared.values.Source.TheVariants.{Given}
use Rattle.auth_store_index.specs.Sources.{source_value, AreOwn}
use Rattle.auth_store_index.specs.Laws.Sourced.{own_insert, own_remove}
use Rattle.auth_store_index.proofs.changes.apply_word.Goals as goal

pub returns-in_ok-insert-in-Put-clause-after : goal.returns-in_ok-insert-in-Put-clause-after
returns-in_ok-insert-in-Put-clause-after g c log =
    let key = g.K.Write.encoding in
    let value = g.V.Write.encoding in
    state_of-insert_copies key (source_value value log) g.K.Ord.cmp g.met.K.FixedKey.in_order c.args.state.now.entries _
    c.in-Put.key c.in_ok-key-in-Put.key (Given c.in-Put.value) (Given c.in_ok-value-in-Put.value)
    (g.met.K.Faithful.copied c.in-Put.key c.in_ok-key-in-Put.key c.in_ok-key-in-Put.ensures.cases)
    (g.met.V.Faithful.copied c.in-Put.value c.in_ok-value-in-Put.value c.in_ok-value-in-Put.ensures.cases)
    c.in_ok-insert-in-Put.ensures.entries
    ∙ ap (λ word. words.after_word (words.meaning_of key value word) (state_of key (source_value value log) c.args.state.now.entries))
    (sym c.in-Put.is)

pub returns-in-Delete-clause-after : goal.returns-in-Delete-clause-after
returns-in-Delete-clause-after g c log =
    let key = g.K.Write.encoding in
    let value = g.V.Write.encoding in
    ap (state_of key (source_value value log)) c.remove.ensures.entries
    ∙ (state_of-remove_entry key (source_value value log) g.K.Ord.cmp g.met.K.FixedKey.in_order c.args.state.now.entries c.in-Delete.key
    ∙ ap (λ word. words.after_word (words.meaning_of key value word) (state_of key (source_value value log) c.args.state.now.entries))
    (sym c.in-Delete.is))

pub returns-in_ok-insert-in-Put-clause-own : goal.returns-in_ok-insert-in-Put-clause-own
returns-in_ok-insert-in-Put-clause-own g c places all =
    subst (AreOwn g.K.Write.encoding places) (sym c.in_ok-insert-in-Put.ensures.entries)
    (own_insert g.K.Write.encoding places g.K.Ord.cmp g.met.K.FixedKey.in_order c.args.state.now.entries c.in_ok-key-in-Put.key
    (Given c.in_ok-value-in-Put.value) all tt)

pub returns-in-Delete-clause-own : goal.returns-in-Delete-clause-own
returns-in-Delete-clause-own g c places all =
    subst (AreOwn g.K.Write.encoding places) (sym c.remove.ensures.entries)
    (own_remove g.K.Write.encoding places _ c.args.state.now.entries all)
