use Rattle.auth_store_parts.specs.Laws.Entries.{state_of-insert_copies}
use Rattle.auth_store_parts.proofs.state.put.Goals as goal

pub returns-clause-ok : goal.returns-clause-ok
returns-clause-ok g c =
    state_of-insert_copies g.K.Write.encoding g.V.Write.encoding g.K.Ord.cmp g.met.K.FixedKey.in_order
    c.args.state.now.entries _ c.args.key.now c.in_ok-key.key c.args.value.now c.in_ok-value.value
    (g.met.K.Faithful.copied c.args.key.now c.in_ok-key.key c.in_ok-key.ensures.cases)
    (g.met.V.Faithful.copied c.args.value.now c.in_ok-value.value c.in_ok-value.ensures.cases)
    c.in_ok-insert.ensures.entries
