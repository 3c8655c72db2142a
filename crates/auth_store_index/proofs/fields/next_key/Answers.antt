use Rattle.auth_store_parts.specs.Laws.Entries.{next_key-above, next_key-least}
use Rattle.auth_store_index.proofs.fields.next_key.Goals as goal

pub returns-in-Some : goal.returns-in-Some
returns-in-Some g c value = next_key-above g.K.Write.encoding value g.K.Ord.cmp g.met.K.FixedKey.in_order
    c.args.state.now.entries c.next.new.self c.range-above.result c.args.key.now
    (c.in-Some.next.now, c.in-Some.field-0-1.now) (c.range-above.ensures.between tt) c.in-Some.ensures.steps

pub returns-in-Some-first_key_value : goal.returns-in-Some-first_key_value
returns-in-Some-first_key_value g c value = next_key-least g.K.Write.encoding value g.K.Ord.cmp
    g.met.K.FixedKey.in_order c.args.state.now.entries c.range-above.result c.args.key.now
    (c.in-Some-first_key_value.least.now, c.in-Some-first_key_value.field-0-1.now)
    (c.range-above.ensures.between tt) c.in-None.ensures.steps.0 c.in-Some-first_key_value.ensures.first
