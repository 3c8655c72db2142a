use Rattle.std.proofs.Common.{◌∙◌, ap, sym, option_map}
use Rattle.auth_store_parts.specs.Laws.Entries.{value_at-state_of}
use Rattle.auth_store_index.specs.Laws.NearCode.{prev_below, prev_last}
use Rattle.auth_store_index.proofs.near.entry_before.Goals as goal

pub returns-in-Some : goal.returns-in-Some
returns-in-Some g c value =
    let key = g.K.Write.encoding in (
      prev_below key value g.K.Ord.cmp g.met.K.FixedKey.in_order c.args.state.now.entries c.range-below.result
          c.next_back.new.self c.args.key.now (c.in-Some.before.now, c.in-Some.value.now) (c.range-below.ensures.between tt)
          c.in-Some.ensures.steps,
      sym (value_at-state_of key value g.K.Ord.cmp g.met.K.FixedKey.in_order c.args.state.now.entries c.in-Some.before.now)
          ∙ ap (λ o. option_map value o)
          ((c.range-below.ensures.in_range tt).3 (c.in-Some.before.now, c.in-Some.value.now) c.next_back.new.self c.in-Some.ensures.steps).1,
    )

pub returns-in-Some-last_key_value : goal.returns-in-Some-last_key_value
returns-in-Some-last_key_value g c value =
    let key = g.K.Write.encoding in (
      prev_last key value g.K.Ord.cmp g.met.K.FixedKey.in_order c.args.state.now.entries c.range-below.result c.args.key.now
          (c.in-Some-last_key_value.last.now, c.in-Some-last_key_value.value.now) (c.range-below.ensures.between tt)
          c.in-None.ensures.steps.0 c.in-Some-last_key_value.ensures.last,
      sym (value_at-state_of key value g.K.Ord.cmp g.met.K.FixedKey.in_order c.args.state.now.entries
          c.in-Some-last_key_value.last.now)
          ∙ ap (λ o. option_map value o) c.in-Some-last_key_value.ensures.value,
    )
