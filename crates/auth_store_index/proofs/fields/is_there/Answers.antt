use Rattle.std.proofs.Common.{◌∙◌}
use Rattle.auth_store_parts.specs.Laws.Entries.{value_at-state_of}
use Rattle.auth_store_index.specs.Laws.Sourced.{there}
use Rattle.auth_store_index.proofs.fields.is_there.Goals as goal

pub returns : goal.returns
returns g c value = c.is_some.ensures ∙ there value c.get.result _ _ c.get.ensures.value
    (value_at-state_of g.K.Write.encoding value g.K.Ord.cmp g.met.K.FixedKey.in_order c.args.state.now.entries c.args.key.now)
