use Rattle.std.proofs.Common.{◌∙◌}
use Rattle.auth_store_parts.specs.Laws.Entries.{option_map-copied, value_at-state_of}
use Rattle.auth_store_parts.proofs.state.get.Goals as goal

pub returns : goal.returns
returns g c = option_map-copied g.V.Write.encoding c.get.result _ c.get.ensures.value
    ∙ value_at-state_of g.K.Write.encoding g.V.Write.encoding g.K.Ord.cmp g.met.K.FixedKey.in_order c.args.state.now.entries
    c.args.key.now
