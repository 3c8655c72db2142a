use Rattle.std.proofs.Common.{◌∙◌, ap}
use Rattle.auth_store_parts.specs.Map.{state_of}
use Rattle.auth_store_parts.specs.Laws.Entries.{state_of-remove_entry}
use Rattle.auth_store_parts.proofs.state.remove.Goals as goal

pub returns : goal.returns
returns g c = ap (state_of g.K.Write.encoding g.V.Write.encoding) c.remove.ensures.entries
    ∙ state_of-remove_entry g.K.Write.encoding g.V.Write.encoding g.K.Ord.cmp g.met.K.FixedKey.in_order
    c.args.state.now.entries c.args.key.now
