use Rattle.auth_store_parts.specs.Laws.Entries.{state_of-cloned}
use Rattle.auth_store_parts.proofs.state.copy_of.Goals as goal

pub returns : goal.returns
returns g c =
    state_of-cloned g.K.Write.encoding g.V.Write.encoding g.K.Clone.is_clone g.V.Clone.is_clone _
    g.met.K.Faithful.copied g.met.V.Faithful.copied c.args.state.now c.clone.result c.clone.ensures.cases
