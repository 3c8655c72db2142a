use Rattle.state_ops_parts.proofs.update.cached.Goals as goal

pub returns-in-None : goal.returns-in-None
returns-in-None g c needs = (c.update.result, (c.update.ensures, c.cache.ensures))
