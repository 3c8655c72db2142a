use Rattle.auth_store_parts.specs.Laws.Logs.{IsState-map_after}
use Rattle.auth_store_parts.proofs.history.laws.batch_keeps_state.Goals as goal

pub returns : goal.returns
returns c = IsState-map_after
