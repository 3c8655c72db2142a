use Rattle.auth_store_parts.specs.Laws.Logs.{replayed-batch}
use Rattle.auth_store_parts.proofs.history.laws.operations_lead_to_state.Goals as goal

pub returns : goal.returns
returns c = replayed-batch
