use Rattle.auth_store_parts.proofs.Chained.{first_behind}
use Rattle.auth_store_parts.proofs.history.laws.first_after_a_batch.Goals as goal

pub returns : goal.returns
returns c = first_behind
