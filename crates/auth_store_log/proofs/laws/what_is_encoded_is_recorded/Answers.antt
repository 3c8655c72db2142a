use Rattle.auth_store_log.specs.Laws.Recorded.{encoded_is_recorded}
use Rattle.auth_store_log.proofs.laws.what_is_encoded_is_recorded.Goals as goal

pub returns : goal.returns
returns c = encoded_is_recorded
