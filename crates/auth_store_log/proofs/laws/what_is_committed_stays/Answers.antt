use Rattle.auth_store_log.specs.Laws.Records.{committed_again}
use Rattle.auth_store_log.proofs.laws.what_is_committed_stays.Goals as goal

pub returns : goal.returns
returns c = committed_again
