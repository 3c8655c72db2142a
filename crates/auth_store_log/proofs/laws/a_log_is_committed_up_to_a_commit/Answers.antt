use Rattle.auth_store_log.specs.Laws.Records.{committed_whole, committed_history, committed_first}
use Rattle.auth_store_log.proofs.laws.a_log_is_committed_up_to_a_commit.Goals as goal

pub returns-clause-whole : goal.returns-clause-whole
returns-clause-whole c = committed_whole

pub returns-clause-part : goal.returns-clause-part
returns-clause-part c = committed_history

pub returns-clause-first : goal.returns-clause-first
returns-clause-first c = committed_first
