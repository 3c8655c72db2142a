use Rattle.auth_store_log.specs.Laws.Shown.{keeps_whole, keeps_pending, keeps_first}
use Rattle.auth_store_log.proofs.laws.a_kept_log_is_shown.Goals as goal

pub returns-clause-whole : goal.returns-clause-whole
returns-clause-whole c = keeps_whole

pub returns-clause-pending : goal.returns-clause-pending
returns-clause-pending c = keeps_pending

pub returns-clause-first : goal.returns-clause-first
returns-clause-first c = keeps_first
