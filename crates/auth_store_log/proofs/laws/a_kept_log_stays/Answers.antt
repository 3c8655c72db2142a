use Rattle.auth_store_log.specs.Laws.Shown.{keeps_bytes, keeps_log}
use Rattle.auth_store_log.proofs.laws.a_kept_log_stays.Goals as goal

pub returns-clause-bytes : goal.returns-clause-bytes
returns-clause-bytes c = keeps_bytes

pub returns-clause-log : goal.returns-clause-log
returns-clause-log c = keeps_log
