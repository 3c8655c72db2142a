use Rattle.auth_store_parts.specs.History.{log_of}
use Rattle.auth_store_log.specs.Laws.Once.{log_once, history_once, log_begins}
use Rattle.auth_store_log.proofs.laws.one_history_a_log.Goals as goal

pub returns-clause-log : goal.returns-clause-log
returns-clause-log c = log_once

pub returns-clause-history : goal.returns-clause-history
returns-clause-history c = history_once

pub returns-clause-beginning : goal.returns-clause-beginning
returns-clause-beginning c = λ format one other. log_begins format (log_of one) (log_of other)
