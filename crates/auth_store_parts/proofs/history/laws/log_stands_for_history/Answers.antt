use Rattle.auth_store_parts.specs.Laws.Logs.{history_of-log_of, replayed-log_of}
use Rattle.auth_store_parts.proofs.history.laws.log_stands_for_history.Goals as goal

pub returns : goal.returns
returns c = record { history = history_of-log_of; latest = replayed-log_of }
