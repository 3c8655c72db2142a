use Rattle.auth_store_laws.proofs.Doubts.{step_keeps, run_keeps}
use Rattle.auth_store_laws.proofs.what_is_kept_stays_in_doubt.Goals as goal

pub returns-clause-step : goal.returns-clause-step
returns-clause-step c = step_keeps

pub returns-clause-run : goal.returns-clause-run
returns-clause-run c = run_keeps
