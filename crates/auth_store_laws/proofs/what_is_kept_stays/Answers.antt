use Rattle.auth_store_laws.proofs.Stays.{step_goes_on, run_goes_on}
use Rattle.auth_store_laws.proofs.what_is_kept_stays.Goals as goal

pub returns-clause-step : goal.returns-clause-step
returns-clause-step c = step_goes_on

pub returns-clause-run : goal.returns-clause-run
returns-clause-run c = run_goes_on
