use Rattle.auth_store_laws.proofs.Causes.{run_faults, run_cuts, run_numbers}
use Rattle.auth_store_laws.proofs.a_run_tells_causes.Goals as goal

pub returns-clause-faults : goal.returns-clause-faults
returns-clause-faults c = run_faults

pub returns-clause-cuts : goal.returns-clause-cuts
returns-clause-cuts c = run_cuts

pub returns-clause-numbers : goal.returns-clause-numbers
returns-clause-numbers c = run_numbers
