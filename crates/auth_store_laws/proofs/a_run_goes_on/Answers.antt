use Rattle.auth_store_machine.proofs.Runs.{one_more}
use Rattle.auth_store_laws.proofs.a_run_goes_on.Goals as goal

pub returns : goal.returns
returns c = one_more
