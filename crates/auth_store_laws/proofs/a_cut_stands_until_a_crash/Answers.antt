use Rattle.auth_store_laws.proofs.Cuts.{run_under_a_cut}
use Rattle.auth_store_laws.proofs.a_cut_stands_until_a_crash.Goals as goal

pub returns : goal.returns
returns c = run_under_a_cut
