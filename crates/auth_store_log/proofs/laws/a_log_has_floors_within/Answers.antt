use Rattle.auth_store_log.specs.Laws.Floors.{floors_of_log}
use Rattle.auth_store_log.proofs.laws.a_log_has_floors_within.Goals as goal

pub returns : goal.returns
returns c = floors_of_log
