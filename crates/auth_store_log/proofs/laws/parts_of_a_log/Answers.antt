use Rattle.auth_store_log.specs.Laws.Recorded.{recorded_together}
use Rattle.auth_store_log.specs.Laws.Floors.{floors_together, floors_apart}
use Rattle.auth_store_log.proofs.laws.parts_of_a_log.Goals as goal

pub returns-clause-recorded : goal.returns-clause-recorded
returns-clause-recorded c = recorded_together

pub returns-clause-floors : goal.returns-clause-floors
returns-clause-floors c = floors_together

pub returns-clause-apart : goal.returns-clause-apart
returns-clause-apart c = floors_apart
