use Rattle.auth_store_device.specs.Laws.Openings.{none_openings, openings_none}
use Rattle.auth_store_device.proofs.laws.chance_is_told_by_each_opening.Goals as goal

pub returns-clause-all : goal.returns-clause-all
returns-clause-all c = λ sum size calls. openings_none sum size calls

pub returns-clause-none : goal.returns-clause-none
returns-clause-none c = λ sum size calls. none_openings sum size calls
