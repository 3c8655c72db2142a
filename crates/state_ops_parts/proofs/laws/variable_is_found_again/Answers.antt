use Rattle.state_ops_parts.specs.Laws.Again.{variable_again}
use Rattle.state_ops_parts.proofs.laws.variable_is_found_again.Goals as goal

pub returns : goal.returns
returns g c = variable_again
