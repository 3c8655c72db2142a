use Rattle.state_ops_parts.specs.Laws.Again.{fixed_again}
use Rattle.state_ops_parts.proofs.laws.fixed_is_found_again.Goals as goal

pub returns : goal.returns
returns g c = fixed_again
