use Rattle.state_ops_parts.specs.Laws.Again.{fixed_sized}
use Rattle.state_ops_parts.proofs.laws.fixed_ones_have_one_size.Goals as goal

pub returns : goal.returns
returns g c = fixed_sized
