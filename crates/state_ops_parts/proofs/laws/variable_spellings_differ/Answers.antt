use Rattle.state_ops_parts.specs.Laws.Again.{variable_once}
use Rattle.state_ops_parts.proofs.laws.variable_spellings_differ.Goals as goal

pub returns : goal.returns
returns g c = variable_once
