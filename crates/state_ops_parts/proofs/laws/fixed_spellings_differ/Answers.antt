use Rattle.state_ops_parts.specs.Laws.Again.{fixed_once}
use Rattle.state_ops_parts.proofs.laws.fixed_spellings_differ.Goals as goal

pub returns : goal.returns
returns g c = fixed_once
