use Rattle.state_ops.specs.Laws.Again.{read_once}
use Rattle.state_ops.proofs.ordered.laws.encodings_differ.Goals as goal

pub returns : goal.returns
returns c = read_once
