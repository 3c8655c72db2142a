use Rattle.state_ops.specs.Laws.Again.{read_again}
use Rattle.state_ops.proofs.ordered.laws.encoded_is_read_again.Goals as goal

pub returns : goal.returns
returns c = read_again
