use Rattle.auth_store_index.specs.Laws.Commits.{again}
use Rattle.auth_store_index.proofs.laws.what_is_so_may_be_said_again.Goals as goal

pub returns : goal.returns
returns c = again
