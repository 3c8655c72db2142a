use Rattle.auth_store_index.specs.Laws.Floors.{ends-log_of}
use Rattle.auth_store_index.proofs.laws.logs_end_with_a_commit.Goals as goal

pub returns : goal.returns
returns c = λ history. let e = ends-log_of history in (e.front, e.metadata, e.whole)
