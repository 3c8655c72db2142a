use Rattle.auth_store_laws.proofs.Unpruned.{with_pruned, keeps_history, steps_unpruned, prune_leaves}
use Rattle.auth_store_laws.proofs.pruning_changes_no_answer.Goals as goal

pub returns-clause-history : goal.returns-clause-history
returns-clause-history c m before after history pruned location answer next step =
    prune_leaves m before after history pruned location answer next step

pub returns-clause-answers : goal.returns-clause-answers
returns-clause-answers c m before after history pruned other request answer next asked behind too step = (
  with_pruned other next,
  steps_unpruned m before after history pruned other request answer next asked behind too step,
  keeps_history other next,
)
