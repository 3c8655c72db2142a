use Rattle.auth_store_parts.proofs.Batches.{commits_counted, no_commit}
use Rattle.auth_store_parts.proofs.history.laws.one_commit_a_batch.Goals as goal

pub returns-clause-operations : goal.returns-clause-operations
returns-clause-operations c = no_commit

pub returns-clause-commits : goal.returns-clause-commits
returns-clause-commits c = commits_counted
