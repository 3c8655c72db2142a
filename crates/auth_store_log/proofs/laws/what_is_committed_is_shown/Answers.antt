use Rattle.auth_store_log.specs.Laws.Shown.{keeps_reopens, keeps_committed, keeps_begun}
use Rattle.auth_store_log.proofs.laws.what_is_committed_is_shown.Goals as goal

pub returns-clause-shown : goal.returns-clause-shown
returns-clause-shown c = keeps_reopens

pub returns-clause-kept : goal.returns-clause-kept
returns-clause-kept c = keeps_committed

pub returns-clause-begun : goal.returns-clause-begun
returns-clause-begun c = keeps_begun
