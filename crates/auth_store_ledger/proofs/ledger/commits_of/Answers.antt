use Rattle.std.proofs.Common.{◌∙◌}
use Rattle.state_ops.specs.Operation.{meaning_of}
use Rattle.auth_store_ledger.specs.Laws.Places.{counted}
use Rattle.auth_store_ledger.proofs.ledger.commits_of.Goals as goal

pub returns-in-len1-up : goal.returns-in-len1-up
returns-in-len1-up g c = c.commits_in.ensures
    ∙ counted (meaning_of g.K.Write.encoding g.V.Write.encoding) c.args.operations.now c.in-len1-up.len_at_least
