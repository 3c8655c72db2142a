use Rattle.std.proofs.Common.{◌≡◌, ◌+◌, ◌≤◌, length}
use Rattle.auth_store_ledger.specs.History as spec
use Rattle.auth_store_ledger.specs.Store.{commit_count}
use Rattle.auth_store_ledger.proofs.ledger.commits_in.Given as goal

abbrev pub invariant-loop-rest : goal.invariant-loop-rest
invariant-loop-rest g l = record {
  counted : l.count + commit_count (spec.meanings g.K.Write.encoding g.V.Write.encoding l.rest) ≡ commit_count
      (spec.meanings g.K.Write.encoding g.V.Write.encoding l.operations);
  below : l.count + length l.rest ≤ length l.operations;
}

abbrev pub decreases-loop-rest : goal.decreases-loop-rest
decreases-loop-rest g l = length l.rest
