use Rattle.std.proofs.Common.{◌≡◌, ◌++◌, drop, map}
use Rattle.auth_store_index.specs.Touched.{is_no_delete}
use Rattle.auth_store_ledger.specs.History.{meanings}
use Rattle.auth_store_ledger.proofs.ledger.commit.bits_of.Given as goal

abbrev pub invariant-loop-operation : goal.invariant-loop-operation
invariant-loop-operation g l =
    l.bits.items ++ map is_no_delete (meanings g.K.Write.encoding g.V.Write.encoding (drop l.operation-index l.changes))
    ≡ map is_no_delete (meanings g.K.Write.encoding g.V.Write.encoding l.changes)
