use Rattle.std.proofs.Common.{◌≡◌, ◌-◌, List, take, drop}
use Rattle.state_ops.specs.Operation.{Operation}
use Rattle.auth_store_log.specs.Records.{format_of}
use Rattle.auth_store_ledger.specs.History.{activity_bits}
use Rattle.auth_store_ledger.specs.Store.{IsLedgerOf, setting_of_width}
use Rattle.auth_store_proving.proofs.between.bits_between.Given as goal

abbrev pub invariant-loop-location : goal.invariant-loop-location
invariant-loop-location g l =
    (log : List Operation) → IsLedgerOf (setting_of_width g.F.Family.merge_rule g.H.HashFunction.hash_of g.row.N)
    (format_of (g.K.Read.after tt) (g.V.Read.after tt) g.K.FixedSize.SIZE g.V.FixedSize.SIZE) log l.ledger
    → l.bits.items ≡ take (l.location - l.start) (drop l.start (activity_bits log))
