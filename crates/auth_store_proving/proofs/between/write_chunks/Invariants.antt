use Rattle.std.proofs.Common.{◌≡◌, ◌-◌, ◌++◌, List, flat_map, take, drop}
use Rattle.state_ops.specs.Operation.{Operation}
use Rattle.state_theory.specs.Canonical.{chunks}
use Rattle.auth_store_log.specs.Records.{format_of}
use Rattle.auth_store_ledger.specs.History.{history_of}
use Rattle.auth_store_ledger.specs.Store.{IsLedgerOf, setting_of_width, state_of_history}
use Rattle.auth_store_proving.proofs.between.write_chunks.Given as goal

abbrev pub invariant-loop-chunk : goal.invariant-loop-chunk
invariant-loop-chunk g l =
    (log : List Operation) → IsLedgerOf (setting_of_width g.F.Family.merge_rule g.H.HashFunction.hash_of g.row.N)
    (format_of (g.K.Read.after tt) (g.V.Read.after tt) g.K.FixedSize.SIZE g.V.FixedSize.SIZE) log l.ledger
    → l.out.items ≡ l.fn.out.items ++ flat_map (λ chunk. chunk) (take (l.chunk - l.first)
    (drop l.first (chunks (setting_of_width g.F.Family.merge_rule g.H.HashFunction.hash_of g.row.N)
    (state_of_history g.K.FixedSize.SIZE g.V.FixedSize.SIZE (history_of log)))))
