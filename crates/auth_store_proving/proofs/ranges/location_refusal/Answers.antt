use Rattle.std.proofs.Common.{◌<◌, ◌*◌, ℕ, ap, length, arith}
use Rattle.std.proofs.lemmas.Bool.{lt-ltb}
use Rattle.std.proofs.lemmas.Option.{slice_get_past}
use Rattle.state_theory.specs.Canonical.{Setting}
use Rattle.auth_store_ledger.specs.History.{History, history_of, log_of}
use Rattle.auth_store_ledger.specs.Store.{setting_of_width}
use Rattle.auth_store_proving.proofs.Answered.{operation_missing, operation_pruned, some_there}
use Rattle.auth_store_proving.proofs.ranges.location_refusal.Goals as goal

pub returns-then-len-location-clause-refusal : goal.returns-then-len-location-clause-refusal
returns-then-len-location-clause-refusal g c log of =
    let setting : Setting = setting_of_width g.F.Family.merge_rule g.H.HashFunction.hash_of g.row.N in
    let history : History = history_of log in
    operation_missing g.F.PendingOf.pending_encoding setting g.K.FixedSize.SIZE g.V.FixedSize.SIZE history
    c.args.ledger.now.kept.bits.pruned c.args.location
    (slice_get_past (log_of history) c.args.location (omega (arith, c.len.ensures.len log of, ap length of.keeps.whole)))

pub returns-then-location-kept_from-clause-refusal : goal.returns-then-location-kept_from-clause-refusal
returns-then-location-kept_from-clause-refusal g c log of =
    let setting : Setting = setting_of_width g.F.Family.merge_rule g.H.HashFunction.hash_of g.row.N in
    let history : History = history_of log in
    let pruned : ℕ = c.args.ledger.now.kept.bits.pruned in
    let at : c.args.location < length (log_of history) = omega (arith, c.len.ensures.len log of, ap length of.keeps.whole) in
    let it = some_there (log_of history) c.args.location at in
    operation_pruned g.F.PendingOf.pending_encoding setting g.K.FixedSize.SIZE g.V.FixedSize.SIZE history pruned c.args.location it.0 it.1
    (lt-ltb c.args.location (8 * g.row.N * pruned) (omega (arith, c.kept_from.ensures)))
