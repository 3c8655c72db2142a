use Rattle.std.proofs.Common.{rules, ◌≡◌, ◌∙◌, ◌<◌, ◌*◌, ℕ, Bool, List, None, Some, ap, sym, slice_get, length, arith}
use Rattle.std.proofs.lemmas.Bool.{le-ltb}
use Rattle.state_ops.specs.Operation.{Operation}
use Rattle.state_theory.specs.Canonical.{Setting}
use Rattle.auth_store_ledger.specs.History.{History, activity_bits, history_of, log_of}
use Rattle.auth_store_ledger.specs.Store.{setting_of_width}
use Rattle.auth_store_proving.proofs.Answered.{operation_inactive, some_there}
use Rattle.auth_store_proving.proofs.ranges.operation_refusal.Goals as goal

pub returns-then-not-is_active-clause-refusal : goal.returns-then-not-is_active-clause-refusal
returns-then-not-is_active-clause-refusal g c log of =
    let setting : Setting = setting_of_width g.F.Family.merge_rule g.H.HashFunction.hash_of g.row.N in
    let history : History = history_of log in
    let pruned : ℕ = c.args.ledger.now.kept.bits.pruned in
    let none : c.location_refusal.result ≡ None = search rules in
    let at : c.args.location < length (log_of history) =
    omega (arith, c.location_refusal.ensures.within none, of.keeps.current.leaves, ap length of.keeps.whole) in
    let it = some_there (log_of history) c.args.location at in
    let bit = ap (λ (l : List Operation). slice_get (activity_bits l) c.args.location) (sym of.keeps.whole)
    ∙ (c.is_active.ensures log of ∙ ap (λ (b : Bool). Some b) c.if-not-is_active.true) in
    operation_inactive g.F.PendingOf.pending_encoding setting g.K.FixedSize.SIZE g.V.FixedSize.SIZE history pruned c.args.location it.0 it.1
    (le-ltb c.args.location (8 * g.row.N * pruned) (c.location_refusal.ensures.kept none)) bit

pub returns-clause-active : goal.returns-clause-active
returns-clause-active g c log of none = c.is_active.ensures log of ∙ ap (λ (b : Bool). Some b) c.if-not-is_active.false
