use Rattle.std.proofs.Common.{ℕ, ◌∙◌, ap}
use Rattle.state_theory.specs.Canonical.{Setting}
use Rattle.auth_store_log.specs.Records.{Format, format_of}
use Rattle.auth_store_ledger.specs.History.{last_floor}
use Rattle.auth_store_ledger.specs.Store.{LedgerState, setting_of_width}
use Rattle.auth_store_ledger.proofs.Seen.{inside}
use Rattle.auth_store_ledger.proofs.ledger.Ledger.floor.Goals as goal

pub returns-clause-floor : goal.returns-clause-floor
returns-clause-floor g c log of =
    let key : ℕ = g.K.FixedSize.SIZE in
    let value : ℕ = g.V.FixedSize.SIZE in
    let setting : Setting = setting_of_width g.F.Family.merge_rule g.H.HashFunction.hash_of g.row.N in
    let format : Format = format_of (g.K.Read.after tt) (g.V.Read.after tt) key value in
    let keeps = (inside setting format log c.self.inside.places c.self.inside.commits c.self.inside.current c.args.self.now c.self.view_is of).keeps in
    c.as_u64.ensures ∙ (c.floor.ensures ∙ (keeps.current.stands.floor ∙ ap last_floor keeps.whole))

pub returns-clause-kept : goal.returns-clause-kept
returns-clause-kept g c = c.as_u64.ensures ∙ (c.floor.ensures ∙ ap (λ (s : LedgerState). s.kept.floor) c.self.view_is)
