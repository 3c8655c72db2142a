use Rattle.std.proofs.Common.{◌≡◌, ◌∙◌, ℕ, Ok, Some, ap, sym, length}
use Rattle.std.specs.Option.{option_copied}
use Rattle.std.specs.Prelude.{Result}
use Rattle.state_theory.specs.Canonical.{Setting}
use Rattle.auth_store_parts.specs.History.{History, log_of}
use Rattle.auth_store_ledger.specs.Store.{setting_of_width}
use Rattle.auth_store_log.specs.Records.{Format, format_of}
use Rattle.auth_store_machine.specs.declared.error.StoreError.{StoreError}
use Rattle.auth_store_machine.proofs.Lives.{of_history}
use Rattle.auth_store_session.proofs.store.Store.len.Goals as goal

pub returns-clause-count : goal.returns-clause-count
returns-clause-count g c = λ history live.
    let format : Format = format_of (g.K.Read.after tt) (g.V.Read.after tt) g.K.FixedSize.SIZE g.V.FixedSize.SIZE in
    let setting : Setting = setting_of_width g.F.Family.merge_rule g.H.HashFunction.hash_of g.row.N in
    let ok : ℕ → Result ℕ StoreError = λ n. Ok n in
    let has : c.self.inside.live ≡ Some c.in_ok-live.live.now =
    sym c.as_ref.ensures.value ∙ ap option_copied c.in_ok-live.ensures.ok_part in
    of_history setting format (λ (h : History). ok c.len.result ≡ ok (length (log_of h)))
    c.self.inside.device c.self.inside.cache c.self.inside.live c.self.inside.pruned c.args.self.now
    c.in_ok-live.live.now _ history
    c.self.view_is has c.self.invariant.3 c.live.view_is live
    (λ log of. ap ok (c.len.ensures.len log of ∙ ap length of.keeps.whole))
