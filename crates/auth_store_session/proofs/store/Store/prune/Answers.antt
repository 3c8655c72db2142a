use Rattle.std.proofs.Common.{◌≡◌, ◌∙◌, refl, ap}
use Rattle.auth_store_ledger.specs.Store.{setting_of_width}
use Rattle.auth_store_log.specs.Records.{Format, format_of}
use Rattle.state_theory.specs.Canonical.{Setting}
use Rattle.auth_store_machine.specs.declared.error.StoreError.TheVariants.{Memory, PastFloor}
use Rattle.auth_store_machine.specs.Stores.{StoreState, with_pruned}
use Rattle.auth_store_machine.proofs.Lives.{pruned_live, pruned_of, seen_pruned, unpruned_of}
use Rattle.auth_store_session.proofs.store.Store.prune.Goals as goal

pub invariant_of-self : goal.invariant_of-self
invariant_of-self g c =
    let format : Format = format_of (g.K.Read.after tt) (g.V.Read.after tt) g.K.FixedSize.SIZE g.V.FixedSize.SIZE in
    let setting : Setting = setting_of_width g.F.Family.merge_rule g.H.HashFunction.hash_of g.row.N in (
      c.self.invariant.0,
      c.self.invariant.1,
      c.self.invariant.2,
      pruned_live setting format c.self.inside.device.calls c.self.inside.cache c.self.inside.live
          c.prune_live.new.store c.args.location c.in-Ok.chunks c.prune_live.ensures.writer c.in-Ok.ensures.ok
          c.self.invariant.3,
      c.in-Ok.ensures.pruned,
    )

pub returns-in-Ok-clause-ok : goal.returns-in-Ok-clause-ok
returns-in-Ok-clause-ok g c = λ history live.
    let format : Format = format_of (g.K.Read.after tt) (g.V.Read.after tt) g.K.FixedSize.SIZE g.V.FixedSize.SIZE in
    let setting : Setting = setting_of_width g.F.Family.merge_rule g.H.HashFunction.hash_of g.row.N in
    let said = pruned_of setting format c.self.inside.device c.self.inside.cache c.self.inside.live
    c.prune_live.new.store c.self.inside.pruned c.args.self.now c.args.location c.in-Ok.chunks history c.self.view_is
    live c.self.invariant.3 c.self.invariant.4 c.in-Ok.ensures.ok in (refl, said.0, said.1)

pub returns-in-Err-clause-past : goal.returns-in-Err-clause-past
returns-in-Err-clause-past g c = λ history live.
    let format : Format = format_of (g.K.Read.after tt) (g.V.Read.after tt) g.K.FixedSize.SIZE g.V.FixedSize.SIZE in
    let setting : Setting = setting_of_width g.F.Family.merge_rule g.H.HashFunction.hash_of g.row.N in
    unpruned_of setting format c.self.inside.device c.self.inside.cache c.self.inside.live c.self.inside.pruned
    c.args.self.now c.args.location (c.in-Err.error ≡ PastFloor) (c.in-Err.error ≡ Memory) history c.self.view_is live
    c.self.invariant.3 c.in-Err.ensures.refused

pub returns-in-Ok-clause-rest : goal.returns-in-Ok-clause-rest
returns-in-Ok-clause-rest g c =
    let format : Format = format_of (g.K.Read.after tt) (g.V.Read.after tt) g.K.FixedSize.SIZE g.V.FixedSize.SIZE in
    let setting : Setting = setting_of_width g.F.Family.merge_rule g.H.HashFunction.hash_of g.row.N in
    let is = seen_pruned setting format c.self.inside.device.calls c.self.inside.cache c.self.inside.live
    c.prune_live.new.store c.args.location c.in-Ok.chunks c.prune_live.ensures.writer c.in-Ok.ensures.ok
    c.self.invariant.3 c.in-Ok.ensures.pruned in
    let chunks = c.in-Ok.chunks in
    ap (λ l. record { device = c.self.inside.device; cache = c.self.inside.cache; live = l; pruned = chunks }) is
    ∙ ap (λ (s : StoreState g.row.R.Denot). record s { live = with_pruned s.live chunks; pruned = chunks })
    c.self.view_is
