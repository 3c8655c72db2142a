use Rattle.std.proofs.Common.{◌≡◌, ◌∙◌, ap, sym, subst, true}
use Rattle.std.specs.Prelude.{is_some}
use Rattle.auth_store_device.specs.Devices.{DeviceState}
use Rattle.auth_store_ledger.specs.Store.{setting_of_width}
use Rattle.auth_store_log.specs.Records.{Format, format_of}
use Rattle.auth_store_machine.specs.Reads.{seen_on}
use Rattle.auth_store_machine.specs.Stores.{StoreState}
use Rattle.auth_store_machine.proofs.Lives.{kept_through}
use Rattle.auth_store_session.proofs.store.Store.cut_after.Goals as goal

pub invariant_of-self : goal.invariant_of-self
invariant_of-self g c = (
  c.self.invariant.0,
  subst (λ (d : DeviceState g.row.R.Denot). is_some d.log ≡ true) (sym c.cut_after.ensures) c.self.invariant.1,
  c.self.invariant.2,
  kept_through (setting_of_width g.F.Family.merge_rule g.H.HashFunction.hash_of g.row.N)
      (format_of (g.K.Read.after tt) (g.V.Read.after tt) g.K.FixedSize.SIZE g.V.FixedSize.SIZE) c.self.inside.device c.cut_after.new.self
      c.self.inside.cache c.self.inside.live (ap (λ (d : DeviceState g.row.R.Denot). d.calls) c.cut_after.ensures) c.self.invariant.3,
  c.self.invariant.4,
)

pub returns-clause-rest : goal.returns-clause-rest
returns-clause-rest g c =
    let format : Format = format_of (g.K.Read.after tt) (g.V.Read.after tt) g.K.FixedSize.SIZE g.V.FixedSize.SIZE in (
      ap (λ (s : StoreState g.row.R.Denot). s.cache) c.self.view_is,
      ap (λ (d : DeviceState g.row.R.Denot). seen_on format d.calls c.self.inside.live) c.cut_after.ensures
          ∙ ap (λ (s : StoreState g.row.R.Denot). s.live) c.self.view_is,
    )
