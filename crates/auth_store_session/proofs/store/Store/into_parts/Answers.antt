use Rattle.std.proofs.Common.{◌∙◌, ◌+◌, None, ap, sym, subst, List}
use Rattle.std.specs.Prelude.{IfSome}
use Rattle.paged_blob_parts.specs.Caches.{Cache}
use Rattle.paged_blob_parts.specs.Calls.{Call}
use Rattle.state_theory.specs.Canonical.{Setting}
use Rattle.auth_store_device.specs.Devices.{DeviceState}
use Rattle.auth_store_device.specs.Logs.{HasOwnHeader}
use Rattle.auth_store_ledger.specs.Store.{setting_of_width}
use Rattle.auth_store_log.specs.Records.{Format, format_of}
use Rattle.auth_store_machine.specs.Reads.{LiveParts, live_on}
use Rattle.auth_store_machine.specs.Stores.{StoreState, IsLive, OpeningsShow}
use Rattle.auth_store_machine.proofs.Lives.{parts_shown}
use Rattle.auth_store_session.proofs.store.Store.into_parts.Goals.{in-Some, in_default}
use Rattle.auth_store_session.proofs.store.Store.into_parts.Goals as goal

pub returns-clause-header : goal.returns-clause-header
returns-clause-header g c =
    subst (λ (d : DeviceState g.row.R.Denot). HasOwnHeader d.storage.inner) (sym c.close.ensures)
    (c.open_log_has_own_header.ensures c.self.invariant.1)

pub returns-clause-shows : goal.returns-clause-shows
returns-clause-shows g c = λ history live.
    let format : Format = format_of (g.K.Read.after tt) (g.V.Read.after tt) g.K.FixedSize.SIZE g.V.FixedSize.SIZE in
    let setting : Setting = setting_of_width g.F.Family.merge_rule g.H.HashFunction.hash_of g.row.N in
    let AreShown : LiveParts → Type 0 = λ now. (calls : List Call) → (cache : Cache) → IsLive format calls cache (live_on format calls now)
    → OpeningsShow format (cache.page_size + 12) (live_on format calls now).history None calls in
    let shown : IfSome c.self.inside.live AreShown = elim c.match-live.branch [
      | in-Some w ↦ subst (λ l. IfSome l AreShown) (sym w.in-Some.is) w.is_shown.ensures
      | in_default w ↦ subst (λ l. IfSome l AreShown) (sym w.in_default.is) tt
    ] in
    subst (λ calls. OpeningsShow format (c.args.self.cache.page_size + 12) history None calls) (ap (λ (s : StoreState g.row.R.Denot). s.device.calls)
    (sym c.self.view_is) ∙ sym (ap (λ (d : DeviceState g.row.R.Denot). d.calls) c.close.ensures))
    (parts_shown setting format c.self.inside.device c.self.inside.cache c.self.inside.live c.self.inside.pruned c.args.self history
    c.self.view_is c.self.invariant.3 shown live)
