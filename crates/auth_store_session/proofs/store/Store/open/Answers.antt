use Rattle.std.proofs.Common.{◌+◌, Some, refl, sym, subst}
use Rattle.auth_store_device.specs.Devices.{DeviceState}
use Rattle.auth_store_device.specs.Logs.{HasOwnHeader}
use Rattle.auth_store_log.specs.Records.{Format, format_of}
use Rattle.auth_store_machine.specs.Machine.{Machine, machine}
use Rattle.auth_store_machine.specs.Reads.{live_on}
use Rattle.auth_store_machine.specs.Stores.{LiveState}
use Rattle.auth_store_machine.specs.Standing.{IsOpenError, IsOpenedThrough, shown_of}
use Rattle.auth_store_machine.proofs.OnDevice.{refused_closed}
use Rattle.auth_store_machine.specs.Machine.{Leaves}
use Rattle.auth_store_machine.specs.Standing.{power_of}
use Rattle.auth_store_session.proofs.store.Store.open.Goals as goal

pub invariant_of-result : goal.invariant_of-result
invariant_of-result g c = (
  c.requires.width,
  c.in-Ok.ensures.is_open,
  c.open_live.ensures.cache,
  c.in-Ok.ensures.live,
  c.in-Ok.ensures.whole,
)

pub returns-in-Ok-clause-recovers : goal.returns-in-Ok-clause-recovers
returns-in-Ok-clause-recovers g c =
    let format : Format = format_of (g.K.Read.after tt) (g.V.Read.after tt) g.K.FixedSize.SIZE g.V.FixedSize.SIZE in
    let live : LiveState = live_on format c.open_live.new.device.calls c.in-Ok.live in
    (live.history, (live, refl, refl), c.in-Ok.ensures.recovers)

pub returns-in-Err-clause-kept : goal.returns-in-Err-clause-kept
returns-in-Err-clause-kept g c =
    let format : Format = format_of (g.K.Read.after tt) (g.V.Read.after tt) g.K.FixedSize.SIZE g.V.FixedSize.SIZE in
    subst (λ (d : DeviceState g.row.R.Denot). IsOpenedThrough format (c.args.cache.page_size + 12) (shown_of c.args.device) c.args.device.calls d.calls)
    (sym c.close.ensures) c.open_live.ensures.any_moment

pub returns-in-Err-clause-header : goal.returns-in-Err-clause-header
returns-in-Err-clause-header g c = λ own.
    subst (λ (d : DeviceState g.row.R.Denot). HasOwnHeader d.storage.inner) (sym c.close.ensures) (c.open_live.ensures.header own)

pub returns-in-Err-clause-refused : goal.returns-in-Err-clause-refused
returns-in-Err-clause-refused g c =
    let format : Format = format_of (g.K.Read.after tt) (g.V.Read.after tt) g.K.FixedSize.SIZE g.V.FixedSize.SIZE in
    let m : Machine = machine g.F.Family.merge_rule g.H.HashFunction.hash_of g.F.PendingOf.pending_encoding g.row.N g.K.FixedSize.SIZE
    g.V.FixedSize.SIZE (c.args.cache.page_size + 12) in
    subst (λ (d : DeviceState g.row.R.Denot). IsOpenError m format c.args.device c.args.cache d c.open_live.new.cache c.in-Err.error) (sym c.close.ensures)
    (refused_closed m format c.args.device c.open_live.new.device c.args.cache c.open_live.new.cache c.in-Err.error c.in-Err.ensures.refused)

pub returns-in-Ok-clause-leaves : goal.returns-in-Ok-clause-leaves
returns-in-Ok-clause-leaves g c = c.in-Ok.ensures.leaves

pub returns-in-Err-clause-leaves : goal.returns-in-Err-clause-leaves
returns-in-Err-clause-leaves g c =
    subst (λ (d : DeviceState g.row.R.Denot). Leaves 1 (Some c.in-Err.error) (power_of c.args.device c.args.cache) (power_of d c.open_live.new.cache))
    (sym c.close.ensures) c.in-Err.ensures.leaves
