use Rattle.std.proofs.Common.{◌+◌, Ok, None, Some, inr, ap, sym, subst, arith}
use Rattle.std.specs.Prelude.{IfErr}
use Rattle.std.proofs.lemmas.Result.{err_from_is_err_and}
use Rattle.paged_blob_parts.specs.Calls.{content}
use Rattle.auth_store_log.specs.Records.{Format, format_of}
use Rattle.auth_store_machine.specs.declared.error.StoreError.{StoreError}
use Rattle.auth_store_machine.specs.Machine.{Machine, machine, refusal_of, Leaves}
use Rattle.auth_store_machine.specs.Standing.{IsOpenError, power_of, shown_of}
use Rattle.auth_store_device.specs.Devices.{calls_left}
use Rattle.auth_store_machine.specs.Refusals.{of_opening}
use Rattle.auth_store_machine.proofs.OnDevice.{device_refused, recovery_on_device, opened_uncut, shown_through}
use Rattle.auth_store_machine.proofs.Opens.{opened_grows}
use Rattle.auth_store_machine.proofs.Powers.{leaves_behind, leaves_of, opening_left, opening_next, raises_opening, same_grows}
use Rattle.auth_store_session.proofs.store.open_live.Goals as goal

pub returns-in_err-count-clause-refused : goal.returns-in_err-count-clause-refused
returns-in_err-count-clause-refused g c =
    let format : Format = format_of (g.K.Read.after tt) (g.V.Read.after tt) g.K.FixedSize.SIZE g.V.FixedSize.SIZE in
    let m : Machine = machine g.F.Family.merge_rule g.H.HashFunction.hash_of g.F.PendingOf.pending_encoding g.row.N g.K.FixedSize.SIZE
    g.V.FixedSize.SIZE (c.args.cache.now.page_size + 12) in
    let Why : StoreError → Type 0 = IsOpenError m format c.args.device.now c.args.cache.now c.open.new.self c.args.cache.now in
    let p = err_from_is_err_and c.from_residual.result c.from_residual.ensures.1 in
    subst (λ r. IfErr r Why) (sym p.1) (subst Why (sym p.2)
    (device_refused m format c.args.device.now c.open.new.self c.args.cache.now c.in_err-count.field-0.0 c.open.result c.in_err-count.was
    c.open.ensures.count c.open.ensures.numbers c.open.ensures.power c.open.ensures.header c.open.ensures.own c.open.ensures.left))

pub returns-in_err-live-clause-refused : goal.returns-in_err-live-clause-refused
returns-in_err-live-clause-refused g c =
    let format : Format = format_of (g.K.Read.after tt) (g.V.Read.after tt) g.K.FixedSize.SIZE g.V.FixedSize.SIZE in
    let size = c.args.cache.now.page_size + 12 in
    let m : Machine = machine g.F.Family.merge_rule g.H.HashFunction.hash_of g.F.PendingOf.pending_encoding g.row.N g.K.FixedSize.SIZE
    g.V.FixedSize.SIZE size in
    let old = c.args.device.now in
    let mid = c.open.new.self in
    let new = c.recover_live-recovered.new.blob in
    let now = c.recover_live-recovered.new.cache in
    let Why : StoreError → Type 0 = IsOpenError m format old c.args.cache.now new now in
    let through = shown_through format size old.calls mid.calls new.calls (shown_of old) c.in_ok-count.ensures.shows c.in_ok-count.ensures.records
    c.recover_live-recovered.ensures.any_moment in
    let p = err_from_is_err_and c.from_residual-in_err-live.result c.from_residual-in_err-live.ensures.1 in
    subst (λ r. IfErr r Why) (sym p.1) (subst Why (sym p.2)
    (recovery_on_device m format old mid new c.args.cache.now now c.in_err-live.field-0.0 c.in_ok-count.ensures.count c.in_ok-count.ensures.refusals
    (ap content c.in_ok-count.ensures.shows) c.refuses_only_under_a_cut.ensures through c.in_err-live.ensures.refused))

pub returns-clause-uncut : goal.returns-clause-uncut
returns-clause-uncut g c = opened_uncut c.args.device.now (Ok c.in_ok-count.count) c.in_ok-count.ensures.cut c.in_ok-count.ensures.ended

pub returns-in_err-count-clause-leaves : goal.returns-in_err-count-clause-leaves
returns-in_err-count-clause-leaves g c =
    let old = c.args.device.now in
    let new = c.open.new.self in
    let names = c.args.cache.now in
    let e = c.in_err-count.field-0.0 in
    let p = err_from_is_err_and c.from_residual.result c.from_residual.ensures.1 in
    let fewer = opening_left c.open.result old.left in
    subst (λ r. Leaves 1 (refusal_of r) (power_of old names) (power_of new names)) (sym p.1)
    (subst (λ (x : StoreError). Leaves 1 (Some x) (power_of old names) (power_of new names)) (sym p.2)
    (leaves_of 1 (Some (of_opening e)) old new names names
    (raises_opening e old new c.in_err-count.ensures.count c.in_err-count.ensures.refusals c.open.ensures.asked
    c.in_err-count.ensures.refused.2)
    (omega (arith, ap calls_left c.open.ensures.left, fewer)) (omega arith, omega arith)
    (same_grows old.calls new.calls c.in_err-count.ensures.refused.0)))

pub returns-in_err-live-clause-leaves : goal.returns-in_err-live-clause-leaves
returns-in_err-live-clause-leaves g c =
    let old = c.args.device.now in
    let mid = c.open.new.self in
    let new = c.recover_live-recovered.new.blob in
    let names = c.args.cache.now in
    let now = c.recover_live-recovered.new.cache in
    let e = c.in_err-live.field-0.0 in
    let p = err_from_is_err_and c.from_residual-in_err-live.result c.from_residual-in_err-live.ensures.1 in
    let fewer = opening_left c.open.result old.left in
    let format : Format = format_of (g.K.Read.after tt) (g.V.Read.after tt) g.K.FixedSize.SIZE g.V.FixedSize.SIZE in
    let through = shown_through format (names.page_size + 12) old.calls mid.calls new.calls (shown_of old) c.in_ok-count.ensures.shows
    c.in_ok-count.ensures.records c.recover_live-recovered.ensures.any_moment in
    subst (λ r. Leaves 1 (refusal_of r) (power_of old names) (power_of new now)) (sym p.1)
    (subst (λ (x : StoreError). Leaves 1 (Some x) (power_of old names) (power_of new now)) (sym p.2)
    (leaves_behind (Some e) old mid new names now c.in_ok-count.ensures.count c.in_ok-count.ensures.refusals c.in_ok-count.ensures.asked
    (opening_next g.R.Rng.stream old mid c.open.result c.open.ensures.draw) c.in_err-live.ensures.raised
    (omega (arith, ap calls_left c.open.ensures.left, fewer, c.recover_live-recovered.ensures.left)) c.recover_live-recovered.ensures.names
    (opened_grows format (names.page_size + 12) old.calls new.calls (shown_of old) (inr through))))

pub returns-clause-leaves : goal.returns-clause-leaves
returns-clause-leaves g c =
    let old = c.args.device.now in
    let mid = c.open.new.self in
    let new = c.recover_live-recovered.new.blob in
    let fewer = opening_left c.open.result old.left in
    let format : Format = format_of (g.K.Read.after tt) (g.V.Read.after tt) g.K.FixedSize.SIZE g.V.FixedSize.SIZE in
    let size = c.args.cache.now.page_size + 12 in
    let through = shown_through format size old.calls mid.calls new.calls (shown_of old) c.in_ok-count.ensures.shows
    c.in_ok-count.ensures.records c.recover_live-recovered.ensures.any_moment in
    leaves_behind None old mid new c.args.cache.now c.recover_live-recovered.new.cache c.in_ok-count.ensures.count
    c.in_ok-count.ensures.refusals c.in_ok-count.ensures.asked (opening_next g.R.Rng.stream old mid c.open.result c.open.ensures.draw)
    c.in_ok-live.ensures.raised
    (omega (arith, ap calls_left c.open.ensures.left, fewer, c.recover_live-recovered.ensures.left)) c.recover_live-recovered.ensures.names
    (opened_grows format size old.calls new.calls (shown_of old) (inr through))
