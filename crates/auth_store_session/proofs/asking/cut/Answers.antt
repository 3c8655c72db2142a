use Rattle.std.proofs.Common.{◌≡◌, ◌+◌, refl, ap, ◌∙◌}
use Rattle.auth_store_log.specs.Records.{format_of}
use Rattle.auth_store_machine.specs.Machine.{machine}
use Rattle.auth_store_device.specs.Devices.{DeviceState}
use Rattle.auth_store_machine.specs.Machine.{ask_cut, is_set, asked_to_cut}
use Rattle.auth_store_machine.specs.Standing.{power_of}
use Rattle.auth_store_session.proofs.Steps.{stays_in}
use Rattle.auth_store_machine.proofs.Powers.{passes_asking, same_grows}
use Rattle.auth_store_session.proofs.asking.cut.Goals as goal

pub returns-clause-steps : goal.returns-clause-steps
returns-clause-steps g c =
    let same : power_of c.cut_after.new.self.device c.cut_after.new.self.cache
    ≡ asked_to_cut c.args.calls (power_of c.args.store.now.device c.args.store.now.cache) =
    ap (λ (d : DeviceState _). power_of d c.cut_after.new.self.cache) c.cut_after.ensures.device
    ∙ ap (λ k. asked_to_cut c.args.calls (power_of c.args.store.now.device k)) c.cut_after.ensures.rest.0 in (
      passes_asking c.args.store.now.device c.cut_after.new.self.device c.args.store.now.cache c.cut_after.new.self.cache c.args.calls same,
      stays_in
          (machine g.F.Family.merge_rule g.H.HashFunction.hash_of g.F.PendingOf.pending_encoding g.row.N g.K.FixedSize.SIZE g.V.FixedSize.SIZE
          (c.args.store.now.cache.page_size + 12))
          (format_of (g.K.Read.after (tt {0})) (g.V.Read.after (tt {0})) g.K.FixedSize.SIZE g.V.FixedSize.SIZE) c.args.store.now
          c.cut_after.new.self (ask_cut c.args.calls) is_set
          c.cut_after.ensures.rest.0 c.cut_after.ensures.rest.1 c.cut_after.ensures.pruned (ap (λ (d : DeviceState _). d.calls) c.cut_after.ensures.device)
          (λ history pruned. (refl, refl, same)) (λ history commit. (refl, refl, same)),
    )

pub returns-clause-grows : goal.returns-clause-grows
returns-clause-grows g c = same_grows _ _ (ap (λ (d : DeviceState _). d.calls) c.cut_after.ensures.device)
