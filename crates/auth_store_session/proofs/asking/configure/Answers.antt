use Rattle.std.proofs.Common.{◌≡◌, ◌+◌, refl, ap, ◌∙◌}
use Rattle.auth_store_log.specs.Records.{format_of}
use Rattle.auth_store_machine.specs.Machine.{machine}
use Rattle.auth_store_device.specs.Devices.{DeviceState}
use Rattle.auth_store_machine.specs.Machine.{ask_config, is_set}
use Rattle.auth_store_session.proofs.Steps.{stays_in}
use Rattle.auth_store_machine.specs.Standing.{power_of}
use Rattle.auth_store_machine.proofs.Powers.{leaves_same, same_grows}
use Rattle.auth_store_session.proofs.asking.configure.Goals as goal

pub returns-clause-steps : goal.returns-clause-steps
returns-clause-steps g c =
    let same : power_of c.set_config.new.self.device c.set_config.new.self.cache ≡ power_of c.args.store.now.device c.args.store.now.cache =
    ap (λ (d : DeviceState _). power_of d c.set_config.new.self.cache) c.set_config.ensures.device
    ∙ ap (power_of c.args.store.now.device) c.set_config.ensures.rest.0 in (
      leaves_same c.args.store.now.device c.set_config.new.self.device c.args.store.now.cache c.set_config.new.self.cache same,
      stays_in
          (machine g.F.Family.merge_rule g.H.HashFunction.hash_of g.F.PendingOf.pending_encoding g.row.N g.K.FixedSize.SIZE g.V.FixedSize.SIZE
          (c.args.store.now.cache.page_size + 12))
          (format_of (g.K.Read.after (tt {0})) (g.V.Read.after (tt {0})) g.K.FixedSize.SIZE g.V.FixedSize.SIZE) c.args.store.now
          c.set_config.new.self ask_config is_set
          c.set_config.ensures.rest.0 c.set_config.ensures.rest.1 c.set_config.ensures.pruned (ap (λ (d : DeviceState _). d.calls) c.set_config.ensures.device)
          (λ history pruned. (refl, refl, same)) (λ history commit. (refl, refl, same)),
    )

pub returns-clause-grows : goal.returns-clause-grows
returns-clause-grows g c = same_grows _ _ (ap (λ (d : DeviceState _). d.calls) c.set_config.ensures.device)
