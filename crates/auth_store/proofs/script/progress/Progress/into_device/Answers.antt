use Rattle.std.proofs.Common.{◌≡◌, ◌∙◌, None, Some, ap, refl, sym, unwrap_or}
use Rattle.rand_pcg.specs.Lcg.{Lcg}
use Rattle.fault_storage_parts.specs.declared.config.Config.{Config}
use Rattle.auth_store_machine.specs.Standing.{SessionState}
use Rattle.auth_store_machine.proofs.Runs.{runs_whole}
use Rattle.auth_store.specs.ScriptLines.{asked, answered, settings_after, script_format, script_machine}
use Rattle.auth_store.specs.ScriptRun.{script_cache}
use Rattle.auth_store.proofs.script.progress.Progress.into_device.Goals as goal

pub returns : goal.returns
returns g c = λ exchanges (device, new, ran).
    let machine = script_machine g.F.Named.family in
    let first : SessionState Lcg = record { parts = Some (device, script_cache); store = None } in
    let parts = c.into_parts-device.result in
    let before : Config = device.storage.config in
    let set : Some parts.0.storage.config ≡ Some (settings_after exchanges before) =
    c.into_parts-device.ensures.settings ∙ ran.set before refl in (
      device,
      parts.1,
      new,
      ap (λ o. unwrap_or o before) set,
      runs_whole machine script_format first c.args.self.session (asked exchanges) (answered exchanges) device parts.0 script_cache
          parts.1 refl ran.runs c.into_parts-device.ensures.calls c.into_parts-device.ensures.page_size (sym ran.paged)
          c.into_parts-device.ensures.power c.into_parts-device.ensures.rests,
    )
