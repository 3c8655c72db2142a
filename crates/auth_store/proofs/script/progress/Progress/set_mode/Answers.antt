use Rattle.std.proofs.Common.{subst}
use Rattle.fault_storage_parts.specs.declared.config.Config.{Config}
use Rattle.auth_store.specs.ScriptCode.{Handled, SetsTo}
use Rattle.auth_store.proofs.script.progress.Progress.set_mode.Goals as goal

pub returns : goal.returns
returns g c =
    subst (λ (settings : Config). Handled (SetsTo g.F.Named.family c.args.self.now settings c.set.new.self)
    (g.W.Write.contents c.args.out.now) (g.W.Write.contents c.set.new.out) c.set.result) c.with_mode-settings.ensures c.set.ensures
