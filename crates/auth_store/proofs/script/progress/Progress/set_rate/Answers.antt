use Rattle.std.proofs.Common.{◌≡◌, inl, subst}
use Rattle.fault_storage_parts.specs.declared.config.Config.{Config}
use Rattle.auth_store.specs.ScriptLines as script
use Rattle.auth_store.specs.ScriptCode.{Handled, SetsTo, TakesLine}
use Rattle.auth_store_parts.specs.declared.script.line.Line.TheVariants as lines
use Rattle.auth_store.proofs.ScriptLines.{handled_as}
use Rattle.auth_store.proofs.script.progress.Progress.set_rate.Goals as goal

pub returns : goal.returns
returns g c =
    let family = g.F.Named.family in
    let old = c.args.self.now in
    let new = c.set.new.self in
    let rate = c.in-Some.rate in
    let before = g.W.Write.contents c.args.out.now in
    let after = g.W.Write.contents c.set.new.out in
    let is : (rate.numerator ≡ c.args.numerator) × (rate.denominator ≡ c.args.denominator) = c.in-Some.ensures.value in
    let sets : Handled (SetsTo family old (script.with_rate c.args.kind rate old.settings) new) before after c.set.result =
    subst (λ (settings : Config). Handled (SetsTo family old settings new) before after c.set.result) c.with_rate-settings.ensures
    c.set.ensures in
    handled_as (SetsTo family old (script.with_rate c.args.kind rate old.settings) new)
    (TakesLine family old (lines.Fault c.args.kind c.args.numerator c.args.denominator) new) before after c.set.result
    (λ printed exchanges did. (inl (rate, is.0, is.1, did.0), did.1)) sets
