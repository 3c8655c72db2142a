use Rattle.auth_store_session.specs.MachineCode.{meaning_of}
use Rattle.auth_store.specs.ScriptLines.{bytes_of, value_of}
use Rattle.auth_store.proofs.ScriptLines.{goes_by}
use Rattle.auth_store.proofs.script.progress.ask.Goals as goal

pub returns : goal.returns
returns g c =
    goes_by g.F.Named.family g.F.Family.merge_rule g.F.PendingOf.pending_encoding g.met.F.Named.rule_is g.met.F.Named.pending_is
    c.args.session.now c.step-answer.new.self c.args.step (meaning_of bytes_of bytes_of value_of c.step-answer.result) c.step-answer.ensures.steps
    c.step-answer.ensures.page_size c.step-answer.ensures.grows c.step-answer.ensures.settings c.stands_for_sound_histories.ensures
