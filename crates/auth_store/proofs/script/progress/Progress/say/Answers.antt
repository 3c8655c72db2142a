use Rattle.std.proofs.Common.{◌≡◌, ◌∷◌, [], refl}
use Rattle.auth_store_session.specs.MachineCode.{meaning_of}
use Rattle.auth_store_machine.specs.Machine.{Answer}
use Rattle.auth_store.specs.ScriptLines.{AsksStep, answer_line, bytes_of, value_of}
use Rattle.auth_store.specs.ScriptCode.{Goes, exchange_of, progress_of}
use Rattle.auth_store.proofs.ScriptLines.{handled_by}
use Rattle.auth_store.proofs.script.progress.Progress.say.Goals as goal

pub returns : goal.returns
returns g c =
    let family = g.F.Named.family in
    let now = progress_of family c.args.self.now in
    let answer : Answer = meaning_of bytes_of bytes_of value_of c.ask-answer.result in
    handled_by (λ printed exchanges. (AsksStep (exchange_of c.args.step) exchanges printed × (now ≡ now))
    × Goes family c.args.self.now.session exchanges c.ask-answer.new.session) _ _ _ (answer_line answer)
    (exchange_of c.args.step answer ∷ []) (λ printed is. (((answer, refl, is), refl), c.ask-answer.ensures))
    c.report.ensures.line c.report.ensures.bad c.report.ensures.quiet
