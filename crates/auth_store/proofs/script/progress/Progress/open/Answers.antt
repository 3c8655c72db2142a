use Rattle.std.proofs.Common.{◌∷◌, [], ap, refl, inl, inr}
use Rattle.auth_store_session.specs.MachineCode.{meaning_of}
use Rattle.auth_store_machine.specs.Machine.{Answer, ask_open, ask_commits, is_opened}
use Rattle.auth_store.specs.ScriptLines.{answer_line, bytes_of, count_line, exchange, value_of}
use Rattle.auth_store.specs.ScriptCode.{Now, now_of}
use Rattle.auth_store.proofs.ScriptLines.{goes_on, handled_line, not_opened}
use Rattle.std.specs.Prelude.{codes}
use Rattle.auth_store_parts.specs.declared.script.line.Line.TheVariants as lines
use Rattle.auth_store.proofs.script.progress.Progress.open.Goals as goal

pub returns-in-Opened : goal.returns-in-Opened
returns-in-Opened g c =
    let family = g.F.Named.family in
    let old : Now = now_of family c.args.self.now in
    let new : Now = record { progress = old.progress; session = c.ask-count.new.session } in
    let done : Answer = meaning_of bytes_of bytes_of value_of c.ask.result in
    let answer : Answer = meaning_of bytes_of bytes_of value_of c.ask-count.result in
    let one = exchange ask_open done ∷ [] in
    let other = exchange ask_commits answer ∷ [] in
    handled_line old new lines.Open _ _ _ (count_line (codes "open ") answer) (exchange ask_open done ∷ exchange ask_commits answer ∷ [])
    (λ printed is. (inr (done, answer, ap (λ a. is_opened (meaning_of bytes_of bytes_of value_of a)) c.in-Opened.is, refl, is), refl))
    (goes_on family old.session c.ask.new.session new.session one other c.ask.ensures c.ask-count.ensures)
    c.report_opened.ensures.line c.report_opened.ensures.bad c.report_opened.ensures.quiet

pub returns-in_default : goal.returns-in_default
returns-in_default g c =
    let family = g.F.Named.family in
    let old : Now = now_of family c.args.self.now in
    let new : Now = record { progress = old.progress; session = c.ask.new.session } in
    let answer : Answer = meaning_of bytes_of bytes_of value_of c.ask.result in
    handled_line old new lines.Open _ _ _ (answer_line answer) (exchange ask_open answer ∷ [])
    (λ printed is. (inl (answer, not_opened bytes_of bytes_of value_of c.ask.result c.in_default.not-Opened, refl, is), refl))
    c.ask.ensures
    c.report.ensures.line c.report.ensures.bad c.report.ensures.quiet
