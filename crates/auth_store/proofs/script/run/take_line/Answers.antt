use Rattle.std.proofs.Common.{◌∙◌, [], Some, ap, option_map, sym}
use Rattle.std.specs.Prelude.{codes}
use Rattle.std.proofs.KnownBytes.{Appends-nil}
use Rattle.auth_store_parts.specs.Line.{line_of}
use Rattle.auth_store_parts.specs.Report.{reported}
use Rattle.auth_store.specs.ScriptCode.{now_in}
use Rattle.auth_store.proofs.ScriptRuns.{begins, empty_before, handled_text, no_line, other_before}
use Rattle.auth_store.proofs.script.run.take_line.Goals as goal

pub returns-in_default : goal.returns-in_default
returns-in_default g c = (
  [],
  no_line (option_map now_in c.args.running.now) (line_of c.args.text.now) (sym c.parse_line.ensures.exact ∙ c.in_default.is),
  Appends-nil (g.W.Write.contents c.args.out.now),
)

pub returns-in-Some-running : goal.returns-in-Some-running
returns-in-Some-running g c =
    handled_text (now_in c.in-Some-running.running) (now_in c.step.new.self) (option_map now_in c.args.running.now) c.in-Some.line
    (line_of c.args.text.now) _ _ c.step.result (ap (option_map now_in) c.in-Some-running.is)
    (sym c.parse_line.ensures.exact ∙ c.in-Some.is) c.step.ensures

pub returns-in-Empty : goal.returns-in-Empty
returns-in-Empty g c = (
  [],
  [],
  empty_before (option_map now_in c.args.running.now) (line_of c.args.text.now) (ap (option_map now_in) c.in_default-running.is)
      (sym c.parse_line.ensures.exact ∙ (c.in-Some.is ∙ ap Some c.in-Empty.is)),
  Appends-nil (g.W.Write.contents c.args.out.now),
)

pub returns-in_ok-report_new-in-New : goal.returns-in_ok-report_new-in-New
returns-in_ok-report_new-in-New g c = (
  [],
  reported (codes "new"),
  begins (now_in c.new.result) (option_map now_in c.args.running.now) (line_of c.args.text.now) c.in-New.family c.in-New.seed
      c.in_ok-device-in-New.device (ap (option_map now_in) c.in_default-running.is)
      (sym c.parse_line.ensures.exact ∙ (c.in-Some.is ∙ ap Some c.in-New.is)) c.new.ensures.progress c.new.ensures.session
      c.in_ok-device-in-New.ensures,
  c.in_ok-report_new-in-New.ensures,
)

pub returns-in_default-line : goal.returns-in_default-line
returns-in_default-line g c = (
  [],
  other_before (option_map now_in c.args.running.now) (line_of c.args.text.now) c.in-Some.line
      (ap (option_map now_in) c.in_default-running.is) (sym c.parse_line.ensures.exact ∙ c.in-Some.is) c.in_default-line.not-Empty
      c.in_default-line.not-New,
  Appends-nil (g.W.Write.contents c.args.out.now),
)
