use Rattle.std.proofs.Common.{◌<◌, ◌∙◌, ap, arith, option_map, subst, sym}
use Rattle.std.specs.Prelude.{Err}
use Rattle.auth_store_parts.specs.Line.{line_of}
use Rattle.auth_store.specs.ScriptCode.{DoesText, Handled, now_in}
use Rattle.auth_store.proofs.ScriptRuns.{Taken, taken_none, taken_next, few_taken, taken_all, smaller, stops, ended, text_of, size_of}
use Rattle.auth_store.proofs.script.run.run_lines.Goals as goal

pub loop-left-init : goal.loop-left-init
loop-left-init g c = taken_none _ _

pub loop-left-preserved : goal.loop-left-preserved
loop-left-preserved g c =
    let first = g.W.Write.contents c.args.out.now in
    let before = g.W.Write.contents c.loop-left.out in
    let taken = subst (λ left. Taken c.args.script.now (text_of left) c.loop-left.number first before (option_map now_in c.loop-left.running))
    c.in-Some.is c.loop-left.invariant in
    taken_next c.args.script.now c.in-Some.text.now c.cut_line.result.0.now c.cut_line.result.1 c.loop-left.number first
    before (g.W.Write.contents c.take_line.new.out) (option_map now_in c.loop-left.running) (option_map now_in c.take_line.new.running) c.take_line.result taken
    c.cut_line.ensures.cut c.take_line.ensures c.in_default-take_line.not-Err

pub loop-left-smaller : goal.loop-left-smaller
loop-left-smaller g c =
    subst (λ left. size_of (text_of c.cut_line.result.1) < size_of (text_of left)) (sym c.in-Some.is)
    (smaller c.in-Some.text.now c.cut_line.result.1 c.cut_line.ensures.shorter)

pub overflow_add-number : goal.overflow_add-number
overflow_add-number g c =
    let first = g.W.Write.contents c.args.out.now in
    let before = g.W.Write.contents c.loop-left.out in
    let taken = subst (λ left. Taken c.args.script.now (text_of left) c.loop-left.number first before (option_map now_in c.loop-left.running))
    c.in-Some.is c.loop-left.invariant in
    omega (arith, few_taken c.args.script.now c.in-Some.text.now c.loop-left.number first before (option_map now_in c.loop-left.running) c.requires taken)

pub returns-in-Err : goal.returns-in-Err
returns-in-Err g c =
    let first = g.W.Write.contents c.args.out.now in
    let before = g.W.Write.contents c.loop-left.out in
    let after = g.W.Write.contents c.take_line.new.out in
    let taken = subst (λ left. Taken c.args.script.now (text_of left) c.loop-left.number first before (option_map now_in c.loop-left.running))
    c.in-Some.is c.loop-left.invariant in
    let end = ended c.in-Err.end c.end_run-status.result _ c.end_run-status.ensures.memory c.end_run-status.ensures.io
    c.end_run-status.ensures.bad in
    record {
      done = λ h. absurd (end.0 h);
      bad = λ h. stops c.args.script.now c.in-Some.text.now c.cut_line.result.0.now c.cut_line.result.1 c.loop-left.number first
          before after (g.W.Write.contents c.end_run-status.new.out) (option_map now_in c.loop-left.running) (option_map now_in c.take_line.new.running)
          c.device_of.result taken c.cut_line.ensures.cut
          (subst (Handled (DoesText (option_map now_in c.loop-left.running) (line_of c.cut_line.result.0.now)
          (option_map now_in c.take_line.new.running)) before after)
          (c.in-Err.is ∙ ap Err (end.1 h).0) c.take_line.ensures) (end.1 h).1 c.device_of.ensures;
      status = end.2;
    }

pub returns : goal.returns
returns g c =
    let first = g.W.Write.contents c.args.out.now in
    let before = g.W.Write.contents c.loop-left.out in
    record {
      done = λ h. taken_all c.args.script.now c.loop-left.number first before (option_map now_in c.loop-left.running) c.device_of-2.result
          (subst (λ left. Taken c.args.script.now (text_of left) c.loop-left.number first before (option_map now_in c.loop-left.running))
          c.in_default.is c.loop-left.invariant) c.device_of-2.ensures;
      bad = λ h. absurd (omega arith);
      status = omega arith;
    }
