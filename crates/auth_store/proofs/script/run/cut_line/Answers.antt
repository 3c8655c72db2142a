use Rattle.std.proofs.Common.{◌≤◌, ◌∷◌, ◌∙◌, ap, sym, arith, take, drop, length, length-drop, ◌+◌, ◌-◌}
use Rattle.std.proofs.lemmas.List.{take_all}
use Rattle.auth_store.specs.ScriptRun.{lines_of}
use Rattle.auth_store.proofs.ScriptRuns.{cut_at, cut_none}
use Rattle.auth_store.proofs.script.run.cut_line.Goals as goal

pub returns-in-Some-clause-cut : goal.returns-in-Some-clause-cut
returns-in-Some-clause-cut c =
    let text = c.args.text.now in
    let rest = drop (c.in-Some.end + 1) text in
    let whole : length rest ≤ length text - (c.in-Some.end + 1) = omega (arith, length-drop (c.in-Some.end + 1) text) in
    cut_at text c.in-Some.end (sym c.in-Some.ensures)
    ∙ ap (λ left. take c.in-Some.end text ∷ lines_of left) (sym
    (take_all (length text - (c.in-Some.end + 1)) rest whole))

pub returns-in-None-clause-cut : goal.returns-in-None-clause-cut
returns-in-None-clause-cut c = cut_none c.args.text.now (sym c.in-None.ensures)
