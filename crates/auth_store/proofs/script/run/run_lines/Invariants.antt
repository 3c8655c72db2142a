use Rattle.std.proofs.Common.{option_map}
use Rattle.auth_store.specs.ScriptCode.{now_in}
use Rattle.auth_store.proofs.ScriptRuns.{Taken, text_of, size_of}
use Rattle.auth_store.proofs.script.run.run_lines.Given as goal

abbrev pub invariant-loop-left : goal.invariant-loop-left
invariant-loop-left g l =
    Taken l.script (text_of l.left) l.number (g.W.Write.contents l.fn.out) (g.W.Write.contents l.out) (option_map now_in l.running)

abbrev pub decreases-loop-left : goal.decreases-loop-left
decreases-loop-left g l = size_of (text_of l.left)
