use Rattle.std.proofs.Common.{◌≡◌, ◌++◌, map, length}
use Rattle.state_proofs.proofs.verify.encodings.Given as goal

abbrev pub invariant-loop-rest : goal.invariant-loop-rest
invariant-loop-rest g l = map (λ e. e.items) l.found.items ++ map g.O.Write.encoding l.rest ≡ map g.O.Write.encoding l.operations

abbrev pub decreases-loop-rest : goal.decreases-loop-rest
decreases-loop-rest g l = length l.rest
