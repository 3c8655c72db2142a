use Rattle.std.proofs.Common.{◌≡◌, ◌++◌, map, length}
use Rattle.state_theory.specs.LogProofs.{placed}
use Rattle.state_proofs.proofs.verify.located_encodings.Given as goal

abbrev pub invariant-loop-rest : goal.invariant-loop-rest
invariant-loop-rest g l = map (λ e. placed e.0.items e.1) l.found.items ++ map (λ o. placed (g.O.Write.encoding o.1) o.0) l.rest
    ≡ map (λ o. placed (g.O.Write.encoding o.1) o.0) l.operations

abbrev pub decreases-loop-rest : goal.decreases-loop-rest
decreases-loop-rest g l = length l.rest
