use Rattle.std.proofs.Common.{◌≡◌, ◌++◌, map, length}
use Rattle.state_proofs.proofs.verify.lent.Given as goal

abbrev pub invariant-loop-rest : goal.invariant-loop-rest
invariant-loop-rest l = map (λ e. e.now) l.found.items ++ map (λ e. e.items) l.rest ≡ map (λ e. e.items) l.encodings

abbrev pub decreases-loop-rest : goal.decreases-loop-rest
decreases-loop-rest l = length l.rest
