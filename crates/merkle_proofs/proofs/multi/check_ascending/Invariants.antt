use Rattle.std.proofs.Common.{◌≡◌, length}
use Rattle.merkle_theory.specs.Multi.{first_bad}
use Rattle.merkle_proofs.proofs.multi.check_ascending.Given as goal

abbrev pub invariant-loop-location : goal.invariant-loop-location
invariant-loop-location g l = first_bad l.fn.leaves l.low l.rest ≡ first_bad l.fn.leaves 0 l.fn.locations

abbrev pub decreases-loop-location : goal.decreases-loop-location
decreases-loop-location g l = length l.rest
