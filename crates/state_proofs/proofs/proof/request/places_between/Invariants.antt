use Rattle.std.proofs.Common.{◌≡◌, ◌-◌, ◌++◌}
use Rattle.std.specs.List.{range_with_len}
use Rattle.state_proofs.proofs.proof.request.places_between.Given as goal

abbrev pub invariant-loop-place : goal.invariant-loop-place
invariant-loop-place l = l.places.items ++ range_with_len l.place (l.stop - l.place) ≡ range_with_len l.start (l.stop - l.start)
