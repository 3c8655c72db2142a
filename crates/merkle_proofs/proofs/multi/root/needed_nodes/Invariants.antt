use Rattle.std.proofs.Common.{◌≡◌, map, take}
use Rattle.merkle_proofs.proofs.multi.root.needed_nodes.Given as goal

abbrev pub invariant-loop-location : goal.invariant-loop-location
invariant-loop-location g l = l.locations.items ≡ map (λ e. e.1) (take l.location-index l.fn.elements)
