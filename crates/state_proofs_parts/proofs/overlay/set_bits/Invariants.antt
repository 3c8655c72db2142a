use Rattle.std.proofs.Common.{◌≡◌, ◌*◌, take}
use Rattle.state_theory.specs.Overlay.{set_again}
use Rattle.state_proofs_parts.proofs.overlay.set_bits.Given as goal

abbrev pub invariant-loop-place : goal.invariant-loop-place
invariant-loop-place g l =
    l.bits ≡ record l.fn.bits { kept = set_again (8 * g.row.N * l.fn.bits.pruned) l.fn.bits.kept (take l.place-index l.places) }
