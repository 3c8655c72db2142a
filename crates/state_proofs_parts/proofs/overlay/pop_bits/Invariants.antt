use Rattle.std.proofs.Common.{◌≡◌, ◌-◌, length, take}
use Rattle.state_proofs_parts.proofs.overlay.pop_bits.Given as goal

abbrev pub invariant-loop : goal.invariant-loop
invariant-loop g l = l.bits ≡ record l.fn.bits { kept = take (length l.fn.bits.kept - l.counter) l.fn.bits.kept }
