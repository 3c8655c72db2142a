use Rattle.std.proofs.Common.{◌≡◌, ◌++◌, take}
use Rattle.state_proofs_parts.proofs.overlay.push_bits.Given as goal

abbrev pub invariant-loop-bit : goal.invariant-loop-bit
invariant-loop-bit g l = l.overlay ≡ record l.fn.overlay {
  after = record l.fn.overlay.after { kept = l.fn.overlay.after.kept ++ take l.bit-index l.more };
}
