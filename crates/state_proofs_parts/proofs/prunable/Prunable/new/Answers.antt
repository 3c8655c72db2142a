use Rattle.std.proofs.Common.{refl, arith}
use Rattle.state_theory.specs.Bits.{bits_in}
use Rattle.state_theory.proofs.WidthLemmas.{wide-some}
use Rattle.state_proofs_parts.proofs.prunable.Prunable.new.Goals as goal

pub invariant_of-result : goal.invariant_of-result
unfolding bits_in
invariant_of-result g c = rw c.new.ensures.items (record {
  wide = c.requires;
  few = omega arith;
  low = omega arith;
  count = 0;
  counted = omega arith;
  enough = omega arith;
  tight = omega (arith, wide-some g.row.N c.requires);
  zeros = refl;
})
