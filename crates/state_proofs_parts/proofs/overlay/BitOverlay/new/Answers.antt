use Rattle.state_theory.proofs.OverlayLemmas.{laid_new, seen_new}
use Rattle.state_proofs_parts.proofs.overlay.BitOverlay.new.Goals as goal

pub invariant_of-result : goal.invariant_of-result
invariant_of-result g c = laid_new g.row.N c.args.bits c.kept_bits.result c.new.result.items c.kept_bits.ensures c.new.ensures.items

pub returns : goal.returns
returns g c = seen_new g.row.N c.args.bits c.kept_bits.result c.new.result.items c.kept_bits.ensures c.new.ensures.items
