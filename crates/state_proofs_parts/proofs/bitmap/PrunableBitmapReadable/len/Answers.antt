use Rattle.std.proofs.Common.{sym, ◌∙◌}
use Rattle.state_theory.specs.Laws.Bits.{length-all}
use Rattle.state_proofs_parts.proofs.bitmap.PrunableBitmapReadable.len.Goals as goal

pub returns : goal.returns
returns g c = c.len.ensures.length ∙ sym (length-all g.row.N c.args.self.now)
