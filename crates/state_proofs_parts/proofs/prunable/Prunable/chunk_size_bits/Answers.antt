use Rattle.state_theory.proofs.WidthLemmas.{wide-few}
use Rattle.state_proofs_parts.proofs.prunable.Prunable.chunk_size_bits.Goals as goal

pub returns-clause-few : goal.returns-clause-few
returns-clause-few g c = wide-few g.row.N c.requires
