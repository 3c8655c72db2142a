use Rattle.state_theory.proofs.MadeLemmas.{value-made}
use Rattle.state_proofs_parts.proofs.bitmap_laws.roots_are_values_of_what_is_made.Goals as goal

pub returns : goal.returns
returns c hash bagging width all wide = value-made hash bagging width all
