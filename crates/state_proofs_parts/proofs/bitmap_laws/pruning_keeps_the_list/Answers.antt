use Rattle.state_theory.proofs.KeptLemmas.{kept-prune}
use Rattle.state_proofs_parts.proofs.bitmap_laws.pruning_keeps_the_list.Goals as goal

pub returns : goal.returns
returns c = kept-prune
