use Rattle.state_theory.proofs.KeptLemmas.{kept-all}
use Rattle.state_proofs_parts.proofs.bitmap_laws.nothing_pruned_is_the_list.Goals as goal

pub returns : goal.returns
returns c = kept-all
