use Rattle.state_theory.proofs.KeptLemmas.{kept-set}
use Rattle.state_proofs_parts.proofs.bitmap_laws.a_changed_bit_is_changed_in_the_list.Goals as goal

pub returns : goal.returns
returns c = kept-set
