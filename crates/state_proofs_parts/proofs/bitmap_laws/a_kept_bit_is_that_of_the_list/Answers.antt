use Rattle.state_theory.proofs.KeptLemmas.{bit-kept}
use Rattle.state_proofs_parts.proofs.bitmap_laws.a_kept_bit_is_that_of_the_list.Goals as goal

pub returns : goal.returns
returns c = bit-kept
