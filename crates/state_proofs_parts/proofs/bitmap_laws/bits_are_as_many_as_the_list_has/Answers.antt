use Rattle.state_theory.proofs.KeptLemmas.{count-kept}
use Rattle.state_proofs_parts.proofs.bitmap_laws.bits_are_as_many_as_the_list_has.Goals as goal

pub returns : goal.returns
returns c = count-kept
