use Rattle.state_theory.proofs.KeptLemmas.{kept-push}
use Rattle.state_proofs_parts.proofs.bitmap_laws.pushed_bits_end_the_list.Goals as goal

pub returns : goal.returns
returns c = kept-push
