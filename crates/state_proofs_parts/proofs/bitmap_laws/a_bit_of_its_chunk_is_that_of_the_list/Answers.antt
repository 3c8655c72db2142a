use Rattle.state_theory.proofs.LastLemmas.{bit-read}
use Rattle.state_theory.proofs.WidthLemmas.{wide-some}
use Rattle.state_proofs_parts.proofs.bitmap_laws.a_bit_of_its_chunk_is_that_of_the_list.Goals as goal

pub returns : goal.returns
returns c width all bit wide = bit-read width all bit (wide-some width wide)
