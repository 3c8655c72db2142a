use Rattle.state_theory.proofs.LastLemmas.{last-kept}
use Rattle.state_theory.proofs.WidthLemmas.{wide-some}
use Rattle.state_proofs_parts.proofs.bitmap_laws.a_last_chunk_is_that_of_the_list.Goals as goal

pub returns : goal.returns
returns c width all bits wide are = last-kept width all bits (wide-some width wide) are
