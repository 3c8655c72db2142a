use Rattle.state_theory.proofs.KeptLemmas.{chunk-kept}
use Rattle.state_proofs_parts.proofs.bitmap_laws.a_kept_chunk_is_that_of_the_list.Goals as goal

pub returns : goal.returns
returns c = chunk-kept
