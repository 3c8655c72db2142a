use Rattle.state_theory.proofs.MadeLemmas.{partial_long}
use Rattle.state_proofs_parts.proofs.bitmap_laws.strings_of_partial_roots_have_72_bytes.Goals as goal

pub returns : goal.returns
returns c tree_root last bits one two = partial_long tree_root last bits one two
