use Rattle.std.proofs.Common.{◌*◌, ◌%◌, false, get_or, ◌∙◌, ap}
use Rattle.state_theory.specs.Bits.{bits_in}
use Rattle.state_theory.proofs.LastLemmas.{bit-read}
use Rattle.state_theory.proofs.WidthLemmas.{wide-some}
use Rattle.state_proofs_parts.proofs.bitmap_laws.a_bit_of_a_true_claim_is_that_of_the_list.Goals as goal

pub returns : goal.returns
returns c width all claim wide true_of =
    ap (λ chunk. get_or (bits_in chunk) (claim.bit % (8 * width)) false) true_of.chunk
    ∙ bit-read width all claim.bit (wide-some width wide)
