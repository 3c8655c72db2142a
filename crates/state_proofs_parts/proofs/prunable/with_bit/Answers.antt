use Rattle.std.proofs.Common.{◌≡◌, ◌<◌, true, false, sym, ap, ap₂, ◌∙◌, subst, arith}
use Rattle.std.specs.Int.{w8}
use Rattle.std.proofs.lemmas.Nat.Bits.{bit_at_set_same, bit_at_set_other, bit_at_clear_same, bit_at_clear_other}
use Rattle.state_theory.proofs.BitLemmas.{bits_of-set}
use Rattle.state_proofs_parts.proofs.prunable.with_bit.Goals as goal

pub returns-then-bit : goal.returns-then-bit
returns-then-bit c =
    bits_of-set 8 c.args.byte _ c.args.at c.args.bit c.requires
    (ap (λ n. Rattle.std.proofs.Common.eqb n 1) (bit_at_set_same w8 c.args.byte c.args.at c.requires) ∙ sym c.if-bit.true)
    (λ i lt differ. bit_at_set_other w8 c.args.byte c.args.at c.requires i differ)

pub returns-else-bit : goal.returns-else-bit
returns-else-bit c =
    bits_of-set 8 c.args.byte _ c.args.at c.args.bit c.requires
    (ap (λ n. Rattle.std.proofs.Common.eqb n 1) (bit_at_clear_same w8 c.args.byte c.args.at c.requires) ∙ sym c.if-bit.false)
    (λ i lt differ. bit_at_clear_other w8 c.args.byte c.args.at c.requires i lt differ)
