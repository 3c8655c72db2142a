use Rattle.std.proofs.Common.{◌≡◌, ◌+◌, ◌*◌, ◌/◌, ◌%◌, false, get_or, sym, ◌∙◌, ap, arith}
use Rattle.state_theory.specs.Bits.{bits_in}
use Rattle.state_theory.proofs.BitLemmas.{at-bits_in}
use Rattle.state_proofs_parts.proofs.prunable.bit_in.Goals as goal

pub returns : goal.returns
returns c =
    let at : c.args.at ≡ 8 * (c.args.at / 8) + c.args.at % 8 = omega arith in
    sym (ap (λ k. get_or (bits_in c.args.bytes.now) k false) at
    ∙ at-bits_in c.args.bytes.now (c.args.at / 8) (c.args.at % 8) (omega arith) (omega arith))
