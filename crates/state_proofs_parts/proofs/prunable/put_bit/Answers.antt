use Rattle.std.proofs.Common.{◌≡◌, ◌+◌, ◌*◌, ◌/◌, ◌%◌, get_or, length, ◌<◌, ◌∙◌, ap, arith}
use Rattle.std.specs.Prelude.{slice_set}
use Rattle.std.proofs.lemmas.List.{get_or_read}
use Rattle.state_theory.specs.Bits.{bits_in, bits_of}
use Rattle.state_theory.proofs.BitLemmas.{set-bits_in}
use Rattle.state_proofs_parts.proofs.prunable.put_bit.Goals as goal

pub returns-clause-bits : goal.returns-clause-bits
returns-clause-bits c =
    let old = c.args.bytes.now.items in
    let at : 8 * (c.args.at / 8) + c.args.at % 8 ≡ c.args.at = omega arith in
    let within : c.args.at / 8 < length old = omega (arith, c.requires) in
    let read : c.index.result.now ≡ get_or old (c.args.at / 8) 0 = get_or_read old (c.args.at / 8) c.index.result.now within c.index.ensures 0 in
    set-bits_in old (c.args.at / 8) (c.args.at % 8) c.with_bit.result c.args.bit within (omega arith)
    (c.with_bit.ensures ∙ ap (λ byte. slice_set (bits_of 8 byte) (c.args.at % 8) c.args.bit) read)
    ∙ ap (λ k. slice_set (bits_in old) k c.args.bit) at
