use Rattle.std.proofs.Common.{◌≡◌, ◌-◌, ◌*◌, ◌++◌, false, length, replicate, ◌∙◌, ap, arith}
use Rattle.std.specs.Prelude.{slice_set}
use Rattle.std.proofs.lemmas.List.{set-append_right}
use Rattle.state_theory.specs.Bits.{bits_in}
use Rattle.state_theory.proofs.BitLemmas.{bits_in-append, bits_in-zeros, length-bits_in, first_of_zeros}
use Rattle.state_proofs_parts.proofs.prunable.append_chunk.Goals as goal

pub returns-clause-bits : goal.returns-clause-bits
returns-clause-bits g c =
    let old = c.args.bytes.now.items in
    let at : length (bits_in old) ≡ c.len.result * 8 = omega (arith, length-bits_in old, c.len.ensures, c.args.bytes.now.ok) in
    c.put_bit.ensures.bits
    ∙ ap (λ bytes. slice_set (bits_in bytes) (8 * c.len.result) c.args.bit) c.in_ok-extend_from_slice.ensures.items
    ∙ ap (λ bits. slice_set bits (8 * c.len.result) c.args.bit) (bits_in-append old (replicate g.row.N 0)
    ∙ ap (λ bits. bits_in old ++ bits) (bits_in-zeros g.row.N))
    ∙ set-append_right (bits_in old) (replicate (8 * g.row.N) false) (8 * c.len.result) (8 * c.len.result) c.args.bit (omega (arith, at)) (omega arith)
    ∙ ap (λ bits. bits_in old ++ bits)
    (first_of_zeros (8 * g.row.N) (8 * c.len.result - 8 * c.len.result) c.args.bit (omega arith) (omega (arith, c.requires.some)))
