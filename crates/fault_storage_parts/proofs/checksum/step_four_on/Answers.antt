use Rattle.std.proofs.Common.{◌≡◌, ◌∙◌, ap, sym, bit_xor, ◌/◌, ◌%◌, ◌^◌, arith}
use Rattle.std.proofs.lemmas.Nat.{and_mask}
use Rattle.fault_storage_parts.specs.Crc32.{after_bits, after_bytes}
use Rattle.fault_storage_parts.proofs.Crc.{four-bytes-on}
use Rattle.fault_storage_parts.proofs.checksum.step_four_on.Goals as goal

pub returns : goal.returns
unfolding after_bytes
returns c =
    let left = c.args.left in
    let two : left / 2 ^ 16 ≡ left / 2 ^ 8 / 2 ^ 8 = omega arith in
    let three : left / 2 ^ 24 ≡ left / 2 ^ 8 / 2 ^ 8 / 2 ^ 8 = omega arith in
    let e : c.after_eight-e.result ≡ after_bits 64 (bit_xor (left % 2 ^ 8) c.args.a) =
    c.after_eight-e.ensures ∙ ap (λ x. after_bits 64 (bit_xor x c.args.a)) (and_mask left 8) in
    let f : c.after_seven-f.result ≡ after_bits 56 (bit_xor (left / 2 ^ 8 % 2 ^ 8) c.args.b) =
    c.after_seven-f.ensures ∙ ap (λ x. after_bits 56 (bit_xor x c.args.b)) (and_mask (left / 2 ^ 8) 8) in
    let g : c.after_six-g.result ≡ after_bits 48 (bit_xor (left / 2 ^ 8 / 2 ^ 8 % 2 ^ 8) c.args.c) =
    c.after_six-g.ensures ∙ ap (λ x. after_bits 48 (bit_xor x c.args.c)) (and_mask (left / 2 ^ 16) 8 ∙ ap (λ x. x % 2 ^ 8) two) in
    let h : c.after_five-h.result ≡ after_bits 40 (bit_xor (left / 2 ^ 8 / 2 ^ 8 / 2 ^ 8) c.args.d) =
    c.after_five-h.ensures ∙ ap (λ x. after_bits 40 (bit_xor x c.args.d)) three in
    ap (λ x. bit_xor x (bit_xor c.after_six-g.result (bit_xor c.after_seven-f.result c.after_eight-e.result))) h
    ∙ ap (bit_xor (after_bits 40 (bit_xor (left / 2 ^ 8 / 2 ^ 8 / 2 ^ 8) c.args.d)))
    (ap (λ x. bit_xor x (bit_xor c.after_seven-f.result c.after_eight-e.result)) g
    ∙ ap (bit_xor (after_bits 48 (bit_xor (left / 2 ^ 8 / 2 ^ 8 % 2 ^ 8) c.args.c)))
    (ap (λ x. bit_xor x c.after_eight-e.result) f ∙ ap (bit_xor (after_bits 56 (bit_xor (left / 2 ^ 8 % 2 ^ 8) c.args.b))) e))
    ∙ sym (four-bytes-on left c.args.a c.args.b c.args.c c.args.d (omega arith) (omega arith) (omega arith) (omega arith))
