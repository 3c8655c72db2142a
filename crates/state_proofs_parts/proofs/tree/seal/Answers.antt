use Rattle.std.proofs.Common.{sym, ◌∙◌, ap, List, ℕ}
use Rattle.state_theory.specs.Bits.{bit_count, last_chunk}
use Rattle.state_theory.specs.Maps.{bitmap_string}
use Rattle.state_theory.proofs.MapLemmas.{rest_count, sealed-full, sealed-partial}
use Rattle.state_theory.proofs.WidthLemmas.{wide-some}
use Rattle.state_proofs_parts.proofs.tree.seal.Goals as goal

pub returns-then-is_chunk_aligned : goal.returns-then-is_chunk_aligned
returns-then-is_chunk_aligned g c =
    sym (sealed-full g.H.Hasher.hash_of g.row.N (g.D.Write.encoding c.args.tree_root) (bit_count g.row.N c.args.bits.now) _
    (rest_count g.row.N c.args.bits.now (wide-some g.row.N c.requires) ∙ c.is_chunk_aligned.ensures.0 c.if-is_chunk_aligned.true))

pub returns : goal.returns
returns g c =
    let hash = g.H.Hasher.hash_of in
    let root = g.D.Write.encoding c.args.tree_root in
    let count = bit_count g.row.N c.args.bits.now in
    c.partial_digest.ensures
    ∙ ap (λ n. hash (bitmap_string root n (g.D.Write.encoding c.digest.result))) c.len.ensures.length
    ∙ ap (λ d. hash (bitmap_string root count d)) (c.digest.ensures ∙ ap (λ (last : List ℕ × ℕ). hash last.0) c.last_chunk-last.ensures)
    ∙ sym (sealed-partial hash g.row.N root count (last_chunk g.row.N c.args.bits.now.kept).0
    (λ full. let aligned = c.is_chunk_aligned.ensures.1 (sym (rest_count g.row.N c.args.bits.now (wide-some g.row.N c.requires)) ∙ full) in
    let clash = sym aligned ∙ c.if-is_chunk_aligned.false in cc))
