use Rattle.std.proofs.Common.{rules, ◌≡◌, ◌<◌, ◌≤◌, ℕ, ◌*◌, ◌/◌, ◌%◌, length, ◌∙◌, sym, ap, subst, arith}
use Rattle.state_proofs.proofs.BuiltLemmas.{kept_full, partial_there}
use Rattle.state_proofs.proofs.proof.building.partial_digest.Goals as goal

pub get_chunk-chunk-requires : goal.get_chunk-chunk-requires
get_chunk-chunk-requires g c =
    let n : ℕ = length (g.B.BitmapReadable.bits c.args.status.now) in
    let wide : 8 * c.args.chunk_size.width ≡ 8 * g.row.N = ap (λ w. 8 * w) c.requires in
    let index : c.full_chunks.result ≡ n / (8 * g.row.N) =
    c.full_chunks.ensures ∙ ap (λ w. c.len-count.result / w) wide ∙ ap (λ k. k / (8 * g.row.N)) c.len-count.ensures in
    let left : c.bit_of.result ≡ n % (8 * g.row.N) =
    c.bit_of.ensures.bit ∙ ap (λ w. c.len-count.result % w) wide ∙ ap (λ k. k % (8 * g.row.N)) c.len-count.ensures in
    let some : 0 < 8 * g.row.N = omega (arith, wide, c.bit_of.ensures.within) in (
      search rules,
      (
        subst (λ (i : ℕ). g.B.BitmapReadable.pruned c.args.status.now ≤ i) (sym index)
            (kept_full n (8 * g.row.N) (g.B.BitmapReadable.pruned c.args.status.now) some (g.met.B.BitmapReadable.pruned_within c.args.status.now)),
        subst (λ (i : ℕ). 8 * g.row.N * i < n) (sym index) (partial_there n (8 * g.row.N) (omega (arith, left, c.if-bit_of-eq0.false))),
      ),
    )
