use Rattle.std.proofs.Common.{rules, ◌≡◌, ◌+◌, ◌-◌, ◌*◌, ◌/◌, ◌≤◌, ◌<◌, ℕ, ap, sym, ◌∙◌, subst, arith}
use Rattle.std.proofs.lemmas.Nat.{pow_pos}
use Rattle.state_proofs.proofs.RequestLemmas.{begins_inside, few_chunks}
use Rattle.state_proofs.proofs.proof.request.chunks_between_locations.Goals as goal

pub chunks_from-requires : goal.chunks_from-requires
chunks_from-requires g c =
    let bits : ℕ = 8 * g.row.N in
    let some : 0 < bits = subst (λ (n : ℕ). 0 < n) (sym c.requires.width.1) (pow_pos c.requires.width.0) in
    let wide : 8 * c.of_bytes-chunk_size.result.width ≡ bits = ap (λ w. 8 * w) c.of_bytes-chunk_size.ensures in
    let first : c.index_of-first.result ≡ c.args.start / bits = c.index_of-first.ensures ∙ ap (λ b. c.args.start / b) wide in
    let last : c.index_of-last.result ≡ (c.args.stop - 1) / bits = c.index_of-last.ensures ∙ ap (λ b. (c.args.stop - 1) / b) wide in
    let all : c.index_of-first.result + (c.index_of-last.result + 1 - c.index_of-first.result)
    ≡ c.args.start / bits + ((c.args.stop - 1) / bits + 1 - c.args.start / bits) = omega (arith, first, last) in (
      search rules,
      (
        c.requires.width,
        (
          subst (λ (n : ℕ). g.B.BitmapReadable.pruned c.args.status.now ≤ n) (sym first) c.requires.kept,
          (
            (λ index lt. omega (arith, begins_inside bits c.args.start c.args.stop index some c.requires.some (omega (arith, lt, all)), c.requires.within)),
            omega (arith, few_chunks bits c.args.start c.args.stop some c.requires.some, all, c.ranges.stop.fits),
          ),
        ),
      ),
    )
