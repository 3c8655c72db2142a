use Rattle.std.proofs.Common.{◌≡◌, ◌+◌, ◌*◌, ◌-◌, ◌<◌, ◌≤◌, length, get_or, take, drop, sym, ◌∙◌, ap, subst, arith}
use Rattle.state_theory.specs.Bits.{Bits, chunk_at}
use Rattle.state_theory.proofs.HeldLemmas.{held-length, chunk_ends, chunk_held}
use Rattle.state_proofs_parts.proofs.prunable.Prunable.get_chunk.Goals as goal

pub part-requires : goal.part-requires
part-requires g c =
    let there = subst (λ (b : Bits). 8 * g.row.N * (c.args.chunk - b.pruned) < length b.kept) (sym c.self.view_is) c.requires.there in
    let reaches : 8 * g.row.N * (c.args.chunk - c.self.inside.pruned) < c.self.inside.kept =
    omega (arith, there, held-length g.row.N c.self.inside.pruned c.self.inside.kept c.self.inside.bytes.items c.self.invariant) in
    let ends = chunk_ends g.row.N c.self.inside.pruned c.self.inside.kept c.self.inside.bytes.items
    (c.args.chunk - c.self.inside.pruned) c.self.invariant reaches in
    let bytes : c.deref.result.now ≡ c.self.inside.bytes.items = c.deref.ensures.value in
    let last : (c.args.chunk - c.self.inside.pruned) * g.row.N + g.row.N ≤ length c.deref.result.now = omega (arith, ends, ap length bytes) in
    last

pub returns : goal.returns
returns g c =
    let i = c.args.chunk - c.self.inside.pruned in
    let there = subst (λ (b : Bits). 8 * g.row.N * (c.args.chunk - b.pruned) < length b.kept) (sym c.self.view_is) c.requires.there in
    let reaches : 8 * g.row.N * i < c.self.inside.kept =
    omega (arith, there, held-length g.row.N c.self.inside.pruned c.self.inside.kept c.self.inside.bytes.items c.self.invariant) in
    c.part.ensures.part
    ∙ ap (λ bytes. take g.row.N (drop (i * g.row.N) bytes)) c.deref.ensures.value
    ∙ chunk_held g.row.N c.self.inside.pruned c.self.inside.kept c.self.inside.bytes.items i c.self.invariant reaches
    (λ k within. subst (λ bytes. get_or bytes k 0 < 256) c.deref.ensures.value
    (c.part.ensures.small k (subst (λ bytes. k < length bytes) (sym c.deref.ensures.value) within)))
    ∙ ap (λ (b : Bits). chunk_at g.row.N b.kept (c.args.chunk - b.pruned)) c.self.view_is
