use Rattle.std.proofs.Common.{◌≡◌, ◌*◌, ◌%◌, length, sym, ◌∙◌, ap, eq-eqb}
use Rattle.std.proofs.lemmas.Bool.{eqb-true}
use Rattle.state_theory.specs.Bits.{Bits}
use Rattle.state_theory.proofs.HeldLemmas.{held-length}
use Rattle.state_proofs_parts.proofs.prunable.Prunable.is_chunk_aligned.Goals as goal

pub returns : goal.returns
returns g c =
    let rest : c.self.inside.kept % c.chunk_bits.result ≡ length c.args.self.now.kept % (8 * g.row.N) =
    ap (λ n. c.self.inside.kept % n) c.chunk_bits.ensures.bits
    ∙ ap (λ n. n % (8 * g.row.N)) (sym (held-length g.row.N c.self.inside.pruned c.self.inside.kept c.self.inside.bytes.items c.self.invariant))
    ∙ ap (λ (b : Bits). length b.kept % (8 * g.row.N)) c.self.view_is in
    (λ yes. sym rest ∙ eqb-true _ 0 yes, λ none. eq-eqb _ 0 (rest ∙ none))
