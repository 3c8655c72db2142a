use Rattle.std.proofs.Common.{◌≡◌, ◌-◌, ◌*◌, ◌<◌, length, take, drop, get_or, subst, sym, ◌∙◌, ap, ap₂, arith}
use Rattle.std.proofs.lemmas.List.{take_all, length-drop}
use Rattle.state_theory.specs.Bits.{Bits, last_chunk}
use Rattle.state_theory.proofs.HeldLemmas.{last_held}
use Rattle.state_proofs_parts.proofs.prunable.Prunable.last_chunk.Goals as goal

pub returns : goal.returns
returns g c =
    let bytes = c.self.inside.bytes.items in
    let long : c.len-first.result ≡ length bytes = omega (arith, c.len-first.ensures, c.self.inside.bytes.ok) in
    ap₂ (λ chunk count. (chunk, count))
    (c.copy_from_slice.ensures.after ∙ c.part.ensures.part
    ∙ ap (λ n. take g.row.N (drop (n - g.row.N) c.deref.result.now)) long
    ∙ ap (λ xs. take g.row.N (drop (length bytes - g.row.N) xs)) c.deref.ensures.value
    ∙ take_all g.row.N (drop (length bytes - g.row.N) bytes) (omega (arith, length-drop (length bytes - g.row.N) bytes)))
    (ap (λ n. c.self.inside.kept - 8 * (n - g.row.N)) long)
    ∙ last_held g.row.N c.self.inside.pruned c.self.inside.kept bytes c.self.invariant (omega (arith, c.if-self-eq0.false))
    (λ k within. subst (λ bytes. get_or bytes k 0 < 256) c.deref.ensures.value
    (c.part.ensures.small k (subst (λ bytes. k < length bytes) (sym c.deref.ensures.value) within)))
    ∙ ap (λ (b : Bits). last_chunk g.row.N b.kept) c.self.view_is
