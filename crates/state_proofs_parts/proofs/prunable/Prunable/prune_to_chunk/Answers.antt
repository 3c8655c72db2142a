use Rattle.std.proofs.Common.{◌≡◌, ◌-◌, ◌+◌, ◌*◌, ◌≤◌, take, drop, length, sym, ◌∙◌, ap, subst, arith, length-drop}
use Rattle.std.proofs.lemmas.List.{take_at}
use Rattle.state_theory.specs.Bits.{Bits, IsHeld, bits_in}
use Rattle.state_theory.proofs.HeldLemmas.{Holds, held-length, prune_front, prune_low}
use Rattle.state_proofs_parts.proofs.prunable.Prunable.prune_to_chunk.Goals as goal

fits : (g : _) (c : goal.After-self-2-1 g) → 8 * g.row.N * (c.args.chunk - c.self.inside.pruned) ≤ c.self.inside.kept
fits g c =
    let there = subst (λ (b : Bits). 8 * g.row.N * (c.args.chunk - b.pruned) ≤ length b.kept) (sym c.self.view_is) c.requires.there in
    omega (arith, there, held-length g.row.N c.self.inside.pruned c.self.inside.kept c.self.inside.bytes.items c.self.invariant)

whole : (g : _) (c : goal.After-self-2-1 g) → c.self.inside.pruned + (c.args.chunk - c.self.inside.pruned) ≡ c.args.chunk
whole g c =
    let kept = subst (λ (b : Bits). b.pruned ≤ c.args.chunk) (sym c.self.view_is) c.requires.kept in
    omega (arith, kept)

after : (g : _) (c : goal.After-self-2-1 g) → Holds g.row.N (c.self.inside.pruned + (c.args.chunk - c.self.inside.pruned))
    (c.self.inside.kept - 8 * ((c.args.chunk - c.self.inside.pruned) * g.row.N)) c.truncate.new.self.items
    (drop (8 * g.row.N * (c.args.chunk - c.self.inside.pruned)) (take c.self.inside.kept (bits_in c.self.inside.bytes.items)))
after g c =
    let bytes = c.self.inside.bytes.items in
    let dropped = (c.args.chunk - c.self.inside.pruned) * g.row.N in
    let left : length (drop dropped bytes) ≡ c.len.result - dropped = omega (arith, length-drop dropped bytes, c.len.ensures, c.self.inside.bytes.ok) in
    prune_front g.row.N c.self.inside.pruned c.self.inside.kept bytes c.truncate.new.self.items (c.args.chunk - c.self.inside.pruned) c.self.invariant
    (fits g c) (prune_low g.row.N c.self.inside.pruned c.self.inside.kept bytes (c.args.chunk - c.self.inside.pruned) c.self.invariant (fits g c))
    (c.truncate.ensures.items ∙ ap (take (c.len.result - dropped)) c.rotate_left.ensures.items
    ∙ take_at (drop dropped bytes) (take dropped bytes) (c.len.result - dropped) left)

pub invariant_of-self : goal.invariant_of-self
invariant_of-self g c =
    subst (λ chunk. IsHeld g.row.N chunk (c.self.inside.kept - 8 * ((c.args.chunk - c.self.inside.pruned) * g.row.N)) c.truncate.new.self.items)
    (whole g c) (after g c).held

pub returns : goal.returns
returns g c =
    ap (λ bits. record { pruned = c.args.chunk; kept = bits }) (after g c).bits_are
    ∙ ap (λ (b : Bits). record { pruned = c.args.chunk; kept = drop (8 * g.row.N * (c.args.chunk - b.pruned)) b.kept }) c.self.view_is
