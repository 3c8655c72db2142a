use Rattle.std.proofs.Common.{◌-◌, ◌*◌, ◌<◌, ◌≤◌, take, sym, ◌∙◌, ap, subst, arith}
use Rattle.std.specs.Prelude.{slice_set}
use Rattle.state_theory.specs.Bits.{Bits, bits_in, bit_count}
use Rattle.state_theory.proofs.HeldLemmas.{Holds, held-length, set_within}
use Rattle.state_proofs_parts.proofs.prunable.Prunable.set_bit.Goals as goal

after : (g : _) (c : goal.After-put_bit g) → Holds g.row.N c.self.inside.pruned c.self.inside.kept c.put_bit.new.bytes.items
    (slice_set (take c.self.inside.kept (bits_in c.self.inside.bytes.items)) (c.args.bit - c.pruned_bits.result) c.args.value)
after g c =
    let there = subst (λ (b : Bits). c.args.bit < bit_count g.row.N b) (sym c.self.view_is) c.requires.there in
    let kept = subst (λ (b : Bits). 8 * g.row.N * b.pruned ≤ c.args.bit) (sym c.self.view_is) c.requires.kept in
    let pruned = c.pruned_bits.ensures.pruned ∙ ap (λ (b : Bits). 8 * g.row.N * b.pruned) (sym c.self.view_is) in
    let long = held-length g.row.N c.self.inside.pruned c.self.inside.kept c.self.inside.bytes.items c.self.invariant in
    set_within g.row.N c.self.inside.pruned c.self.inside.kept c.self.inside.bytes.items c.put_bit.new.bytes.items
    (c.args.bit - c.pruned_bits.result) c.args.value c.self.invariant (omega (arith, there, kept, pruned, long))
    c.put_bit.ensures.bits c.put_bit.ensures.length

pub invariant_of-self : goal.invariant_of-self
invariant_of-self g c = (after g c).held

pub returns : goal.returns
returns g c =
    ap (λ bits. record { pruned = c.self.inside.pruned; kept = bits }) (after g c).bits_are
    ∙ ap (λ n. record {
      pruned = c.self.inside.pruned;
      kept = slice_set (take c.self.inside.kept (bits_in c.self.inside.bytes.items)) (c.args.bit - n) c.args.value;
    }) c.pruned_bits.ensures.pruned
    ∙ ap (λ (b : Bits). record {
      pruned = b.pruned;
      kept = slice_set b.kept (c.args.bit - 8 * g.row.N * c.args.self.now.pruned) c.args.value;
    }) c.self.view_is
