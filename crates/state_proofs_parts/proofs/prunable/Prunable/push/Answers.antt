use Rattle.std.proofs.Common.{◌++◌, [], ◌∷◌, take, ◌∙◌, ap, arith}
use Rattle.state_theory.specs.Bits.{Bits, bits_in}
use Rattle.state_theory.proofs.HeldLemmas.{Holds, few_held, push_full, push_within, zero_after}
use Rattle.state_theory.proofs.WidthLemmas.{wide-few}
use Rattle.state_proofs_parts.proofs.prunable.Prunable.push.Goals as goal

pub overflow_mul-len : goal.overflow_mul-len
overflow_mul-len g c =
    let few = few_held g.row.N c.self.inside.pruned c.self.inside.kept c.self.inside.bytes.items c.args.self.now c.self.invariant c.self.view_is c.requires in
    omega (arith, c.len.ensures, c.self.inside.bytes.ok, c.self.invariant.tight, wide-few g.row.N c.self.invariant.wide, few)

pub append_chunk-requires-clause-few : goal.append_chunk-requires-clause-few
append_chunk-requires-clause-few g c =
    let few = few_held g.row.N c.self.inside.pruned c.self.inside.kept c.self.inside.bytes.items c.args.self.now c.self.invariant c.self.view_is c.requires in
    omega (arith, c.len.ensures, c.self.inside.bytes.ok, c.if-self-len.true, wide-few g.row.N c.self.invariant.wide, few)

full : (g : _) (c : goal.After-self-1 g) → Holds g.row.N c.self.inside.pruned (Prim.Native.Nat.◌+◌ c.self.inside.kept 1)
    c.append_chunk.new.bytes.items (take c.self.inside.kept (bits_in c.self.inside.bytes.items) ++ c.args.bit ∷ [])
full g c =
    push_full g.row.N c.self.inside.pruned c.self.inside.kept c.self.inside.bytes.items c.append_chunk.new.bytes.items c.args.bit c.self.invariant
    (few_held g.row.N c.self.inside.pruned c.self.inside.kept c.self.inside.bytes.items c.args.self.now c.self.invariant c.self.view_is c.requires)
    (omega (arith, c.len.ensures, c.self.inside.bytes.ok, c.if-self-len.true)) c.in_ok-append_chunk.ensures.bits c.in_ok-append_chunk.ensures.length

pub invariant_of-self-then-self-len : goal.invariant_of-self-then-self-len
invariant_of-self-then-self-len g c = (full g c).held

pub returns-then-self-len-clause-pushed : goal.returns-then-self-len-clause-pushed
returns-then-self-len-clause-pushed g c =
    ap (λ bits. record { pruned = c.self.inside.pruned; kept = bits }) (full g c).bits_are
    ∙ ap (λ (b : Bits). record { pruned = b.pruned; kept = b.kept ++ c.args.bit ∷ [] }) c.self.view_is

pub fill_bit-requires-clause-zero : goal.fill_bit-requires-clause-zero
fill_bit-requires-clause-zero g c = zero_after g.row.N c.self.inside.pruned c.self.inside.kept c.self.inside.bytes.items c.self.invariant

within : (g : _) (c : goal.After-self-2-1 g) → Holds g.row.N c.self.inside.pruned (Prim.Native.Nat.◌+◌ c.self.inside.kept 1)
    c.fill_bit.new.bytes.items (take c.self.inside.kept (bits_in c.self.inside.bytes.items) ++ c.args.bit ∷ [])
within g c =
    push_within g.row.N c.self.inside.pruned c.self.inside.kept c.self.inside.bytes.items c.fill_bit.new.bytes.items c.args.bit c.self.invariant
    (few_held g.row.N c.self.inside.pruned c.self.inside.kept c.self.inside.bytes.items c.args.self.now c.self.invariant c.self.view_is c.requires)
    (omega (arith, c.len.ensures, c.self.inside.bytes.ok, c.self.invariant.enough, c.if-self-len.false)) c.fill_bit.ensures.bits c.fill_bit.ensures.length

pub invariant_of-self-2 : goal.invariant_of-self-2
invariant_of-self-2 g c = (within g c).held

pub returns-clause-pushed : goal.returns-clause-pushed
returns-clause-pushed g c =
    ap (λ bits. record { pruned = c.self.inside.pruned; kept = bits }) (within g c).bits_are
    ∙ ap (λ (b : Bits). record { pruned = b.pruned; kept = b.kept ++ c.args.bit ∷ [] }) c.self.view_is
