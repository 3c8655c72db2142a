use Rattle.std.proofs.Common.{◌≡◌, ◌-◌, ◌<◌, List, Bool, ℕ, take, length, sym, ◌∙◌, ap, subst, arith}
use Rattle.state_theory.specs.Bits.{Bits, bits_in}
use Rattle.state_theory.proofs.HeldLemmas.{Holds, held-length, pop_bit, pop_chunk, some_chunk}
use Rattle.state_proofs_parts.proofs.prunable.Prunable.pop.Goals as goal

-- there is a bit, where all are counted
some_bit : (pruned kept : ℕ) (bits : List Bool) (seen : Bits) → length bits ≡ kept → record { pruned = pruned; kept = bits } ≡ seen
    → 0 < length seen.kept → 0 < kept
some_bit pruned kept bits seen long is some = omega (arith, long, subst (λ (b : Bits). 0 < length b.kept) (sym is) some)

-- what contracts see then
without_last : (pruned kept : ℕ) (bits bits_after : List Bool) (seen : Bits) → length bits ≡ kept
    → record { pruned = pruned; kept = bits } ≡ seen → bits_after ≡ take (kept - 1) bits
    → record { pruned = pruned; kept = bits_after } ≡ record seen { kept = take (length seen.kept - 1) seen.kept }
without_last pruned kept bits bits_after seen long is are =
    ap (λ bs. record { pruned = pruned; kept = bs }) (are ∙ ap (λ n. take (n - 1) bits) (sym long))
    ∙ ap (λ (b : Bits). record b { kept = take (length b.kept - 1) b.kept }) is

alone : (g : _) (c : goal.After-truncate g) → Holds g.row.N c.self.inside.pruned (c.self.inside.kept - 1) c.truncate.new.self.items
    (take (c.self.inside.kept - 1) (take c.self.inside.kept (bits_in c.self.inside.bytes.items)))
alone g c =
    let long = held-length g.row.N c.self.inside.pruned c.self.inside.kept c.self.inside.bytes.items c.self.invariant in
    let some = some_bit c.self.inside.pruned c.self.inside.kept (take c.self.inside.kept (bits_in c.self.inside.bytes.items)) c.args.self.now long
    c.self.view_is c.requires in
    let chunk = some_chunk g.row.N c.self.inside.pruned c.self.inside.kept c.self.inside.bytes.items c.self.invariant some in
    pop_chunk g.row.N c.self.inside.pruned c.self.inside.kept c.self.inside.bytes.items c.truncate.new.self.items (c.len-left.result - g.row.N)
    c.self.invariant some (omega (arith, chunk, c.len-left.ensures, c.self.inside.bytes.ok)) (omega (arith, c.if-at-left.true))
    c.truncate.ensures.items

pub invariant_of-self : goal.invariant_of-self
invariant_of-self g c = (alone g c).held

pub returns-then-at-left : goal.returns-then-at-left
returns-then-at-left g c =
    let long = held-length g.row.N c.self.inside.pruned c.self.inside.kept c.self.inside.bytes.items c.self.invariant in
    without_last c.self.inside.pruned c.self.inside.kept (take c.self.inside.kept (bits_in c.self.inside.bytes.items)) _ c.args.self.now long
    c.self.view_is (alone g c).bits_are

others : (g : _) (c : goal.After-put_bit g) → Holds g.row.N c.self.inside.pruned (c.self.inside.kept - 1) c.put_bit.new.bytes.items
    (take (c.self.inside.kept - 1) (take c.self.inside.kept (bits_in c.self.inside.bytes.items)))
others g c =
    let long = held-length g.row.N c.self.inside.pruned c.self.inside.kept c.self.inside.bytes.items c.self.invariant in
    let some = some_bit c.self.inside.pruned c.self.inside.kept (take c.self.inside.kept (bits_in c.self.inside.bytes.items)) c.args.self.now long
    c.self.view_is c.requires in
    let chunk = some_chunk g.row.N c.self.inside.pruned c.self.inside.kept c.self.inside.bytes.items c.self.invariant some in
    pop_bit g.row.N c.self.inside.pruned c.self.inside.kept c.self.inside.bytes.items c.put_bit.new.bytes.items (c.len-left.result - g.row.N)
    c.self.invariant some (omega (arith, chunk, c.len-left.ensures, c.self.inside.bytes.ok)) (omega (arith, c.if-at-left.false))
    c.put_bit.ensures.bits c.put_bit.ensures.length

pub invariant_of-self-2 : goal.invariant_of-self-2
invariant_of-self-2 g c = (others g c).held

pub returns : goal.returns
returns g c =
    let long = held-length g.row.N c.self.inside.pruned c.self.inside.kept c.self.inside.bytes.items c.self.invariant in
    without_last c.self.inside.pruned c.self.inside.kept (take c.self.inside.kept (bits_in c.self.inside.bytes.items)) _ c.args.self.now long
    c.self.view_is (others g c).bits_are
