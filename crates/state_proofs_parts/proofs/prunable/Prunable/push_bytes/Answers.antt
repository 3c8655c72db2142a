use Rattle.std.proofs.Common.{rules, ◌≡◌, ◌≤◌, ◌+◌, ◌*◌, ◌/◌, ◌%◌}
use Rattle.std.proofs.Common.{◌^◌, ◌++◌, List, ℕ, length, take, drop, subst, sym, ◌∙◌, ap, arith}
use Rattle.std.proofs.lemmas.List.{take_at}
use Rattle.state_theory.specs.Bits.{Bits, bits_in, bit_count}
use Rattle.state_theory.proofs.ByteLemmas.{laid_behind}
use Rattle.state_theory.proofs.HeldLemmas.{Holds, eights, held-length}
use Rattle.state_proofs_parts.proofs.prunable.Prunable.push_bytes.Goals as goal

-- the bits fill their bytes, and with the new ones they are few
aligned : (width pruned kept : ℕ) (bytes : List ℕ) (bits : Bits) → length (take kept (bits_in bytes)) ≡ kept
    → record { pruned = pruned; kept = take kept (bits_in bytes) } ≡ bits → bit_count width bits % 8 ≡ 0 → kept ≡ 8 * (kept / 8)
aligned width pruned kept bytes bits long is whole =
    omega (arith, long, eights width pruned, subst (λ b. bit_count width b % 8 ≡ 0) (sym is) whole)

few_with : (width pruned kept more : ℕ) (bytes : List ℕ) (bits : Bits) → length (take kept (bits_in bytes)) ≡ kept
    → record { pruned = pruned; kept = take kept (bits_in bytes) } ≡ bits → bit_count width bits + 8 * more ≤ 2 ^ 62
    → 8 * width * pruned + kept + 8 * more ≤ 2 ^ 62
few_with width pruned kept more bytes bits long is few =
    omega (arith, long, subst (λ b. bit_count width b + 8 * more ≤ 2 ^ 62) (sym is) few)

pub overflow_add-self : goal.overflow_add-self
overflow_add-self g c =
    let long = held-length g.row.N c.self.inside.pruned c.self.inside.kept c.self.inside.bytes.items c.self.invariant in
    omega (
      arith,
      few_with g.row.N c.self.inside.pruned c.self.inside.kept (length c.args.bytes.now) c.self.inside.bytes.items c.args.self.now
          long c.self.view_is c.requires.few,
    )

laid : (g : _) (c : goal.After-self-2-1 g) → Holds g.row.N c.self.inside.pruned (c.self.inside.kept + 8 * length c.args.bytes.now)
    (take c.resize.new.self.len (c.overwrite.new.bytes ++ drop (length c.overwrite.new.bytes) c.resize.new.self.items))
    (take c.self.inside.kept (bits_in c.self.inside.bytes.items) ++ bits_in c.args.bytes.now)
laid g c =
    let long = held-length g.row.N c.self.inside.pruned c.self.inside.kept c.self.inside.bytes.items c.self.invariant in
    laid_behind g.row.N c.self.inside.pruned c.self.inside.kept (c.self.inside.kept / 8) (c.div_ceil.result * g.row.N) c.self.inside.bytes.len
    c.self.inside.bytes.items c.args.bytes.now c.resize.new.self.items _ c.self.invariant
    (aligned g.row.N c.self.inside.pruned c.self.inside.kept c.self.inside.bytes.items c.args.self.now long c.self.view_is c.requires.aligned)
    (few_with g.row.N c.self.inside.pruned c.self.inside.kept (length c.args.bytes.now) c.self.inside.bytes.items c.args.self.now
    long c.self.view_is c.requires.few)
    (ap (λ n. n * g.row.N) c.div_ceil.ensures) c.self.inside.bytes.ok.0 c.in_ok-resize.ensures.items
    (take_at c.overwrite.new.bytes (drop (length c.overwrite.new.bytes) c.resize.new.self.items) c.resize.new.self.len (search rules)
    ∙ c.overwrite.ensures
    ∙ ap (λ d. take (c.self.inside.kept / 8) d ++ (c.args.bytes.now ++ drop (c.self.inside.kept / 8 + length c.args.bytes.now) d)) c.deref_mut.ensures.value)

pub invariant_of-self-2 : goal.invariant_of-self-2
invariant_of-self-2 g c = (laid g c).held

pub returns-clause-pushed : goal.returns-clause-pushed
returns-clause-pushed g c =
    ap (λ bits. record { pruned = c.self.inside.pruned; kept = bits }) (laid g c).bits_are
    ∙ ap (λ (b : Bits). record { pruned = b.pruned; kept = b.kept ++ bits_in c.args.bytes.now }) c.self.view_is
