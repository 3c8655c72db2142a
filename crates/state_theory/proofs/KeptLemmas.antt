-- What is kept of a list of bits.
use Rattle.std.proofs.Common.{◌≡◌, ℕ, ◌+◌, ◌-◌, ◌*◌, ◌≤◌, Bool, false, List, ◌++◌, length, drop, get_or, sym}
use Rattle.std.proofs.Common.{◌∙◌, ap, arith, length-append, length-drop}
use Rattle.std.proofs.Math.Nat.{mul-add}
use Rattle.std.proofs.lemmas.List.{drop-drop, drop-append-le, drop-set-add, get_or-drop, length-set}
use Rattle.std.specs.Prelude.{slice_set}
use Rattle.state_theory.specs.Bits.{Bits, AreBitsOf, bit_count, chunk_of, chunk_at, pruned_to}

pub count-kept : (width : ℕ) (all : List Bool) (bits : Bits) → AreBitsOf width all bits → bit_count width bits ≡ length all
count-kept width all bits are =
    omega (arith, are.pruned, ap length are.kept, length-drop (8 * width * bits.pruned) all)

pub bit-kept : (width : ℕ) (all : List Bool) (bits : Bits) (bit : ℕ) → AreBitsOf width all bits → 8 * width * bits.pruned ≤ bit
    → get_or bits.kept (bit - 8 * width * bits.pruned) false ≡ get_or all bit false
bit-kept width all bits bit are le =
    let whole : 8 * width * bits.pruned + (bit - 8 * width * bits.pruned) ≡ bit = omega arith in
    ap (λ xs. get_or xs (bit - 8 * width * bits.pruned) false) are.kept
    ∙ get_or-drop (8 * width * bits.pruned) all (bit - 8 * width * bits.pruned) false ∙ ap (λ n. get_or all n false) whole

dropped : (width pruned index : ℕ) (all : List Bool) → pruned ≤ index
    → drop (8 * width * (index - pruned)) (drop (8 * width * pruned) all) ≡ drop (8 * width * index) all
dropped width pruned index all le =
    let whole : pruned + (index - pruned) ≡ index = omega arith in
    drop-drop (8 * width * (index - pruned)) (8 * width * pruned) all
    ∙ ap (λ n. drop n all) (sym (mul-add (8 * width) pruned (index - pruned)) ∙ ap (λ n. 8 * width * n) whole)

pub chunk-kept : (width : ℕ) (all : List Bool) (bits : Bits) (index : ℕ) → AreBitsOf width all bits → bits.pruned ≤ index
    → chunk_at width bits.kept (index - bits.pruned) ≡ chunk_at width all index
chunk-kept width all bits index are le =
    ap (λ xs. chunk_of width (drop (8 * width * (index - bits.pruned)) xs)) are.kept
    ∙ ap (chunk_of width) (dropped width bits.pruned index all le)

pub kept-push : (width : ℕ) (all : List Bool) (bits : Bits) (more : List Bool) → AreBitsOf width all bits
    → AreBitsOf width (all ++ more) (record bits { kept = bits.kept ++ more })
kept-push width all bits more are = record {
  pruned = omega (arith, are.pruned, length-append all more);
  kept = ap (λ xs. xs ++ more) are.kept ∙ sym (drop-append-le (8 * width * bits.pruned) all more are.pruned);
}

pub kept-set : (width : ℕ) (all : List Bool) (bits : Bits) (bit : ℕ) (value : Bool) → AreBitsOf width all bits
    → 8 * width * bits.pruned ≤ bit
    → AreBitsOf width (slice_set all bit value) (record bits { kept = slice_set bits.kept (bit - 8 * width * bits.pruned) value })
kept-set width all bits bit value are le =
    let whole : 8 * width * bits.pruned + (bit - 8 * width * bits.pruned) ≡ bit = omega arith in
    record {
      pruned = omega (arith, are.pruned, length-set all bit value);
      kept = ap (λ xs. slice_set xs (bit - 8 * width * bits.pruned) value) are.kept
          ∙ sym (drop-set-add (8 * width * bits.pruned) all (bit - 8 * width * bits.pruned) value)
          ∙ ap (λ n. drop (8 * width * bits.pruned) (slice_set all n value)) whole;
    }

pub kept-prune : (width : ℕ) (all : List Bool) (bits : Bits) (index : ℕ) → AreBitsOf width all bits → bits.pruned ≤ index
    → 8 * width * (index - bits.pruned) ≤ length bits.kept → AreBitsOf width all (pruned_to width bits index)
kept-prune width all bits index are le there =
    let whole : bits.pruned + (index - bits.pruned) ≡ index = omega arith in
    let sum = sym (mul-add (8 * width) bits.pruned (index - bits.pruned)) ∙ ap (λ n. 8 * width * n) whole in
    record {
      pruned = omega (arith, sum, there, count-kept width all bits are);
      kept = ap (λ xs. drop (8 * width * (index - bits.pruned)) xs) are.kept ∙ dropped width bits.pruned index all le;
    }

pub kept-all : (width : ℕ) (all : List Bool) → AreBitsOf width all (record { pruned = 0; kept = all })
kept-all width all =
    let none : 0 ≡ 8 * width * 0 = omega arith in
    record { pruned = omega arith; kept = ap (λ n. drop n all) none }
