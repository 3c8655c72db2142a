-- What is kept of bits, and all of them.
use Rattle.std.proofs.Common.{◌≡◌, ℕ, zero, suc, ◌+◌, ◌-◌, ◌*◌, ◌≤◌, Bool, false, List, ◌++◌, length, drop, refl, sym}
use Rattle.std.proofs.Common.{◌∙◌, ap, arith}
use Rattle.std.proofs.Common.{length-append}
use Rattle.std.specs.Prelude.{replicate}
use Rattle.std.proofs.Math.Nat.{mul-add}
use Rattle.std.proofs.Math.Seq.{drop-append-add}
use Rattle.std.proofs.lemmas.List.{length-replicate}
use Rattle.state_theory.specs.Bits.{Bits, all_bits, bit_count, chunk_at, chunk_of}

pub length-chunk_of : (width : ℕ) (bits : List Bool) → length (chunk_of width bits) ≡ width
unfolding chunk_of
length-chunk_of zero bits = refl
length-chunk_of (suc width) bits = ap (λ n. suc n) (length-chunk_of width (drop 8 bits))

-- all bits are as many as are counted, and those that are pruned are among them
pub length-all : (width : ℕ) (bits : Bits) → length (all_bits width bits) ≡ bit_count width bits
length-all width bits =
    omega (
      arith,
      length-append (replicate (8 * width * bits.pruned) false) bits.kept,
      length-replicate (8 * width * bits.pruned) false,
    )

pub pruned_in_all : (width : ℕ) (bits : Bits) → 8 * width * bits.pruned ≤ length (all_bits width bits)
pruned_in_all width bits = omega (arith, length-all width bits)

-- a chunk that is kept is the same of the bits that are kept and of all
pub kept_chunk : (width index : ℕ) (bits : Bits) → bits.pruned ≤ index
    → chunk_at width bits.kept (index - bits.pruned) ≡ chunk_at width (all_bits width bits) index
kept_chunk width index bits le =
    let size : ℕ = 8 * width in
    let front : List Bool = replicate (size * bits.pruned) false in
    let sum : bits.pruned + (index - bits.pruned) ≡ index = omega (arith, le) in
    let whole : length front + size * (index - bits.pruned) ≡ size * index = omega (
      arith,
      length-replicate (size * bits.pruned) false,
      sym (mul-add size bits.pruned (index - bits.pruned)),
      ap (λ k. size * k) sum,
    ) in
    ap (chunk_of width) (sym (drop-append-add front bits.kept (size * (index - bits.pruned)))
    ∙ ap (λ k. drop k (front ++ bits.kept)) whole)

-- of bits of which none is pruned
pub none_pruned : (width count : ℕ) → 8 * width * 0 ≤ count
none_pruned width count = omega arith
