-- The last chunk of what is kept is that of the list, and a bit of a chunk of the list is that of the list.
use Rattle.std.proofs.Common.{◌≡◌, ℕ, zero, suc, ◌+◌, ◌-◌, ◌*◌, ◌/◌, ◌%◌, ◌<◌, ◌≤◌, Bool, false, eqb, List, length}
use Rattle.std.proofs.Common.{drop, get_or, sym, ◌∙◌, ap, ap₂, arith}
use Rattle.std.proofs.Math.Nat.{mul_comm, mul-add}
use Rattle.std.proofs.lemmas.Bool.{cond-true, cond-false, ne_eqb, eq-eqb}
use Rattle.std.proofs.lemmas.List.{get_or-drop}
use Rattle.std.proofs.lemmas.Nat.{div-mul-add, mod-mul-add, mod_below}
use Rattle.state_theory.specs.Bits.{Bits, AreBitsOf, bits_in, chunk_at, last_chunk, last_chunk_of}
use Rattle.state_theory.proofs.BitLemmas.{at-chunk_of}
use Rattle.state_theory.proofs.ChunkLemmas.{chunks_of_bits}
use Rattle.state_theory.proofs.HeldLemmas.{last_full, last_partial}
use Rattle.state_theory.proofs.KeptLemmas.{count-kept, chunk-kept}

-- what is read out of the chunk of a bit
pub bit-read : (width : ℕ) (all : List Bool) (bit : ℕ) → 1 ≤ width
    → get_or (bits_in (chunk_at width all (bit / (8 * width)))) (bit % (8 * width)) false ≡ get_or all bit false
bit-read width all bit some =
    let first = 8 * width * (bit / (8 * width)) in
    at-chunk_of width (drop first all) (bit % (8 * width)) (mod_below bit (8 * width) (omega (arith, some)))
    ∙ get_or-drop first all (bit % (8 * width)) false ∙ ap (λ n. get_or all n false) (chunks_of_bits width bit)

-- ---- the last chunk
module _ (width : ℕ) (all : List Bool) (bits : Bits) (some : 1 ≤ width) (are : AreBitsOf width all bits) where
  rows : (count more : ℕ) → length bits.kept ≡ 8 * width * count + more
      → length all ≡ (bits.pruned + count) * (8 * width) + more
  rows count more is =
      omega (
        arith,
        is,
        count-kept width all bits are,
        mul-add (8 * width) bits.pruned count,
        mul_comm (bits.pruned + count) (8 * width),
      )

  chunk : (count : ℕ) → chunk_at width bits.kept count ≡ chunk_at width all (bits.pruned + count)
  chunk count =
      let same : count ≡ bits.pruned + count - bits.pruned = omega arith in
      ap (chunk_at width bits.kept) same ∙ chunk-kept width all bits (bits.pruned + count) are (omega arith)

  kept_none : length bits.kept ≡ 0 → last_chunk width bits.kept ≡ last_chunk_of width all bits.pruned
  kept_none none =
      let pruned : length all ≡ 8 * width * bits.pruned = omega (arith, none, count-kept width all bits are) in
      cond-true (eqb (length bits.kept) 0) _ _ (eq-eqb _ 0 none)
      ∙ sym (cond-true (eqb (length all) (8 * width * bits.pruned)) _ _ (eq-eqb _ _ pruned))

  kept_some : 0 < length bits.kept → eqb (length all) (8 * width * bits.pruned) ≡ false
  kept_some lt = ne_eqb _ _ (λ none. let clash = none in omega (arith, clash, lt, count-kept width all bits are))

  kept_full : (count : ℕ) → length bits.kept ≡ 8 * width * suc count
      → last_chunk width bits.kept ≡ last_chunk_of width all bits.pruned
  kept_full count is =
      let as_rows = rows (suc count) 0 (omega (arith, is)) in
      let rest : length all % (8 * width) ≡ 0 =
      ap (λ n. n % (8 * width)) as_rows ∙ mod-mul-add (bits.pruned + suc count) (8 * width) 0 (omega (arith, some)) in
      let full : length all / (8 * width) ≡ bits.pruned + suc count =
      ap (λ n. n / (8 * width)) as_rows ∙ div-mul-add (bits.pruned + suc count) (8 * width) 0 (omega (arith, some)) in
      let before : bits.pruned + count ≡ length all / (8 * width) - 1 = omega (arith, full) in
      last_full width count bits.kept some is
      ∙ ap (λ c. (c, 8 * width)) (chunk count ∙ ap (chunk_at width all) before)
      ∙ sym (cond-false (eqb (length all) (8 * width * bits.pruned)) _ _ (kept_some (omega (arith, is, some)))
      ∙ cond-true (eqb (length all % (8 * width)) 0) _ _ (eq-eqb _ 0 rest))

  kept_partial : (count more : ℕ) → 0 < more → more < 8 * width → length bits.kept ≡ 8 * width * count + more
      → last_chunk width bits.kept ≡ last_chunk_of width all bits.pruned
  kept_partial count more lt few is =
      let as_rows = rows count more is in
      let rest : length all % (8 * width) ≡ more =
      ap (λ n. n % (8 * width)) as_rows ∙ mod-mul-add (bits.pruned + count) (8 * width) more few in
      let full : length all / (8 * width) ≡ bits.pruned + count =
      ap (λ n. n / (8 * width)) as_rows ∙ div-mul-add (bits.pruned + count) (8 * width) more few in
      last_partial width count more bits.kept lt few is
      ∙ ap₂ (λ c n. (c, n)) (chunk count ∙ ap (chunk_at width all) (sym full)) (sym rest)
      ∙ sym (cond-false (eqb (length all) (8 * width * bits.pruned)) _ _ (kept_some (omega (arith, is, lt)))
      ∙ cond-false (eqb (length all % (8 * width)) 0) _ _ (ne_eqb _ 0 (λ none. let clash = none in omega (arith, clash, rest, lt))))

  by : (count more : ℕ) → more < 8 * width → length bits.kept ≡ 8 * width * count + more
      → last_chunk width bits.kept ≡ last_chunk_of width all bits.pruned
  by zero zero few is = kept_none (omega (arith, is))
  by (suc count) zero few is = kept_full count (omega (arith, is))
  by count (suc more) few is = kept_partial count (suc more) (omega arith) few is

  pub last-kept : last_chunk width bits.kept ≡ last_chunk_of width all bits.pruned
  last-kept =
      by (length bits.kept / (8 * width)) (length bits.kept % (8 * width))
      (mod_below (length bits.kept) (8 * width) (omega (arith, some))) (sym (chunks_of_bits width (length bits.kept)))
