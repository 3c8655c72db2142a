-- Chunks of a list of bits.
use Rattle.std.proofs.Common.{◌≡◌, ℕ, zero, suc, ◌+◌, ◌-◌, ◌*◌, ◌/◌, ◌%◌}
use Rattle.std.proofs.Common.{◌<◌, ◌≤◌, Bool, inl, inr, List, [], ◌∷◌, ◌++◌, length, drop, get_or}
use Rattle.std.proofs.Common.{refl, sym, ◌∙◌, ap, ap₂, arith, length-drop}
use Rattle.std.specs.Prelude.{slice_set}
use Rattle.std.proofs.lemmas.Bool.{cases_lt}
use Rattle.std.proofs.Math.Nat.{mul_comm}
use Rattle.std.proofs.lemmas.List.{take-append-le, drop-append-le, take-set-le, drop-set-add, drop-set-lt, drop-drop}
use Rattle.std.proofs.lemmas.Nat.{div-add-mod', mod_below, mul-le}
use Rattle.state_theory.specs.Bits.{byte_of, chunk_of, chunks_of, chunk_at}

-- a chunk is that of the first bits
pub chunk_of-front : (width : ℕ) (xs ys : List Bool) → 8 * width ≤ length xs → chunk_of width (xs ++ ys) ≡ chunk_of width xs
unfolding chunk_of
chunk_of-front zero xs ys le = refl
chunk_of-front (suc width) xs ys le =
    ap₂ (λ front back. front ∷ back)
    (ap byte_of (take-append-le 8 xs ys (omega (arith, le))))
    (ap (chunk_of width) (drop-append-le 8 xs ys (omega (arith, le)))
    ∙ chunk_of-front width (drop 8 xs) ys (omega (arith, le, length-drop 8 xs)))

-- a bit after it changes nothing
pub chunk_of-set : (width : ℕ) (xs : List Bool) (at : ℕ) (bit : Bool) → 8 * width ≤ at
    → chunk_of width (slice_set xs at bit) ≡ chunk_of width xs
unfolding chunk_of
chunk_of-set zero xs at bit le = refl
chunk_of-set (suc width) xs at bit le =
    let whole : 8 + (at - 8) ≡ at = omega (arith, le) in
    ap₂ (λ front back. front ∷ back)
    (ap byte_of (take-set-le 8 xs at bit (omega (arith, le))))
    (ap (λ n. chunk_of width (drop 8 (slice_set xs n bit))) (sym whole)
    ∙ ap (chunk_of width) (drop-set-add 8 xs (at - 8) bit)
    ∙ chunk_of-set width (drop 8 xs) (at - 8) bit (omega (arith, le)))

-- where a chunk ends, the next one begins
pub chunk_end : (width i : ℕ) → 8 * width * suc i ≡ 8 * width * i + 8 * width
chunk_end width i = omega arith

-- no more chunks have no more bits
pub chunks_le : (width i j : ℕ) → i ≤ j → 8 * width * i ≤ 8 * width * j
chunks_le width i j le = mul-le (8 * width) i (8 * width) j (omega arith) le

-- so many bits are so many chunks and a rest
pub chunks_of_bits : (width bits : ℕ) → 8 * width * (bits / (8 * width)) + bits % (8 * width) ≡ bits
chunks_of_bits width bits = omega (arith, div-add-mod' bits (8 * width), mul_comm (bits / (8 * width)) (8 * width))

-- chunks that are full stay with more bits
pub chunk_at-more : (width : ℕ) (all more : List Bool) (i : ℕ) → 8 * width * suc i ≤ length all
    → chunk_at width (all ++ more) i ≡ chunk_at width all i
chunk_at-more width all more i full =
    let end = chunk_end width i in
    ap (chunk_of width) (drop-append-le (8 * width * i) all more (omega (arith, full, end)))
    ∙ chunk_of-front width (drop (8 * width * i) all) more (omega (arith, full, end, length-drop (8 * width * i) all))

-- and the chunks without a bit that is set or cleared
pub chunk_at-set : (width : ℕ) (all : List Bool) (i at : ℕ) (bit : Bool) → (i ≡ at / (8 * width) → ⊥) → 1 ≤ width
    → chunk_at width (slice_set all at bit) i ≡ chunk_at width all i
chunk_at-set width all i at bit apart some =
    let it = at / (8 * width) in
    let parts = chunks_of_bits width at in
    let small = mod_below at (8 * width) (omega (arith, some)) in
    elim (cases_lt i it) [
      | inl before ↦
          (let end = chunk_end width i in
          let far : 8 * width * suc i ≤ at = omega (arith, parts, chunks_le width (suc i) it (omega (arith, before))) in
          let whole : 8 * width * i + (at - 8 * width * i) ≡ at = omega (arith, far, end) in
          ap (λ n. chunk_of width (drop (8 * width * i) (slice_set all n bit))) (sym whole)
          ∙ ap (chunk_of width) (drop-set-add (8 * width * i) all (at - 8 * width * i) bit)
          ∙ chunk_of-set width (drop (8 * width * i) all) (at - 8 * width * i) bit (omega (arith, far, end)))
      | inr after ↦
          (let above : suc it ≤ i = omega (arith, after, apart) in
          let past : at < 8 * width * i = omega (arith, parts, small, chunk_end width it, chunks_le width (suc it) i above) in
          ap (chunk_of width) (drop-set-lt (8 * width * i) all at bit past))
    ]

pub length-chunks_of : (width count : ℕ) (bits : List Bool) → length (chunks_of width count bits) ≡ count
unfolding chunks_of
length-chunks_of width zero bits = refl
length-chunks_of width (suc count) bits = ap (λ n. suc n) (length-chunks_of width count (drop (8 * width) bits))

pub at-chunks_of : (width count : ℕ) (bits : List Bool) (i : ℕ) → i < count
    → get_or (chunks_of width count bits) i [] ≡ chunk_at width bits i
unfolding chunks_of
at-chunks_of width zero bits i lt = absurd (omega arith)
at-chunks_of width (suc count) bits zero lt =
    let none : 0 ≡ 8 * width * 0 = omega arith in ap (λ n. chunk_of width (drop n bits)) none
at-chunks_of width (suc count) bits (suc i) lt =
    let whole : 8 * width + 8 * width * i ≡ 8 * width * suc i = omega (arith, chunk_end width i) in
    at-chunks_of width count (drop (8 * width) bits) i (omega arith)
    ∙ ap (chunk_of width) (drop-drop (8 * width * i) (8 * width) bits ∙ ap (λ n. drop n bits) whole)
