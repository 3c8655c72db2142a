-- Bytes of bits.
use Rattle.std.proofs.Common.{◌≡◌, ℕ, suc, ◌+◌, ◌*◌, ◌^◌, ◌<◌, ◌≤◌, Bool, true, false, List, [], ◌∷◌, ◌++◌}
use Rattle.std.proofs.Common.{append_assoc, length, take, drop, ◌-◌, sym, ◌∙◌, ap, subst, arith, inl, inr}
use Rattle.std.proofs.Math.Nat.{pow-suc}
use Rattle.std.proofs.lemmas.Nat.{pow_below}
use Rattle.std.proofs.lemmas.Bool.{cases_lt}
use Rattle.std.proofs.lemmas.List.{length-take, append-nil}
use Rattle.state_theory.specs.Bits.{byte_of, chunk_of, chunks_of}

-- n bits are below 2 to the n
pub byte_of-below : (bits : List Bool) → byte_of bits < 2 ^ length bits
byte_of-below [] = omega arith
byte_of-below (true ∷ bits) = omega (arith, pow-suc 2 (length bits), byte_of-below bits)
byte_of-below (false ∷ bits) = omega (arith, pow-suc 2 (length bits), byte_of-below bits)

pow_of_seven : (n : ℕ) → n ≤ 7 → 2 ^ n ≤ 128
pow_of_seven n le =
    elim (cases_lt n 7) [
      | inl lt ↦ omega (arith, pow_below n 7 lt)
      | inr ge ↦ let seven : n ≡ 7 = omega arith in subst (λ k. 2 ^ k ≤ 128) (sym seven) (omega arith)
    ]

-- seven bits and fewer are below 128
pub byte_of-seven : (bits : List Bool) → length bits ≤ 7 → byte_of bits < 128
byte_of-seven bits le = omega (arith, byte_of-below bits, pow_of_seven (length bits) le)

-- what follows the first of up to eight bits is below 128
pub rest-seven : (bits : List Bool) (rest : ℕ) → 1 ≤ length bits → length bits ≤ 8
    → rest ≡ byte_of (take (length bits - 1) (drop 1 bits)) → rest < 128
rest-seven bits rest some few is =
    rw is (byte_of-seven (take (length bits - 1) (drop 1 bits))
    (omega (arith, length-take (length bits - 1) (drop 1 bits))))

-- one byte more, and the bytes that are left
pub chunk_goes_on : (front : List ℕ) (bits : List Bool) (width i : ℕ) (total : List ℕ) → i < width
    → front ++ chunk_of (width - i) bits ≡ total
    → (front ++ byte_of (take 8 bits) ∷ []) ++ chunk_of (width - (i + 1)) (drop 8 bits) ≡ total
unfolding chunk_of
chunk_goes_on front bits width i total lt so_far =
    let left : width - i ≡ suc (width - (i + 1)) = omega arith in
    append_assoc front (byte_of (take 8 bits) ∷ []) (chunk_of (width - (i + 1)) (drop 8 bits))
    ∙ ap (λ n. front ++ chunk_of n bits) (sym left) ∙ so_far

pub chunk_ends : (front : List ℕ) (bits : List Bool) (width i : ℕ) (total : List ℕ) → width ≤ i
    → front ++ chunk_of (width - i) bits ≡ total → front ≡ total
unfolding chunk_of
chunk_ends front bits width i total le so_far =
    let left : width - i ≡ 0 = omega arith in
    sym (append-nil front) ∙ ap (λ n. front ++ chunk_of n bits) (sym left) ∙ so_far

-- one chunk more, and the chunks that are left
pub chunks_go_on : (front : List (List ℕ)) (bits : List Bool) (width count i : ℕ) (total : List (List ℕ)) → i < count
    → front ++ chunks_of width (count - i) bits ≡ total
    → (front ++ chunk_of width bits ∷ []) ++ chunks_of width (count - (i + 1)) (drop (8 * width) bits) ≡ total
unfolding chunks_of
chunks_go_on front bits width count i total lt so_far =
    let left : count - i ≡ suc (count - (i + 1)) = omega arith in
    append_assoc front (chunk_of width bits ∷ []) (chunks_of width (count - (i + 1)) (drop (8 * width) bits))
    ∙ ap (λ n. front ++ chunks_of width n bits) (sym left) ∙ so_far

pub chunks_end : (front : List (List ℕ)) (bits : List Bool) (width count i : ℕ) (total : List (List ℕ)) → count ≤ i
    → front ++ chunks_of width (count - i) bits ≡ total → front ≡ total
unfolding chunks_of
chunks_end front bits width count i total le so_far =
    let left : count - i ≡ 0 = omega arith in
    sym (append-nil front) ∙ ap (λ n. front ++ chunks_of width n bits) (sym left) ∙ so_far
