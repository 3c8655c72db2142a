-- What a varint encodes is read again, and what is read was encoded so.
use Rattle.std.proofs.Common.{◌≡◌, ℕ, zero, suc, ◌+◌, ◌-◌, ◌*◌, ◌/◌, ◌%◌, ◌^◌, ◌<◌, ◌≤◌, max, add-one, ltb, eqb, true}
use Rattle.std.proofs.Common.{false, List, [], ◌∷◌, ◌++◌, length, Ok, Err, refl, sym, ◌∙◌, ap, arith, inl, inr, lit<}
use Rattle.std.proofs.lemmas.Bool.{lt-ltb, le-ltb, ne_eqb, cases_lt}
use Rattle.std.proofs.lemmas.Nat.{pow-add, leading_top}
use Rattle.std.proofs.Math.Nat.{pow-suc, pow-le-pow_right}
use Rattle.std.specs.Int.{w64, leading_zeros}
use Rattle.merkle_forest_parts.specs.declared.codec.error.Error.TheVariants.{Invalid}
use Rattle.merkle_forest_parts.specs.Varint.{varint, varint_groups, groups_at, varint_at, after_varint, after_number}

-- a number's groups are the same however many might follow
pub varint_enough : (k j n : ℕ) → n ≤ k → n ≤ j → varint_groups k n ≡ varint_groups j n
unfolding varint_groups
varint_enough zero zero n below_k below_j = refl
varint_enough zero (suc j) n below_k below_j =
    let small : ltb n 128 ≡ true = lt-ltb n 128 (omega arith) in rw small refl
varint_enough (suc k) zero n below_k below_j =
    let small : ltb n 128 ≡ true = lt-ltb n 128 (omega arith) in rw small refl
varint_enough (suc k) (suc j) n below_k below_j =
    elim (cases_lt n 128) [
      | inl below ↦ let small : ltb n 128 ≡ true = lt-ltb n 128 below in rw small refl
      | inr above ↦
          let large : ltb n 128 ≡ false = le-ltb n 128 above in
          rw large (ap (λ bytes. (128 + n % 128) ∷ bytes) (varint_enough k j (n / 128) (omega arith) (omega arith)))
    ]

-- a number below 128 is its own byte
pub varint_small : (n : ℕ) → n < 128 → varint n ≡ n ∷ []
unfolding varint varint_groups
varint_small zero small = refl
varint_small (suc n) small = let e : ltb (suc n) 128 ≡ true = lt-ltb (suc n) 128 small in rw e refl

-- from 128 on: the low seven bits, and the encoding of the rest
pub varint_large : (n : ℕ) → 128 ≤ n → varint n ≡ (128 + n % 128) ∷ varint (n / 128)
unfolding varint varint_groups
varint_large zero large = absurd (omega arith)
varint_large (suc n) large =
    let e : ltb (suc n) 128 ≡ false = le-ltb (suc n) 128 large in
    rw e (ap (λ bytes. (128 + suc n % 128) ∷ bytes)
    (varint_enough n (suc n / 128) (suc n / 128) (omega arith) (omega arith)))

-- a group from 128 on and the rest, which isn't 0
pub varint_over : (b high : ℕ) → 128 ≤ b → b < 256 → 0 < high → varint (b - 128 + 128 * high) ≡ b ∷ varint high
varint_over b high large byte positive =
    let low : (b - 128 + 128 * high) % 128 ≡ b - 128 = omega arith in
    let rest : (b - 128 + 128 * high) / 128 ≡ high = omega arith in
    let whole : 128 + (b - 128) ≡ b = omega arith in
    varint_large _ (omega arith) ∙ rw (low, rest, whole) refl

-- an encoding is read again, whatever follows
pub groups_again : (more n : ℕ) (rest : List ℕ) → 0 < more + n → n < 2 * 128 ^ more
    → groups_at more (varint n ++ rest) ≡ Ok (n, rest)
unfolding groups_at
groups_again zero n rest some small =
    let one : n ≡ 1 = omega arith in
    rw (one, varint_small 1 (lit< tt)) refl
groups_again (suc more) n rest some small =
    elim (cases_lt n 128) [
      | inl below ↦ let small : ltb n 128 ≡ true = lt-ltb n 128 below in rw (varint_small n below, small) refl
      | inr above ↦
          let large : ltb (128 + n % 128) 128 ≡ false = le-ltb _ _ (omega arith) in
          let high : eqb (n / 128) 0 ≡ false = ne_eqb _ _ (λ e. omega arith) in
          let again = groups_again more (n / 128) rest (omega arith) (omega (arith, pow-suc 128 more)) in
          let back : 128 + n % 128 - 128 + 128 * (n / 128) ≡ n = omega arith in
          rw (varint_large n above, large, again, high, back) refl
    ]

pub varint_again : (n : ℕ) (rest : List ℕ) → n < 2 ^ 64 → varint_at (varint n ++ rest) ≡ Ok (n, rest)
unfolding varint_at
varint_again n rest small = groups_again 9 n rest (omega arith) small

-- one byte for each seven bits
pub length_of_bits : (k j n : ℕ) → j < 7 * k → 2 ^ j ≤ n → n < 2 ^ (j + 1) → length (varint n) ≡ j / 7 + 1
length_of_bits zero j n some low high = absurd (omega arith)
length_of_bits (suc k) j n some low high =
    elim (cases_lt n 128) [
      | inl below ↦
          let short : j < 7 = elim (cases_lt j 7) [
            | inl fine ↦ fine
            | inr long ↦ let most : 2 ^ 7 ≤ 2 ^ j = pow-le-pow_right (lit< tt) long in absurd (omega arith)
          ] in
          let none : j / 7 ≡ 0 = omega arith in
          rw (varint_small n below, none) refl
      | inr above ↦
          let long : 7 ≤ j = elim (cases_lt j 7) [
            | inl short ↦ let most : 2 ^ (j + 1) ≤ 2 ^ 7 =
                pow-le-pow_right (lit< tt) {i = j + 1} {j = 7} (omega arith) in absurd (omega arith)
            | inr fine ↦ fine
          ] in
          let back : j - 7 + 7 ≡ j = omega arith in
          let next : j - 7 + 1 + 7 ≡ j + 1 = omega arith in
          let split : 2 ^ j ≡ 2 ^ (j - 7) * 2 ^ 7 = ap (λ i. 2 ^ i) (sym back) ∙ pow-add 2 (j - 7) 7 in
          let split_next : 2 ^ (j + 1) ≡ 2 ^ (j - 7 + 1) * 2 ^ 7 = ap (λ i. 2 ^ i) (sym next)
          ∙ pow-add 2 (j - 7 + 1) 7 in
          let rest : length (varint (n / 128)) ≡ (j - 7) / 7 + 1 =
          length_of_bits k (j - 7) (n / 128) (omega arith) (omega arith) (omega arith) in
          let more : j / 7 ≡ (j - 7) / 7 + 1 = omega arith in
          rw (varint_large n above) (omega (arith, rest, more))
    ]

-- 0 takes a byte as 1 does
pub length_of_one : (n : ℕ) → length (varint n) ≡ length (varint (max n 1))
length_of_one n =
    elim (cases_lt n 1) [
      | inl nothing ↦
          let none : n ≡ 0 = omega arith in
          let one : max n 1 ≡ 1 = omega arith in
          rw (one, none, varint_small 0 (lit< tt), varint_small 1 (lit< tt)) refl
      | inr some ↦ let same : max n 1 ≡ n = omega arith in rw same refl
    ]

-- the length by the count of leading zeros
pub varint_length : (n : ℕ) → n < 2 ^ 64 → length (varint n) ≡ (64 - leading_zeros w64 (max n 1) + 6) / 7
varint_length n small =
    let top = leading_top 64 (max n 1) (omega arith) (omega arith) in
    let bits : length (varint (max n 1)) ≡ top.0 / 7 + 1 =
    length_of_bits 10 top.0 (max n 1) (omega arith) top.2 (rw add-one top.3) in
    rw length_of_one (omega (arith, bits))

pub after_varint_again : (n : ℕ) (rest : List ℕ) → n < 2 ^ 64 → after_varint (varint n ++ rest) ≡ Ok rest
after_varint_again n rest small = rw (varint_again n rest small) refl

pub after_number_again : (limit n : ℕ) (rest : List ℕ) → n < 2 ^ 64 → n ≤ limit
    → after_number limit (varint n ++ rest) ≡ Ok rest
after_number_again limit n rest small within =
    let fine : ltb limit n ≡ false = le-ltb limit n within in rw (varint_again n rest small, fine) refl

-- ten bytes are enough for 64 bits
pub varint_at_most : (n : ℕ) → n < 2 ^ 64 → length (varint n) ≤ 10
varint_at_most n small = rw (varint_length n small) (omega arith)

-- two numbers that have one encoding are one
pub varint_same : (m n : ℕ) → m < 2 ^ 64 → n < 2 ^ 64 → varint m ≡ varint n → m ≡ n
varint_same m n small_m small_n same =
    let first = varint_again m [] small_m in
    let second = varint_again n [] small_n in
    let joined : varint m ++ [] ≡ varint n ++ [] = ap (λ bytes. bytes ++ []) same in
    let both : varint_at (varint m ++ []) ≡ varint_at (varint n ++ []) = ap varint_at joined in
    let pairs : ◌≡◌ {A = ℕ × List ℕ} (m, []) (n, []) = cc in
    ap (λ (x : ℕ × List ℕ). x.0) pairs

-- a number that is read is within its limit
pub number_within : (limit n : ℕ) (rest new : List ℕ) → n < 2 ^ 64 → after_number limit (varint n ++ rest) ≡ Ok new
    → n ≤ limit
number_within limit n rest new small read =
    elim (cases_lt limit n) [
      | inl past ↦
          let over : ltb limit n ≡ true = lt-ltb limit n past in
          let refused : after_number limit (varint n ++ rest) ≡ Err Invalid =
          rw (varint_again n rest small, over) refl in
          cc
      | inr fine ↦ fine
    ]
