-- How long the encoding of a proof is at most: the varint of a greater number is no shorter.
use Rattle.std.proofs.Common.{◌≡◌, ℕ, zero, suc, ◌+◌, ◌-◌, ◌*◌, ◌/◌, ◌^◌, ◌<◌, ◌≤◌, inl, inr, ◌↔◌, ap, refl, arith}
use Rattle.std.proofs.Common.{List, [], ◌∷◌, ◌++◌, length, map, replicate, length-append}
use Rattle.std.proofs.Common.{Option, Some, None, SomeIff, IfSome, IsSome}
use Rattle.std.proofs.Math.Nat.{mul-le-mul_right}
use Rattle.std.proofs.lemmas.Bool.{cases_lt}
use Rattle.std.proofs.lemmas.List.{length-map, length-replicate}
use Rattle.std.proofs.lemmas.List.Concat.{flat_map-cons}
use Rattle.std.proofs.lemmas.List.Elements.{All-head, All-tail, All-replicate}
use Rattle.std.specs.List.{flat_map, All}
use Rattle.merkle_forest.specs.Lists.{list_encoding}
use Rattle.merkle_forest.specs.Varint.{varint}
use Rattle.merkle_forest.specs.Laws.Varint.{varint_small, varint_large, length_of_bits, varint_at_most}
use Rattle.merkle_theory.specs.Proofs.{proof_encoding, greatest_length}
use Rattle.merkle_theory.specs.Laws.Proofs.{all_sized}

varint_some : (n : ℕ) → 0 < length (varint n)
varint_some n =
    elim (cases_lt n 128) [
      | inl small ↦ omega (arith, ap length (varint_small n small))
      | inr large ↦ omega (arith, ap length (varint_large n large))
    ]

-- the lesser number has no more bytes
varint_order : (k a b : ℕ) → b ≤ k → a ≤ b → length (varint a) ≤ length (varint b)
varint_order zero a b few least =
    let same : a ≡ b = omega arith in
    omega (arith, ap (λ n. length (varint n)) same)
varint_order (suc k) a b few least =
    elim (cases_lt a 128) [
      | inl small ↦ omega (arith, ap length (varint_small a small), varint_some b)
      | inr large ↦
          let rest = varint_order k (a / 128) (b / 128) (omega (arith, few, large, least)) (omega (arith, least)) in
          omega (
            arith,
            rest,
            ap length (varint_large a large),
            ap length (varint_large b (omega (arith, large, least))),
          )
    ]

-- the greatest leaf count, and the greatest count of peaks
pub greatest_leaves : length (varint (2 ^ 62)) ≡ 9
greatest_leaves = length_of_bits 9 62 (2 ^ 62) (omega arith) (omega arith) (omega arith)

pub greatest_peaks : length (varint (2 ^ 64 - 1)) ≡ 10
greatest_peaks = length_of_bits 10 63 (2 ^ 64 - 1) (omega arith) (omega arith) (omega arith)

sized_length : (size : ℕ) (digests : List (List ℕ)) → All (λ d. length d ≡ size) digests
    → length (flat_map (λ d. d) digests) ≡ length digests * size
sized_length size [] all = omega arith
sized_length size (d ∷ digests) all =
    omega (
      arith,
      ap length (flat_map-cons (λ d. d) d digests),
      length-append d (flat_map (λ d. d) digests),
      All-head (λ d. length d ≡ size) d digests all,
      sized_length size digests (All-tail (λ d. length d ≡ size) d digests all),
    )

-- the length of the encoding, part by part
parts : (size leaves inactive : ℕ) (digests : List (List ℕ)) → All (λ d. length d ≡ size) digests
    → length (proof_encoding leaves inactive digests)
    ≡ length (varint leaves) + length (varint inactive) + length (varint (length digests)) + length digests * size
parts size leaves inactive digests all =
    omega (
      arith,
      length-append (varint leaves) (varint inactive ++ list_encoding (λ d. d) digests),
      length-append (varint inactive) (list_encoding (λ d. d) digests),
      length-append (varint (length digests)) (flat_map (λ d. d) digests),
      sized_length size digests all,
    )

-- no encoding is longer
pub at_most : {D : Type 0} (encoding : D → List ℕ) (is_value : D → Type 0) (size most leaves inactive : ℕ)
    (digests : List D) → ((d : D) → is_value d → length (encoding d) ≡ size) → leaves ≤ 2 ^ 62 → inactive < 2 ^ 64
    → length digests ≤ most → All is_value digests
    → length (proof_encoding leaves inactive (map encoding digests)) ≤ greatest_length size most
at_most encoding is_value size most leaves inactive digests sized few small least values =
    let count : length (map encoding digests) ≤ most = omega (arith, length-map digests encoding, least) in
    omega (
      arith,
      parts size leaves inactive (map encoding digests) (all_sized encoding is_value size digests sized values),
      varint_order (2 ^ 62) leaves (2 ^ 62) (omega arith) few,
      greatest_leaves,
      varint_at_most inactive small,
      varint_order most (length (map encoding digests)) most (omega arith) count,
      mul-le-mul_right size count,
    )

-- one is as long
pub reached : (size most : ℕ)
    → length (proof_encoding (2 ^ 62) (2 ^ 64 - 1) (replicate most (replicate size 0))) ≡ greatest_length size most
reached size most =
    let digests : List (List ℕ) = replicate most (replicate size 0) in
    let count : length digests ≡ most = length-replicate most (replicate size 0) in
    let zeros : List ℕ = replicate size 0 in
    let all : All (λ d. length d ≡ size) digests =
    All-replicate (λ d. length d ≡ size) most zeros (length-replicate size 0) in
    omega (
      arith,
      parts size (2 ^ 62) (2 ^ 64 - 1) digests all,
      greatest_leaves,
      greatest_peaks,
      ap (λ n. length (varint n)) count,
      ap (λ n. n * size) count,
    )

-- a sum that is told where it fits
pub told_fits : (r : Option ℕ) (sum : ℕ) → SomeIff r (sum < 2 ^ 64) sum → IsSome r ↔ (sum < 2 ^ 64)
told_fits None sum past = (λ some. absurd cc, λ fits. absurd (past fits))
told_fits (Some n) sum is = (λ some. is.0, λ fits. refl)

pub told_value : (r : Option ℕ) (sum : ℕ) → SomeIff r (sum < 2 ^ 64) sum → IfSome r (λ n. n ≡ sum)
told_value None sum past = tt
told_value (Some n) sum is = is.1
