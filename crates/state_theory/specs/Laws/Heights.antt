-- The grafting height of a chunk.
use Rattle.std.proofs.Common.{◌≡◌, ℕ, zero, suc, ◌+◌, ◌-◌, ◌*◌, ◌^◌, ◌<◌, ◌≤◌, inl, inr, ◌∙◌, ap, arith}
use Rattle.std.proofs.Math.Nat.{pow-le-pow_right}
use Rattle.std.proofs.lemmas.Nat.{pow_below, pow_pos, pow-add}
use Rattle.std.proofs.lemmas.Bool.{cases_lt}

pub pow_le : (a b : ℕ) → a ≤ b → 2 ^ a ≤ 2 ^ b
pow_le a b le = pow-le-pow_right {n = 2} (omega arith) le

-- one power has one exponent
pub same_power : (a b : ℕ) → 2 ^ a ≡ 2 ^ b → a ≡ b
same_power a b same =
    elim (cases_lt a b) [
      | inl lt ↦ absurd (omega (arith, same, pow_below a b lt))
      | inr le ↦ (elim (cases_lt b a) [
        | inl lt ↦ absurd (omega (arith, same, pow_below b a lt))
        | inr le' ↦
            omega (arith, le, le')
      ])
    ]

pub eight_times : (log : ℕ) → 2 ^ (log + 3) ≡ 8 * 2 ^ log
eight_times log = omega (arith, pow-add 2 log 3)

-- a width of 2 ^ height bits is 2 to its logarithm, and the height is 3 more
pub height_of_log : (log width height : ℕ) → 2 ^ log ≤ width → width < 2 * 2 ^ log → 8 * width ≡ 2 ^ height
    → (height ≡ log + 3) × (width ≡ 2 ^ log)
height_of_log log width height low high whole =
    let some : 3 ≤ height =
    elim (cases_lt height 3)
    [ inl few ↦ absurd (omega (arith, whole, low, pow_pos log, pow_below height 3 few)) | inr le ↦ le ] in
    let k : ℕ = height - 3 in
    let above : height ≡ k + 3 = omega (arith, some) in
    let power : 2 ^ height ≡ 8 * 2 ^ k = ap (λ n. 2 ^ n) above ∙ eight_times k in
    let same : k ≡ log =
    elim (cases_lt k log) [
      | inl less ↦ absurd (omega (arith, whole, power, low, pow_below k log less))
      | inr le ↦ (elim (cases_lt log k) [
        | inl more ↦ absurd (omega (arith, whole, power, high, pow_le (suc log) k more, pow-add 2 log 1))
        | inr le' ↦ omega (arith, le, le')
      ])
    ] in
    (omega (arith, above, same), omega (arith, whole, power, ap (λ n. 2 ^ n) same))

pub some_height : (width height : ℕ) → 8 * width ≡ 2 ^ height → 0 < height
some_height width zero whole = absurd (omega (arith, whole))
some_height width (suc height) whole = omega arith
