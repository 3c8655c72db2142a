-- How many bits a chunk has.
use Rattle.std.proofs.Common.{◌≡◌, ℕ, ◌*◌, ◌^◌, ◌≤◌, inl, inr, sym, subst, arith}
use Rattle.std.proofs.lemmas.Bool.{cases_lt}
use Rattle.std.proofs.lemmas.Nat.{pow_below, pow_pos}
use Rattle.state_theory.specs.Bits.{IsChunkWidth}

pow-few : (height : ℕ) → height ≤ 62 → 2 ^ height ≤ 2 ^ 62
pow-few height few =
    elim (cases_lt height 62) [
      | inl lt ↦ omega (arith, pow_below height 62 lt)
      | inr ge ↦ let same : 62 ≡ height = omega arith in subst (λ n. 2 ^ n ≤ 2 ^ 62) same (omega arith)
    ]

pub wide-few : (width : ℕ) → IsChunkWidth width → 8 * width ≤ 2 ^ 62
wide-few width wide = subst (λ n. n ≤ 2 ^ 62) (sym wide.1) (pow-few wide.0 wide.2)

pub wide-some : (width : ℕ) → IsChunkWidth width → 1 ≤ width
wide-some width wide = let is = wide.1 in let some = pow_pos wide.0 in omega arith
