-- The order of powers of two.
use Rattle.std.proofs.Common.{ℕ, suc, ◌^◌, ◌<◌, ◌≤◌, inl, inr, arith}
use Rattle.std.proofs.Math.Nat.{pow-le-pow_right}
use Rattle.std.proofs.lemmas.Bool.{cases_lt}

pub pow_le : (a b : ℕ) → a ≤ b → 2 ^ a ≤ 2 ^ b
pow_le a b le = pow-le-pow_right {n = 2} (omega arith) le

-- 2 ^ a is below 2 ^ suc b where a is at most b, and there alone
pub pow_order : (a b : ℕ) → 2 ^ a < 2 ^ suc b → a ≤ b
pow_order a b lt = elim (cases_lt b a) [ inl above ↦ absurd (omega (arith, lt, pow_le (suc b) a above)) | inr le ↦ le ]
