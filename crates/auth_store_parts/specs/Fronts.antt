-- The first bytes of a key, by which most keys are told apart.
use Rattle.std.specs.Prelude.{◌≡◌, ℕ, ◌<◌, ◌≤◌, List, length, take, get_or}
use Rattle.std.specs.Int.{w64, from_be_bytes}

-- the number that the first eight bytes of a key spell, the first of them the highest
pub record IsFront (key : List ℕ) (number : ℕ) : Type 0 where
  pub enough : 8 ≤ length key
  pub spelled : number ≡ from_be_bytes w64 (take 8 key)
  pub small : (i : ℕ) → get_or (take 8 key) i 0 < 256
