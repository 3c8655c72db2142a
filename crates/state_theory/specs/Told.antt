-- What a reader of a proof of one operation is told, as the form of the proof's chunk has it.
use Rattle.std.specs.Prelude.{ℕ, zero, suc, ◌*◌, ◌^◌, ◌==◌, ◌||◌, Bool, false}

-- whether it may be told so, how many bytes a chunk has, and how many digests there may be
pub record Told : Type 0 where
  pub allowed : Bool
  pub width : ℕ
  pub most : ℕ

-- whether a number is one of so many first powers of two
abbrev pub is_early_power : ℕ → ℕ → Bool
is_early_power zero n = false
is_early_power (suc count) n = n == 2 ^ count || is_early_power count n

-- whether so many bytes are a chunk's: their bits are a power of two, 2^62 at most
unfoldable pub is_chunk_width : ℕ → Bool
is_chunk_width width = is_early_power 63 (8 * width)
