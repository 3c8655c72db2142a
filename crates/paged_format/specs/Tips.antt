-- The end of a list of bytes, kept from an offset on.
use Rattle.std.specs.Prelude.{ℕ, List}

-- bytes at an offset, of which there is room for so many
pub record Tip : Type 0 where
  pub offset : ℕ
  pub bytes : List ℕ
  pub capacity : ℕ
