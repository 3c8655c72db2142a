-- The names of partitions.
use Rattle.std.specs.Prelude.{ℕ, ◌==◌, ◌||◌, ◌&&◌, not, Bool, List, length}
use Rattle.std.specs.List.{list_all}
use Rattle.std.specs.Char.{is_ascii_alphanumeric}

-- an ASCII letter or digit, `_` or `-`
abbrev pub is_name_byte : ℕ → Bool
is_name_byte byte = is_ascii_alphanumeric byte || (byte == 0x5F) || (byte == 0x2D)

-- such bytes, one or more
abbrev pub is_partition_name : List ℕ → Bool
is_partition_name name = not (length name == 0) && list_all is_name_byte name
