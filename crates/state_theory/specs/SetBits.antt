-- Which bits of a chunk are set.
use Rattle.std.specs.Prelude.{ℕ, ◌/◌, ◌%◌, ◌^◌, ◌==◌, Bool, false, Option, None, Some, List}
use Rattle.std.specs.List.{list_all}

-- whether no bit of the chunk is set
abbrev pub is_zero : List ℕ → Bool
is_zero chunk = list_all (λ byte. byte == 0) chunk

-- whether the bit at a bit is set in its byte, where there is that byte
abbrev pub is_set : Option ℕ → ℕ → Bool
is_set None bit = false
is_set (Some byte) bit = byte / 2 ^ (bit % 8) % 2 == 1
