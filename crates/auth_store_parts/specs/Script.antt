-- The script's words: bytes are a list of numbers.
use Rattle.std.specs.Prelude.{◌≡◌, ℕ, ◌+◌, ◌-◌, ◌*◌, ◌^◌, ◌<◌, List, [], ◌∷◌, length}
use Rattle.std.specs.Char.{is_ascii_digit}
use Rattle.std.specs.List.{AllPass}
use Rattle.hex.specs.Hex.{is_hex_digit}

-- a key is 16 hexadecimal digits of either case
abbrev pub IsKey : List ℕ → Type 0
IsKey text = (length text ≡ 16) × AllPass is_hex_digit text

-- the value of decimal digits that stand after those of n
abbrev pub decimal_value_after : ℕ → List ℕ → ℕ
decimal_value_after n [] = n
decimal_value_after n (c ∷ cs) = decimal_value_after (n * 10 + (c - 48)) cs

-- the value of decimal digits
abbrev pub decimal_value : List ℕ → ℕ
decimal_value digits = decimal_value_after 0 digits

-- a number is one or more decimal digits of a value of 64 bits
abbrev pub IsNumber : List ℕ → Type 0
IsNumber text = (0 < length text) × AllPass is_ascii_digit text × (decimal_value text < 2 ^ 64)
