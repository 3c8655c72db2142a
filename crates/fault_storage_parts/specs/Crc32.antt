-- The checksum of 32 bits, as a division of the bits one by one, the least bit of each byte first.
use Rattle.std.specs.Prelude.{ℕ, zero, suc, ◌/◌, ◌%◌, ◌^◌, ◌-◌, ◌==◌, if◌then◌else◌, List, [], ◌∷◌, bit_xor}

-- the polynomial, reflected
abbrev pub polynomial : ℕ
polynomial = 0xEDB88320

-- what is left after one more bit: the half, and the polynomial where a one fell out
abbrev pub after_bit : ℕ → ℕ
after_bit left = if left % 2 == 1 then bit_xor (left / 2) polynomial else left / 2

-- what is left after so many bits
unfoldable pub after_bits : ℕ → ℕ → ℕ
after_bits zero left = left
after_bits (suc bits) left = after_bits bits (after_bit left)

-- what is left after these bytes
unfoldable pub after_bytes : ℕ → List ℕ → ℕ
after_bytes left [] = left
after_bytes left (byte ∷ bytes) = after_bytes (after_bits 8 (bit_xor left byte)) bytes

-- begun and ended with all ones
abbrev pub crc32 : List ℕ → ℕ
crc32 bytes = bit_xor (after_bytes (2 ^ 32 - 1) bytes) (2 ^ 32 - 1)
