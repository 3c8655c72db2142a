-- The grammar of varints: base 128, least group first, the shortest encoding alone.
use Rattle.std.specs.Prelude.{◌≡◌, ℕ, zero, suc, ◌+◌, ◌-◌, ◌*◌, ◌/◌}
use Rattle.std.specs.Prelude.{◌%◌, ◌==◌, if◌then◌else◌, nat_lt, List, [], ◌∷◌}
use Rattle.std.specs.Prelude.{Result, Ok, Err}
use Rattle.merkle_forest_parts.specs.Codec.{◌>>=◌, Outcome, Refuses}
use Rattle.merkle_forest_parts.specs.declared.codec.error.Error.{Error}
use Rattle.merkle_forest_parts.specs.declared.codec.error.Error.TheVariants.{EndOfBuffer, InvalidVarint, Invalid}

-- a number's groups, of which at most `more` follow the first
unfoldable pub varint_groups : ℕ → ℕ → List ℕ
varint_groups zero n = n ∷ []
varint_groups (suc more) n = if nat_lt n 128 then n ∷ [] else ((128 + n % 128) ∷ varint_groups more (n / 128))

-- a number's encoding: seven bits a byte, least first, and 128 more in each byte but the last
unfoldable pub varint : ℕ → List ℕ
varint n = varint_groups n n

-- a group and the number of the groups after it, which isn't 0 in the shortest encoding
abbrev pub over_group : ℕ → ℕ × List ℕ → Result (ℕ × List ℕ) Error
over_group group high = if high.0 == 0 then Err InvalidVarint else Ok (group + 128 * high.0, high.1)

-- a number at the front, with at most `more` groups after its first, where the last one possible has one bit
unfoldable pub groups_at : ℕ → List ℕ → Result (ℕ × List ℕ) Error
groups_at more [] = Err EndOfBuffer
groups_at zero (b ∷ bytes) = if b == 1 then Ok (b, bytes) else Err InvalidVarint
groups_at (suc more) (b ∷ bytes) = if nat_lt b 128 then Ok (b, bytes) else groups_at more bytes >>= over_group (b - 128)

-- the number below 2 ^ 64 at the front and the bytes after it, or the first fault
unfoldable pub varint_at : List ℕ → Result (ℕ × List ℕ) Error
varint_at bytes = groups_at 9 bytes

-- the bytes after a number
abbrev pub after_varint : List ℕ → Outcome
after_varint bytes = varint_at bytes >>= λ x. Ok x.1

-- a reader found the number that the grammar finds and stands after it, or names its fault: it takes no memory
abbrev pub Finds : List ℕ → Result (ℕ × List ℕ) Error → Result ℕ Error → Type 0
Finds new expected (Ok n) = expected ≡ Ok (n, new)
Finds new expected (Err e) = Refuses ⊥ e expected

-- the bytes after a number up to a limit
abbrev pub after_number : ℕ → List ℕ → Outcome
after_number limit bytes = varint_at bytes >>= λ x. if nat_lt limit x.0 then Err Invalid else Ok x.1
