-- What is drawn from the words of a generator. A word is an answer to `next_u64`.
use Rattle.std.specs.Prelude.{ℕ, zero, suc, ◌+◌, ◌-◌, ◌%◌, ◌==◌, ◌||◌, nat_lt, Bool, true, false, if◌then◌else◌, List}
use Rattle.std.specs.Prelude.{[], ◌∷◌, ◌++◌, replicate}
use Rattle.rand_core.specs.Stream.{Stream, next_u64}

-- so many of so many
pub record Rate : Type 0 where
  pub numerator : ℕ
  pub denominator : ℕ

abbrev pub never : Rate
never = record { numerator = 0; denominator = 1 }

-- zero or one by its value: nothing is left to a word
abbrev pub is_certain : Rate → Bool
is_certain rate = (rate.numerator == 0) || (rate.numerator == rate.denominator)

-- whether it comes about, and the words left
unfoldable pub sample : Rate → Stream → Bool × Stream
sample rate words =
    if is_certain rate then (nat_lt 0 rate.numerator, words)
    else (nat_lt ((next_u64 words).0 % rate.denominator) rate.numerator, (next_u64 words).1)

-- so many samples, one after the other
unfoldable pub samples : Rate → ℕ → Stream → List Bool × Stream
samples rate zero words = ([], words)
samples rate (suc count) words =
    let first = sample rate words in let later = samples rate count first.1 in (first.0 ∷ later.0, later.1)

-- how a write is torn: its first bytes are kept, or any of them
pub data Mode : Type 0 where
  prefix : Mode
  subset : Mode

-- the first `kept` of so many
abbrev pub first_kept : ℕ → ℕ → List Bool
first_kept count kept = replicate kept true ++ replicate (count - kept) false

-- for each of so many bytes whether it is kept, and the words left
unfoldable pub kept_bytes : Mode → Rate → ℕ → Stream → List Bool × Stream
kept_bytes prefix rate count words = (first_kept count ((next_u64 words).0 % (count + 1)), (next_u64 words).1)
kept_bytes subset rate count words = samples rate count words

-- a length strictly between two others, by a word
abbrev pub length_between : ℕ → ℕ → ℕ → ℕ
length_between low high word = low + 1 + word % (high - low - 1)
