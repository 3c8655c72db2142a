-- The chunk over a location has the location's bit.
use Rattle.std.proofs.Common.{◌≡◌, ℕ, zero, suc, ◌+◌, ◌*◌, ◌/◌, ◌%◌, ◌^◌, ◌<◌, eqb, cond, Bool, true, false, List, []}
use Rattle.std.proofs.Common.{◌∷◌, length, take, drop, Some, refl, sym, ◌∙◌, ap, arith}
use Rattle.std.specs.Prelude.{slice_get, slice_index_or, if◌then◌else◌, ◌==◌}
use Rattle.std.proofs.lemmas.Nat.{div-mul-add, shr-shr}
use Rattle.std.proofs.lemmas.Bool.{eq-eqb, eqb-true}
use Rattle.std.proofs.Math.Nat.{div-lt_iff_lt-mul, lt-mul-div-succ, div-add-mod, zero-div}
use Rattle.state_theory.specs.Bits.{byte_of, chunk_of, chunks_of}
use Rattle.state_theory.specs.Laws.Bits.{length-chunk_of}
use Rattle.state_theory.specs.SetBits.{is_set}
use Rattle.state_theory.specs.Canonical.{Setting, State, chunk_bits, full_chunks, next_bit, chunks, chunk}

-- a bit of a byte
half_of : (bit n : ℕ) → bit < 2 → (bit + 2 * n) / 2 ^ 1 ≡ n
half_of bit n few = ap (λ m. m / 2) (omega arith) ∙ div-mul-add n 2 bit few

bit_set : (bits : List Bool) (i : ℕ) → slice_get bits i ≡ Some true → byte_of bits / 2 ^ i % 2 ≡ 1
bit_set [] i is = absurd cc
bit_set (true ∷ bits) zero is = omega (arith, div-mul-add (1 + 2 * byte_of bits) 1 0 (omega arith))
bit_set (false ∷ bits) zero is = absurd cc
bit_set (true ∷ bits) (suc i) is =
    let rest : (1 + 2 * byte_of bits) / 2 ^ suc i ≡ byte_of bits / 2 ^ i =
    ap (λ n. (1 + 2 * byte_of bits) / 2 ^ n) (omega arith) ∙ sym (shr-shr (1 + 2 * byte_of bits) 1 i)
    ∙ ap (λ n. n / 2 ^ i) (half_of 1 (byte_of bits) (omega arith)) in
    ap (λ n. n % 2) rest ∙ bit_set bits i is
bit_set (false ∷ bits) (suc i) is =
    let rest : (0 + 2 * byte_of bits) / 2 ^ suc i ≡ byte_of bits / 2 ^ i =
    ap (λ n. (0 + 2 * byte_of bits) / 2 ^ n) (omega arith) ∙ sym (shr-shr (0 + 2 * byte_of bits) 1 i)
    ∙ ap (λ n. n / 2 ^ i) (half_of 0 (byte_of bits) (omega arith)) in
    ap (λ n. n % 2) rest ∙ bit_set bits i is

-- parts of lists
pub get_take : (n i : ℕ) (bits : List Bool) → i < n → slice_get (take n bits) i ≡ slice_get bits i
get_take zero i bits lt = absurd (omega arith)
get_take (suc n) i [] lt = refl
get_take (suc n) zero (b ∷ bits) lt = refl
get_take (suc n) (suc i) (b ∷ bits) lt = get_take n i bits (omega arith)

pub get_drop : (n i : ℕ) (bits : List Bool) → slice_get (drop n bits) i ≡ slice_get bits (n + i)
get_drop zero i bits = ap (slice_get bits) (omega arith)
get_drop (suc n) i [] = refl
get_drop (suc n) i (b ∷ bits) = let e : suc n + i ≡ suc (n + i) = omega arith in rw e (get_drop n i bits)

drop_drop : (n m : ℕ) (bits : List Bool) → drop n (drop m bits) ≡ drop (m + n) bits
drop_drop n zero bits = ap (λ k. drop k bits) (omega arith)
drop_drop zero (suc m) [] = let e : suc m + 0 ≡ suc m = omega arith in rw e refl
drop_drop (suc n) (suc m) [] = let e : suc m + suc n ≡ suc (m + suc n) = omega arith in rw e refl
drop_drop n (suc m) (b ∷ bits) = let e : suc m + n ≡ suc (m + n) = omega arith in rw e (drop_drop n m bits)

pub byte_at : (width j : ℕ) (bits : List Bool) → j < width
    → slice_get (chunk_of width bits) j ≡ Some (byte_of (take 8 (drop (8 * j) bits)))
unfolding chunk_of
byte_at zero j bits lt = absurd (omega arith)
byte_at (suc width) zero bits lt = refl
byte_at (suc width) (suc j) bits lt =
    byte_at width j (drop 8 bits) (omega arith) ∙ ap (λ rest. Some (byte_of (take 8 rest))) (drop_drop (8 * j) 8 bits
    ∙ ap (λ n. drop n bits) (omega arith))

pub chunk_at : (width count k : ℕ) (bits : List Bool) → k < count
    → slice_index_or (chunks_of width count bits) k [] ≡ chunk_of width (drop (8 * width * k) bits)
unfolding chunks_of
chunk_at width zero k bits lt = absurd (omega arith)
chunk_at width (suc count) zero bits lt = let e : 0 ≡ 8 * width * 0 = omega arith in
    ap (λ n. chunk_of width (drop n bits)) e
chunk_at width (suc count) (suc k) bits lt =
    chunk_at width count k (drop (8 * width) bits) (omega arith)
    ∙ ap (chunk_of width) (drop_drop (8 * width * k) (8 * width) bits ∙ ap (λ n. drop n bits) (omega arith))

-- the bit at a bit of a chunk
set_in_chunk : (width bit : ℕ) (bits : List Bool) → bit < 8 * width → slice_get bits bit ≡ Some true
    → is_set (slice_get (chunk_of width bits) (bit / 8)) bit ≡ true
set_in_chunk width bit bits lt is =
    let byte = byte_at width (bit / 8) bits (omega arith) in
    let here : slice_get (take 8 (drop (8 * (bit / 8)) bits)) (bit % 8) ≡ Some true =
    get_take 8 (bit % 8) (drop (8 * (bit / 8)) bits) (omega arith) ∙ get_drop (8 * (bit / 8)) (bit % 8) bits
    ∙ ap (slice_get bits) (omega arith) ∙ is in
    ap (λ b. is_set b bit) byte ∙ eq-eqb _ 1 (bit_set (take 8 (drop (8 * (bit / 8)) bits)) (bit % 8) here)

within_case : (n bits location : ℕ) (test : Bool) → (test ≡ true → n % bits ≡ 0) → 0 < bits → location < n
    → location / bits < n / bits + cond test 0 1
within_case n bits location true whole some lt =
    let all : n / bits * bits ≡ n = omega (arith, whole refl, div-add-mod n bits) in
    let below : location / bits < n / bits =
    (div-lt_iff_lt-mul {k = bits} {x = location} {y = n / bits} some).1 (omega (arith, all)) in
    omega (arith, below)
within_case n bits location false whole some lt =
    (div-lt_iff_lt-mul {k = bits} {x = location} {y = n / bits + 1} some).1
    (omega (arith, lt-mul-div-succ n {b = bits} some))

-- there are chunks over all locations
pub within_chunks : (n bits location : ℕ) → 0 < bits → location < n
    → location / bits < n / bits + (if n % bits == 0 then 0 else 1)
within_chunks n bits location some lt = within_case n bits location (eqb (n % bits) 0) (eqb-true (n % bits) 0) some lt

pub chunk_is : (setting : Setting) (state : State) (location : ℕ) → 0 < setting.width
    → location < length state.operations
    → chunk setting state (location / chunk_bits setting)
    ≡ chunk_of setting.width (drop (chunk_bits setting * (location / chunk_bits setting)) state.bits)
unfolding chunks
chunk_is setting state location some lt =
    chunk_at setting.width (full_chunks setting state + (if next_bit setting state == 0 then 0 else 1))
    (location / chunk_bits setting) state.bits
    (within_chunks (length state.operations) (chunk_bits setting) location (omega arith) lt)

pub length-chunk : (setting : Setting) (state : State) (location : ℕ) → 0 < setting.width
    → location < length state.operations → length (chunk setting state (location / chunk_bits setting)) ≡ setting.width
length-chunk setting state location some lt = ap length (chunk_is setting state location some lt)
    ∙ length-chunk_of setting.width (drop (chunk_bits setting * (location / chunk_bits setting)) state.bits)

pub active_bit : (setting : Setting) (state : State) (location : ℕ) → 0 < setting.width
    → location < length state.operations → slice_get state.bits location ≡ Some true
    → is_set (slice_get (chunk setting state (location / chunk_bits setting)) (location % chunk_bits setting / 8))
    (location % chunk_bits setting) ≡ true
active_bit setting state location some lt is =
    ap (λ bytes. is_set (slice_get bytes (location % chunk_bits setting / 8)) (location % chunk_bits setting))
    (chunk_is setting state location some lt)
    ∙ set_in_chunk setting.width (location % chunk_bits setting)
    (drop (chunk_bits setting * (location / chunk_bits setting)) state.bits) (omega arith)
    (get_drop (chunk_bits setting * (location / chunk_bits setting)) (location % chunk_bits setting) state.bits
    ∙ ap (slice_get state.bits) (omega arith) ∙ is)

-- a bit that is set in a byte stands in the bits
bit_back : (bits : List Bool) (i : ℕ) → byte_of bits / 2 ^ i % 2 ≡ 1 → slice_get bits i ≡ Some true
bit_back [] i is = absurd (omega (arith, is, zero-div (2 ^ i)))
bit_back (true ∷ bits) zero is = refl
bit_back (false ∷ bits) zero is = absurd (omega (arith, is, div-mul-add (2 * byte_of bits) 1 0 (omega arith)))
bit_back (true ∷ bits) (suc i) is =
    let rest : (1 + 2 * byte_of bits) / 2 ^ suc i ≡ byte_of bits / 2 ^ i =
    ap (λ n. (1 + 2 * byte_of bits) / 2 ^ n) (omega arith) ∙ sym (shr-shr (1 + 2 * byte_of bits) 1 i)
    ∙ ap (λ n. n / 2 ^ i) (half_of 1 (byte_of bits) (omega arith)) in
    bit_back bits i (ap (λ n. n % 2) (sym rest) ∙ is)
bit_back (false ∷ bits) (suc i) is =
    let rest : (0 + 2 * byte_of bits) / 2 ^ suc i ≡ byte_of bits / 2 ^ i =
    ap (λ n. (0 + 2 * byte_of bits) / 2 ^ n) (omega arith) ∙ sym (shr-shr (0 + 2 * byte_of bits) 1 i)
    ∙ ap (λ n. n / 2 ^ i) (half_of 0 (byte_of bits) (omega arith)) in
    bit_back bits i (ap (λ n. n % 2) (sym rest) ∙ is)

-- a bit that is set in a chunk stands in the bits
pub set_back : (width bit : ℕ) (bits : List Bool) → bit < 8 * width
    → is_set (slice_get (chunk_of width bits) (bit / 8)) bit ≡ true → slice_get bits bit ≡ Some true
set_back width bit bits lt is =
    let byte = byte_at width (bit / 8) bits (omega arith) in
    let here : slice_get (take 8 (drop (8 * (bit / 8)) bits)) (bit % 8) ≡ Some true =
    bit_back (take 8 (drop (8 * (bit / 8)) bits)) (bit % 8) (eqb-true _ 1 (ap (λ b. is_set b bit) (sym byte) ∙ is)) in
    ap (slice_get bits) (omega arith) ∙ sym (get_drop (8 * (bit / 8)) (bit % 8) bits)
    ∙ sym (get_take 8 (bit % 8) (drop (8 * (bit / 8)) bits) (omega arith)) ∙ here

length-chunks_of : (width count : ℕ) (bits : List Bool) → length (chunks_of width count bits) ≡ count
unfolding chunks_of
length-chunks_of width zero bits = refl
length-chunks_of width (suc count) bits = ap suc (length-chunks_of width count (drop (8 * width) bits))

pub any_default : (chunks : List (List ℕ)) (k : ℕ) (one other : List ℕ) → k < length chunks
    → slice_index_or chunks k one ≡ slice_index_or chunks k other
any_default [] k one other lt = absurd (omega (arith, lt))
any_default (c ∷ chunks) zero one other lt = refl
any_default (c ∷ chunks) (suc k) one other lt = any_default chunks k one other (omega (arith, lt))

-- there is a chunk over each location
pub location_chunks : (setting : Setting) (state : State) (location : ℕ) → 0 < setting.width
    → location < length state.operations → location / chunk_bits setting < length (chunks setting state)
unfolding chunks
location_chunks setting state location some lt =
    omega (
      arith,
      length-chunks_of setting.width (full_chunks setting state
          + (if next_bit setting state == 0 then 0 else 1)) state.bits,
      within_chunks (length state.operations) (chunk_bits setting) location (omega arith) lt,
    )

chunks_of-wide : (width count k : ℕ) (bits : List Bool) (other : List ℕ) → length other ≡ width
    → length (slice_index_or (chunks_of width count bits) k other) ≡ width
unfolding chunks_of
chunks_of-wide width zero k bits other is = is
chunks_of-wide width (suc count) zero bits other is = length-chunk_of width bits
chunks_of-wide width (suc count) (suc k) bits other is = chunks_of-wide width count k (drop (8 * width) bits) other is

-- each chunk has the width
pub chunks-wide : (setting : Setting) (state : State) (k : ℕ) (other : List ℕ) → length other ≡ setting.width
    → length (slice_index_or (chunks setting state) k other) ≡ setting.width
unfolding chunks
chunks-wide setting state k other is =
    chunks_of-wide setting.width (full_chunks setting state + (if next_bit setting state == 0 then 0 else 1)) k
    state.bits other is

-- where the chunk over the location has its bit, the bit is set
pub bit_of_chunk : (setting : Setting) (state : State) (location : ℕ) → 0 < setting.width
    → location < length state.operations
    → is_set (slice_get (chunk setting state (location / chunk_bits setting)) (location % chunk_bits setting / 8))
    (location % chunk_bits setting) ≡ true → slice_get state.bits location ≡ Some true
bit_of_chunk setting state location some lt is =
    ap (slice_get state.bits) (omega arith)
    ∙ sym (get_drop (chunk_bits setting * (location / chunk_bits setting)) (location % chunk_bits setting) state.bits)
    ∙ set_back setting.width (location % chunk_bits setting)
    (drop (chunk_bits setting * (location / chunk_bits setting)) state.bits) (omega arith)
    (ap (λ bytes. is_set (slice_get bytes (location % chunk_bits setting / 8)) (location % chunk_bits setting))
    (sym (chunk_is setting state location some lt)) ∙ is)
