-- Bits in chunks. Bit i stands in byte i / 8 of its chunk, as bit i mod 8 from the least.
--
--    bits    1 0 1 1 0 0 0 0   0 1          ten bits, in chunks of one byte: the second one is partial, and zeros
--    chunks        0d            02         stand for the bits that are not there
use Rattle.std.specs.Prelude.{◌≡◌, ℕ, zero, suc, ◌+◌, ◌-◌, ◌*◌, ◌/◌, ◌%◌, ◌^◌, ◌<◌, ◌≤◌, ◌==◌, Bool, false}
use Rattle.std.specs.Prelude.{if◌then◌else◌, List, [], ◌∷◌, ◌++◌, length, take, drop, replicate, slice_set}

-- so many bytes are a chunk's: their bits are a power of two, 2^62 at most
abbrev pub IsChunkWidth : ℕ → Type 0
IsChunkWidth width = (height : ℕ) × (8 * width ≡ 2 ^ height) × (height ≤ 62)

-- the byte of up to eight bits, the least first
abbrev pub byte_of : List Bool → ℕ
byte_of [] = 0
byte_of (bit ∷ bits) = (if bit then 1 else 0) + 2 * byte_of bits

-- a chunk of so many bytes, from the first bits: zeros where there are no more bits
unfoldable pub chunk_of : ℕ → List Bool → List ℕ
chunk_of zero bits = []
chunk_of (suc width) bits = byte_of (take 8 bits) ∷ chunk_of width (drop 8 bits)

-- so many chunks of so many bytes each
unfoldable pub chunks_of : ℕ → ℕ → List Bool → List (List ℕ)
chunks_of width zero bits = []
chunks_of width (suc count) bits = chunk_of width bits ∷ chunks_of width count (drop (8 * width) bits)

-- the chunks that the bits fill
abbrev pub full_chunks : ℕ → List Bool → List (List ℕ)
full_chunks width bits = chunks_of width (length bits / (8 * width)) bits

-- the chunk at an index
abbrev pub chunk_at : ℕ → List Bool → ℕ → List ℕ
chunk_at width bits index = chunk_of width (drop (8 * width * index) bits)

-- so many bits of a number, the least first
abbrev pub bits_of : ℕ → ℕ → List Bool
bits_of zero n = []
bits_of (suc count) n = (n % 2 == 1) ∷ bits_of count (n / 2)

-- the bits of bytes
unfoldable pub bits_in : List ℕ → List Bool
bits_in [] = []
bits_in (byte ∷ bytes) = bits_of 8 byte ++ bits_in bytes

-- what is kept of a list of bits: how many chunks of them are pruned from the front, and the bits after those
pub record Bits : Type 0 where
  pub pruned : ℕ
  pub kept : List Bool

-- these are what is kept of a list of bits
pub record AreBitsOf (width : ℕ) (all : List Bool) (bits : Bits) : Type 0 where
  pub pruned : 8 * width * bits.pruned ≤ length all
  pub kept : bits.kept ≡ drop (8 * width * bits.pruned) all

-- how many bits there are, with those that are pruned
abbrev pub bit_count : ℕ → Bits → ℕ
bit_count width bits = 8 * width * bits.pruned + length bits.kept

-- all bits, where those that are pruned are clear
abbrev pub all_bits : ℕ → Bits → List Bool
all_bits width bits = replicate (8 * width * bits.pruned) false ++ bits.kept

-- bits after those at these places are cleared, one after the other
abbrev pub cleared : List Bool → List ℕ → List Bool
cleared bits [] = bits
cleared bits (at ∷ more) = cleared (slice_set bits at false) more

-- The last chunk, and how many of its bits there are. Where no bit is kept it is zeros, and has none; where the bits
-- fill their chunks it is the last full one.
abbrev pub last_chunk : ℕ → List Bool → List ℕ × ℕ
last_chunk width kept =
    let bits = 8 * width in
    let full = length kept / bits in
    if length kept == 0 then (replicate width 0, 0)
    else (if length kept % bits == 0 then (chunk_of width (drop (length kept - bits) kept), bits)
    else (chunk_at width kept full, length kept % bits))

-- The last chunk of a list of bits of which so many chunks are pruned, and how many of its bits there are. Where there
-- are no others it is zeros, and has none; where the bits fill their chunks it is the last full one.
abbrev pub last_chunk_of : ℕ → List Bool → ℕ → List ℕ × ℕ
last_chunk_of width all pruned =
    let bits = 8 * width in
    let full = length all / bits in
    if length all == bits * pruned then (replicate width 0, 0)
    else (if length all % bits == 0 then (chunk_at width all (full - 1), bits)
    else (chunk_at width all full, length all % bits))

-- the bits without the chunks before the one at an index, which is not pruned
abbrev pub pruned_to : ℕ → Bits → ℕ → Bits
pruned_to width bits index = record {
  pruned = index;
  kept = drop (8 * width * (index - bits.pruned)) bits.kept;
}

-- how bits are held in bytes: in as many chunks as it takes, and zeros after the last bit
pub record IsHeld (width pruned kept : ℕ) (bytes : List ℕ) : Type 0 where
  pub wide : IsChunkWidth width
  pub few : 8 * width * pruned + kept < 2 ^ 64
  pub low : pruned ≤ 2 ^ 62
  pub count : ℕ
  pub counted : length bytes ≡ width * count
  pub enough : kept ≤ 8 * length bytes
  pub tight : 8 * length bytes < kept + 8 * width
  pub zeros : drop kept (bits_in bytes) ≡ replicate (8 * length bytes - kept) false
