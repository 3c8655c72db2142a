-- A file is a base and one uncut log of mutations in the order of issue. What is durable is the base with the fixed
-- mutations alone; what a crash leaves is the base with all of them, the others by choices that are drawn.
use Rattle.std.specs.Prelude.{◌≡◌, ℕ, ⊤, ◌+◌, ◌-◌, ◌≤◌, Bool, true, false, if◌then◌else◌, List, [], ◌∷◌, ◌++◌, length}
use Rattle.std.specs.Prelude.{take, drop, replicate}
use Rattle.rand_core.specs.Stream.{Stream}
use Rattle.fault_storage_parts.specs.Draws.{Rate, Mode, sample, kept_bytes}

-- the bytes with zeros at their end, so many in all or more
abbrev pub grown : ℕ → List ℕ → List ℕ
grown size bytes = bytes ++ replicate (size - length bytes) 0

-- cut to a length, or grown to it
abbrev pub resized : ℕ → List ℕ → List ℕ
resized size bytes = take size (grown size bytes)

-- the file with these bytes at an offset, and zeros in a gap before them
abbrev pub with_bytes : ℕ → List ℕ → List ℕ → List ℕ
with_bytes offset bytes file = take offset (grown offset file) ++ (bytes ++ drop (offset + length bytes) file)

-- the file with those of the bytes at an offset that are kept: where none is kept, it stays as it is
abbrev pub with_kept : ℕ → List ℕ → List Bool → List ℕ → List ℕ
with_kept offset [] kept file = file
with_kept offset (byte ∷ bytes) [] file = file
with_kept offset (byte ∷ bytes) (true ∷ kept) file =
    with_kept (offset + 1) bytes kept (with_bytes offset (byte ∷ []) file)
with_kept offset (byte ∷ bytes) (false ∷ kept) file = with_kept (offset + 1) bytes kept file

-- A mutation as it was issued: a plain write, of which a crash keeps bytes by this mode and rate; one that is durable
-- already, of which these bytes are kept (a synced write keeps all, a failed one what was drawn); a resize, which a
-- crash keeps by this rate.
pub data Mutation : Type 0 where
  written : ℕ → List ℕ → Mode → Rate → Mutation
  fixed : ℕ → List ℕ → List Bool → Mutation
  resized_to : ℕ → Rate → Mutation

-- what a mutation that is durable makes of a file; any other leaves it as it is
abbrev pub durable_step : Mutation → List ℕ → List ℕ
durable_step (written offset bytes mode rate) file = file
durable_step (fixed offset bytes kept) file = with_kept offset bytes kept file
durable_step (resized_to size rate) file = file

-- what is durable: the base with the fixed mutations alone
abbrev pub durable_bytes : List ℕ → List Mutation → List ℕ
durable_bytes base [] = base
durable_bytes base (mutation ∷ later) = durable_bytes (durable_step mutation base) later

-- whether the one thing that is chosen of is kept
abbrev pub is_kept : List Bool → Bool
is_kept [] = false
is_kept (kept ∷ choice) = kept

-- what a mutation makes of a file by a choice: which bytes of a plain write are kept, or whether a resize is
abbrev pub applied : List Bool → Mutation → List ℕ → List ℕ
applied choice (written offset bytes mode rate) file = with_kept offset bytes choice file
applied choice (fixed offset bytes kept) file = with_kept offset bytes kept file
applied choice (resized_to size rate) file = if is_kept choice then resized size file else file

-- what a crash leaves by a table of choices, one for each mutation
abbrev pub left_by : List (List Bool) → List ℕ → List Mutation → List ℕ
left_by choices base [] = base
left_by [] base (mutation ∷ later) = base
left_by (choice ∷ choices) base (mutation ∷ later) = left_by choices (applied choice mutation base) later

-- what is left of a file where choices were made for the first of its log: its base by them, and the others still in
-- its log
pub record IsLeftOf (base : List ℕ) (log : List Mutation) (left : List ℕ) (later : List Mutation) : Type 0 where
  pub choices : List (List Bool)
  pub is : left ≡ left_by choices base log
  pub rest : later ≡ drop (length choices) log

-- the choice that is drawn for a mutation, and the words left: a fixed one takes none
abbrev pub drawn_choice : Mutation → Stream → List Bool × Stream
drawn_choice (written offset bytes mode rate) words = kept_bytes mode rate (length bytes) words
drawn_choice (fixed offset bytes kept) words = ([], words)
drawn_choice (resized_to size rate) words = ((sample rate words).0 ∷ [], (sample rate words).1)

-- what a crash leaves by choices drawn in the order of issue, and the words left
unfoldable pub crashed : List ℕ → List Mutation → Stream → List ℕ × Stream
crashed base [] words = (base, words)
crashed base (mutation ∷ later) words =
    let drawn = drawn_choice mutation words in crashed (applied drawn.0 mutation base) later drawn.1

-- a mutation changes none of so many first bytes
abbrev pub IsPast : ℕ → Mutation → Type 0
IsPast size (written offset bytes mode rate) = size ≤ offset
IsPast size (fixed offset bytes kept) = size ≤ offset
IsPast size (resized_to length_asked rate) = size ≤ length_asked

-- and none of a log does
abbrev pub ArePast : ℕ → List Mutation → Type 0
ArePast size [] = ⊤
ArePast size (mutation ∷ later) = IsPast size mutation × ArePast size later

-- a file: a base, and its uncut log
pub record File : Type 0 where
  pub base : List ℕ
  pub log : List Mutation

-- the first mutation of a log by a choice that is drawn, and the words left
unfoldable pub settled : File → Stream → File × Stream
settled file words = elim file.log [
  | [] ↦ (file, words)
  | mutation ∷ later ↦ let drawn = drawn_choice mutation words in
      (record { base = applied drawn.0 mutation file.base; log = later }, drawn.1)
]

-- a file of this size has room for what the mutation writes
abbrev pub HasRoomFor : ℕ → Mutation → Type 0
HasRoomFor size (written offset bytes mode rate) = offset + length bytes ≤ size
HasRoomFor size (fixed offset bytes kept) = offset + length bytes ≤ size
HasRoomFor size (resized_to length_asked rate) = length_asked ≤ size

-- how many bytes are chosen of
abbrev pub chosen_bytes : Mutation → ℕ
chosen_bytes (written offset bytes mode rate) = length bytes
chosen_bytes (fixed offset bytes kept) = 0
chosen_bytes (resized_to size rate) = 0
