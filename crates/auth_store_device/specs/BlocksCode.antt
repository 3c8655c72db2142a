-- Bytes that lie in blocks, and images that are made of parts of them.
use Rattle.std.specs.Prelude.{◌≡◌, ℕ, ◌+◌, ◌<◌, ◌≤◌, List, [], ◌∷◌, ◌++◌, length, take, drop, get_or, map}
use Rattle.std.specs.List.{concat}
use Rattle.std.specs.declared.alloc.Global.{Global}
use Rattle.std.specs.declared.vec.Vec.{Vec}
use Rattle.auth_store_device.specs.declared.blocks.Part.{Part}

-- The bytes of all blocks, those of all images, and how many more the last block has room for.
pub record Held : Type 0 where
  pub blocks : List (List ℕ)
  pub images : List (List ℕ)
  pub room : ℕ

-- the bytes of all blocks, of which the one with room comes last
abbrev pub blocks_with : List (Vec ℕ Global) → List ℕ → List (List ℕ)
blocks_with full last = map (λ block. block.items) full ++ last ∷ []

abbrev pub blocks_of : List (Vec ℕ Global) → Vec ℕ Global → List (List ℕ)
blocks_of full last = blocks_with full last.items

-- the bytes of a part
abbrev pub bytes_in : List (List ℕ) → Part → List ℕ
bytes_in blocks part = take part.count (drop part.start (get_or blocks part.block []))

-- a part lies in its block
abbrev pub IsPartWithin : List (List ℕ) → Part → Type 0
IsPartWithin blocks part =
    (part.block < length blocks) × (part.start + part.count ≤ length (get_or blocks part.block []))

-- the pieces of an image, and its bytes
abbrev pub pieces_in : List (List ℕ) → List Part → List (List ℕ)
pieces_in blocks parts = map (bytes_in blocks) parts

abbrev pub image_in : List (List ℕ) → List Part → List ℕ
image_in blocks parts = concat (pieces_in blocks parts)

-- how many bytes a piece has
abbrev pub piece_bytes : ℕ
piece_bytes = 1024

-- and so many has each part of an image but the last
abbrev pub AreCut : List Part → Type 0
AreCut parts = (k : ℕ) (d : Part) → k + 1 < length parts → (get_or parts k d).count ≡ piece_bytes

-- later each block is there, with bytes behind it or none, and so is each image, with others behind them or none
pub record Gains (held later : Held) : Type 0 where
  pub longer : length held.blocks ≤ length later.blocks
  pub blocks : (k : ℕ) → k < length held.blocks → (more : List ℕ)
      × (get_or later.blocks k [] ≡ get_or held.blocks k [] ++ more)
  pub images : (more : List (List ℕ)) × (later.images ≡ held.images ++ more)
