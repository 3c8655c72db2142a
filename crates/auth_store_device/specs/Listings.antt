-- A list of calls, and how it lies in blocks.
use Rattle.std.specs.Prelude.{◌≡◌, ℕ, ◌-◌, ◌^◌, Bool, List, ◌++◌, length}
use Rattle.std.specs.List.{All, flat_map}
use Rattle.std.specs.declared.alloc.Global.{Global}
use Rattle.std.specs.declared.vec.Vec.{Vec}
use Rattle.auth_store_device.specs.declared.kept.Kept.{Kept}

-- A list of calls: those that are in it, the oldest first, and whether there is a place for one more.
pub record Listing : Type 0 where
  pub items : List Kept
  pub has_place : Bool

-- how many calls a block has room for
abbrev pub block_calls : ℕ
block_calls = 512

-- how many calls a list has at most
abbrev pub most_calls : ℕ
most_calls = 2 ^ 64 - 1

-- the calls of the full blocks, and behind them those of the last
abbrev pub calls_in : List (Vec Kept Global) → List Kept → List Kept
calls_in full last = flat_map (λ (block : Vec Kept Global). block.items) full ++ last

-- each of these blocks is full
abbrev pub AreFull : List (Vec Kept Global) → Type 0
AreFull full = All (λ (block : Vec Kept Global). length block.items ≡ block_calls) full
