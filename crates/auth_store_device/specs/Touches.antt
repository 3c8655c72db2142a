-- Bytes of a file that changes leave alone.
use Rattle.std.specs.Prelude.{⊤, ◌⊎◌, ℕ, ◌+◌, ◌-◌, ◌<◌, ◌≤◌, ◌^◌, List, [], ◌∷◌, length}
use Rattle.paged_blob_parts.specs.Calls.{Change, write, resize}
use Rattle.auth_store_device.specs.declared.touched.Touched.{Touched}

-- a byte is none of these
abbrev pub IsOutside : Touched → ℕ → Type 0
IsOutside touched i = (i < touched.from) ⊎ ((touched.to ≤ i) × (touched.to < 2 ^ 64 - 1))

-- a change leaves a byte alone
abbrev pub Leaves : ℕ → Change → Type 0
Leaves i (write offset bytes kept) = (i < offset) ⊎ (offset + length bytes ≤ i)
Leaves i (resize size) = i < size

-- and so do all of them
abbrev pub AllLeave : ℕ → List Change → Type 0
AllLeave i [] = ⊤
AllLeave i (change ∷ earlier) = Leaves i change × AllLeave i earlier
