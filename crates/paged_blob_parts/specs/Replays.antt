-- Reading a list from a place on, piece by piece.
use Rattle.std.specs.Prelude.{◌≡◌, ℕ, ◌-◌, ◌≤◌, List, ◌++◌, take, drop}

-- A list was read on, from one place to another: its bytes between them stand behind those that were there.
pub record ReadsOn (list : List ℕ) (old_next : ℕ) (old : List ℕ) (new_next : ℕ) (new : List ℕ) : Type 0 where
  pub on : old_next ≤ new_next
  pub bytes : new ≡ old ++ take (new_next - old_next) (drop old_next list)
