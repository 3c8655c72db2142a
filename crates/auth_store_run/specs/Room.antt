-- A list that waits for answers.
use Rattle.std.specs.Prelude.{◌≡◌, ◌≤◌, ◌+◌, ℕ, []}
use Rattle.std.specs.declared.alloc.Global.{Global}
use Rattle.std.specs.declared.vec.Vec.{Vec}
use Rattle.std.specs.Vec.{vec_len, vec_capacity}

-- a list that is empty and has room for so many
abbrev pub HasRoom : {T : Type 0} → Vec T Global → ℕ → Type 0
HasRoom answers count = (answers.items ≡ []) × (vec_len answers + count ≤ vec_capacity answers)
