-- At each moment from an old list of calls to a new one.
use Rattle.std.specs.Prelude.{⊤, List, ◌∷◌}
use Rattle.paged_blob_parts.specs.Calls.{Call}

-- the list grew from the old one, and each list between them, both ends too, has P
pub data Through (P : List Call → Type 0) (old : List Call) : List Call → Type 0 where
  here : P old → Through P old old
  then : {now : List Call} (call : Call) → Through P old now → P (call ∷ now) → Through P old (call ∷ now)

-- the list only grew
abbrev pub Grows : List Call → List Call → Type 0
Grows old new = Through (λ _. ⊤) old new
