-- How the bits of a log change as operations are appended to it.
use Rattle.std.specs.Prelude.{ℕ, ◌+◌, Bool, false, if◌then◌else◌, List, [], ◌∷◌, ◌++◌, Option, unwrap_or, slice_set}
use Rattle.std.specs.List.{flat_map}
use Rattle.state_ops.specs.Operation.{Operation, delete, update, ordered, commit_floor}
use Rattle.auth_store_parts.specs.Map.{Map, value_at}
use Rattle.auth_store_parts.specs.History.{inactivity_floor}

-- bits after those at these places are cleared, one after the other
abbrev pub cleared : List Bool → List ℕ → List Bool
cleared bits [] = bits
cleared bits (at ∷ more) = cleared (slice_set bits at false) more

-- the place of a key, alone, or nothing where it has none
abbrev pub place_at : Map → List ℕ → List ℕ
place_at places key = unwrap_or (value_at places key) []

-- the places of a log whose operations count no more once this one stands behind it: that of the key that it names; and
-- behind a commit that of the commit that was the last
abbrev pub taken_by : Map → ℕ → Operation → List ℕ
taken_by places last (delete key) = place_at places key
taken_by places last (update (ordered key value next)) = place_at places key
taken_by places last (commit_floor metadata floor) = last ∷ []

-- and once all these stand behind it
abbrev pub taken : Map → ℕ → List Operation → List ℕ
taken places last operations = flat_map (taken_by places last) operations

-- operations with a commit at their end that records their floor: each log of a history is one
abbrev pub committed : List Operation → Option (List ℕ) → List Operation
committed front metadata = front ++ commit_floor metadata (inactivity_floor front) ∷ []

-- the place of the first bit that is set, or their number where none is
abbrev pub first_set : List Bool → ℕ
first_set [] = 0
first_set (bit ∷ bits) = if bit then 0 else first_set bits + 1
