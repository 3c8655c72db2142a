-- Where the updates stand in a log that give keys their values.
use Rattle.std.specs.Prelude.{ℕ, ◌+◌, List, [], ◌∷◌, ◌++◌}
use Rattle.state_ops.specs.Operation.{Operation, delete, update, ordered, commit_floor}
use Rattle.auth_store_parts.specs.Map.{Map, with_entry, without_key}

-- the places after an operation at this location; a place is the list of its location alone
abbrev pub after_place : ℕ → Operation → Map → Map
after_place location (delete key) places = without_key places key
after_place location (update (ordered key value next)) places = with_entry places key (location ∷ [])
after_place location (commit_floor metadata floor) places = places

-- the places after all operations, the first of which stands at `start`
abbrev pub placed : ℕ → Map → List Operation → Map
placed start places [] = places
placed start places (operation ∷ later) = placed (start + 1) (after_place start operation places) later

-- for each key of a log's state the place of the update that gives it its value
abbrev pub places_of : List Operation → Map
places_of log = placed 0 [] log

-- how many operations stand before the first that is no update
abbrev pub updates_in_front : List Operation → ℕ
updates_in_front [] = 0
updates_in_front (delete key ∷ later) = 0
updates_in_front (update (ordered key value next) ∷ later) = updates_in_front later + 1
updates_in_front (commit_floor metadata floor ∷ later) = 0

-- the key that an operation names with its location; of a commit nothing
abbrev pub located_key : ℕ → Operation → List (List ℕ × List ℕ)
located_key location (delete key) = (key, location ∷ []) ∷ []
located_key location (update (ordered key value next)) = (key, location ∷ []) ∷ []
located_key location (commit_floor metadata floor) = []

-- the key that each operation names with its location, in the order of the operations, the first of which stands at
-- `start`
abbrev pub located_keys : ℕ → List Operation → List (List ℕ × List ℕ)
located_keys start [] = []
located_keys start (operation ∷ later) = located_key start operation ++ located_keys (start + 1) later
