-- The keys that operations name, each at its rank among them, and the places of those that have one.
use Rattle.std.specs.Prelude.{◌≡◌, ℕ, ◌+◌, List, [], ◌∷◌, map, Option, None, Some, slice_get}
use Rattle.state_ops.specs.Operation.{Operation, delete, update, ordered, commit_floor}
use Rattle.auth_store_parts.specs.Map.{Map, with_entry, without_key}
use Rattle.auth_store_parts.specs.History.{IsState}

-- the key that an operation names
abbrev pub named : Operation → Option (List ℕ)
named (delete key) = Some key
named (update (ordered key value next)) = Some key
named (commit_floor metadata floor) = None

-- the places of those keys that have one
abbrev pub places_at : List (List ℕ) → List (Option ℕ) → Map
places_at [] slots = []
places_at (key ∷ keys) [] = []
places_at (key ∷ keys) (None ∷ slots) = places_at keys slots
places_at (key ∷ keys) (Some place ∷ slots) = (key, place ∷ []) ∷ places_at keys slots

-- what a table of ranked keys says: of each location the key that has its rank, and the places of the keys
pub record Ranked : Type 0 where
  pub names : List (Option (List ℕ))
  pub places : Map

-- the key at each location's rank
abbrev pub names_at : List (List ℕ) → List ℕ → List (Option (List ℕ))
names_at keys ranks = map (slice_get keys) ranks

-- each of these operations that names a key has it at its location, where the first of them stands at `start`
abbrev pub AreNamed : List (Option (List ℕ)) → ℕ → List Operation → Type 0
AreNamed names start operations = (index : ℕ) (operation : Operation) (key : List ℕ)
    → slice_get operations index ≡ Some operation → named operation ≡ Some key
    → slice_get names (start + index) ≡ Some (Some key)

-- the keys ascend strictly
abbrev pub AreAscending : List (List ℕ) → Type 0
AreAscending keys = IsState (map (λ key. (key, [])) keys)

-- the last of some keys
abbrev pub last_key : List (List ℕ) → Option (List ℕ)
last_key [] = None
last_key (key ∷ []) = Some key
last_key (key ∷ other ∷ keys) = last_key (other ∷ keys)

-- the places with this one for the key, or without the key where there is none
abbrev pub with_place : Map → List ℕ → Option ℕ → Map
with_place places key None = without_key places key
with_place places key (Some place) = with_entry places key (place ∷ [])

-- a key with its place, where it has one
abbrev pub place_at : List ℕ → Option ℕ → Map
place_at key None = []
place_at key (Some place) = (key, place ∷ []) ∷ []
