-- Places that follow a batch in two steps: its updates first, which may be taken back, and its deletes last.
use Rattle.std.specs.Prelude.{◌≡◌, ℕ, ◌+◌, Bool, true, false, List, [], ◌∷◌, map, Option, None, Some, IsSome}
use Rattle.std.specs.Prelude.{option_map}
use Rattle.std.specs.List.{list_any}
use Rattle.std.specs.Ordering.{is_eq}
use Rattle.state_ops.specs.Operation.{Operation, delete, update, ordered, commit_floor}
use Rattle.auth_store_parts.specs.Map.{Map, key_order, value_at, with_entry, without_key}

-- the places after an operation at this location, where it is an update; and where it is a delete
abbrev pub after_update : ℕ → Operation → Map → Map
after_update location (delete key) places = places
after_update location (update (ordered key value next)) places = with_entry places key (location ∷ [])
after_update location (commit_floor metadata floor) places = places

abbrev pub after_delete : Operation → Map → Map
after_delete (delete key) places = without_key places key
after_delete (update (ordered key value next)) places = places
after_delete (commit_floor metadata floor) places = places

-- the places after the updates among operations, the first of which stands at `start`; and after their deletes
abbrev pub updated : ℕ → Map → List Operation → Map
updated start places [] = places
updated start places (operation ∷ later) = updated (start + 1) (after_update start operation places) later

abbrev pub without_deleted : Map → List Operation → Map
without_deleted places [] = places
without_deleted places (operation ∷ later) = without_deleted (after_delete operation places) later

-- whether an operation deletes a key, or updates it
abbrev pub is_delete_of : List ℕ → Operation → Bool
is_delete_of key (delete k) = is_eq (key_order key k)
is_delete_of key (update (ordered k value next)) = false
is_delete_of key (commit_floor metadata floor) = false

abbrev pub is_update_of : List ℕ → Operation → Bool
is_update_of key (delete k) = false
is_update_of key (update (ordered k value next)) = is_eq (key_order key k)
is_update_of key (commit_floor metadata floor) = false

-- no key is both deleted and updated
abbrev pub AreApart : List Operation → Type 0
AreApart operations = (key : List ℕ) → list_any (is_delete_of key) operations ≡ true
    → list_any (is_update_of key) operations ≡ false

-- what a key had: a place, or none
abbrev pub Earlier : Type 0
Earlier = List ℕ × Option (List ℕ)

-- what keys of the code had, as keys and places
abbrev pub told : {K : Type 0} → (K → List ℕ) → List (K × Option ℕ) → List Earlier
told key earlier = map (λ one. (key one.0, option_map (λ location. location ∷ []) one.1)) earlier

-- the places with what a key had before
abbrev pub put_back : Map → Earlier → Map
put_back places (key, None) = without_key places key
put_back places (key, Some place) = with_entry places key place

-- the places with what keys had before, the last one first
abbrev pub taken_back : Map → List Earlier → Map
taken_back places [] = places
taken_back places (one ∷ later) = put_back (taken_back places later) one

-- none is put back where it would need memory: a key that had a place has one
abbrev pub CanTakeBack : Map → List Earlier → Type 0
CanTakeBack places [] = Unit {0}
CanTakeBack places (one ∷ later) =
    CanTakeBack places later × (IsSome one.1 → IsSome (value_at (taken_back places later) one.0))

-- these lead back from places to the first ones
pub record AreEarlier (first places : Map) (earlier : List Earlier) : Type 0 where
  pub back : taken_back places earlier ≡ first
  pub can : CanTakeBack places earlier
