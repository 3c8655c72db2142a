-- A state: its keys and values in ascending byte order of keys. A key or a value is its own encoding, a list of bytes.
use Rattle.std.specs.Prelude.{ℕ, List, [], ◌∷◌, ◌++◌, Option, option_map, map, filter}
use Rattle.std.specs.Ordering.{nat_cmp, is_lt}
use Rattle.std.specs.declared.cmp.Ordering.{Ordering}
use Rattle.std.specs.Cmp.Lexicographic.{slice_cmp}
use Rattle.std.specs.BTreeMap.{insert_entry, is_at}
use Rattle.std.specs.Map.{lookup, remove_entry}

-- a state
abbrev pub Map : Type 0
Map = List (List ℕ × List ℕ)

-- the byte order of keys
abbrev pub key_order : List ℕ → List ℕ → Ordering
key_order = slice_cmp nat_cmp

-- the state with the value at the key
abbrev pub with_entry : Map → List ℕ → List ℕ → Map
with_entry state key value = insert_entry key_order state key value

-- the state without the key
abbrev pub without_key : Map → List ℕ → Map
without_key state key = remove_entry (is_at (key_order key)) state

-- the value at the key, where there is one
abbrev pub value_at : Map → List ℕ → Option (List ℕ)
value_at state key = lookup (is_at (key_order key)) state

-- the part of the state above the key
abbrev pub above : Map → List ℕ → Map
above state key = filter (λ e. is_lt (key_order key e.0)) state

-- the first key of some entries
abbrev pub first_key : Map → List ℕ
first_key [] = []
first_key (e ∷ es) = e.0

-- the least key above the key, or the least of all where none is above
abbrev pub next_key : Map → List ℕ → List ℕ
next_key state key = first_key (above state key ++ state)

-- the value of a key in a state and its next key, where the key is there
abbrev pub entry_of : Map → List ℕ → Option (List ℕ × List ℕ)
entry_of state key = option_map (λ value. (value, next_key state key)) (value_at state key)

-- the state of a map of the code, given how its keys and its values are encoded
abbrev pub state_of : {K V : Type 0} → (K → List ℕ) → (V → List ℕ) → List (K × V) → Map
state_of key value entries = map (λ e. (key e.0, value e.1)) entries
