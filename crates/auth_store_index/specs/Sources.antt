-- Where a state's values are found.
use Rattle.std.specs.Prelude.{◌≡◌, ◌==◌, ⊤, ℕ, Bool, false, List, [], ◌∷◌, Some, slice_get}
use Rattle.std.specs.List.{AllByRecursion}
use Rattle.auth_store_parts.specs.Map.{Map, value_at}
use Rattle.state_ops.specs.Operation.{Operation, update, ordered}
use Rattle.auth_store_index.specs.declared.values.Source as code
use Rattle.auth_store_index.specs.declared.values.Source.TheVariants.{Logged, Given}
use Rattle.auth_store_index.specs.Readings.{value_read}

-- the value that a source names, given how values are encoded, in a log
abbrev pub source_value : {V : Type 0} → (V → List ℕ) → List Operation → code.Source V → List ℕ
source_value value log (Logged place) = value_read log (place ∷ [])
source_value value log (Given v) = value v

-- the value at a location
abbrev pub value_there : List Operation → ℕ → List ℕ
value_there log place = value_read log (place ∷ [])

-- an update stands at this location
abbrev pub HasUpdate : List Operation → ℕ → Type 0
HasUpdate log location = (key : List ℕ) × (value : List ℕ) × (next : List ℕ)
    × (slice_get log location ≡ Some (update (ordered key value next)))

-- where the source names a location, an update stands there
abbrev pub IsReadable : {V : Type 0} → List Operation → code.Source V → Type 0
IsReadable log (Logged place) = HasUpdate log place
IsReadable log (Given v) = ⊤

-- how many values are read of the log for the value that a source names
abbrev pub reads_for : {V : Type 0} → code.Source V → ℕ
reads_for (Logged place) = 1
reads_for (Given v) = 0

-- whether it names this location
abbrev pub is_at : {V : Type 0} → code.Source V → ℕ → Bool
is_at (Logged other) place = other == place
is_at (Given v) place = false

-- where the source of a key names a location, it is the key's place
abbrev pub IsOwn : {V : Type 0} → Map → List ℕ → code.Source V → Type 0
IsOwn places key (Logged place) = value_at places key ≡ Some (place ∷ [])
IsOwn places key (Given v) = ⊤

-- and so it is for all keys
abbrev pub AreOwn : {K V : Type 0} → (K → List ℕ) → Map → List (K × code.Source V) → Type 0
AreOwn key places entries = AllByRecursion (λ e. IsOwn places (key e.0) e.1) entries
