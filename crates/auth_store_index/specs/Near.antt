-- A batch told by few keys: those that go, and those near which something may change.
--
--     old    a ─▶ c ─▶ e ─▶ g ─▶ a        words: delete c, put d, put g
--     gone   c                            near: what is put, d and g, and the keys before those that words name: a, e
--     new    a ─▶ d ─▶ e ─▶ g ─▶ a        the next key of a is the first that stays between a and d, or d itself
use Rattle.std.specs.Prelude.{◌≡◌, ℕ, true, not, ◌&&◌, ◌||◌, if◌then◌else◌, List, [], ◌∷◌, ◌++◌, Option, None, Some}
use Rattle.std.specs.Prelude.{is_some, filter}
use Rattle.std.specs.List.{AllByRecursion}
use Rattle.std.specs.Ordering.{is_lt, is_gt}
use Rattle.auth_store_parts.specs.Map.{Map, key_order, with_entry, value_at, above, first_key}
use Rattle.auth_store_parts.specs.Batch as batch
use Rattle.auth_store_parts.specs.Batch.{Word}
use Rattle.auth_store_parts.specs.History.{IsState}

-- the part of the state below the key
abbrev pub below : Map → List ℕ → Map
below state key = filter (λ e. is_gt (key_order key e.0)) state

-- the part of the state between two keys
abbrev pub between : Map → List ℕ → List ℕ → Map
between state low high = filter (λ e. is_lt (key_order low e.0) && is_gt (key_order high e.0)) state

-- the last key of some entries
abbrev pub last_key : Map → List ℕ
last_key [] = []
last_key (e ∷ []) = e.0
last_key (e ∷ f ∷ es) = last_key (f ∷ es)

-- the greatest key below the key, or the greatest of all where none is below
abbrev pub prev_key : Map → List ℕ → List ℕ
prev_key state key = last_key (state ++ below state key)

-- the key that a word names
abbrev pub key_of : Word → List ℕ
key_of (batch.put key value) = key
key_of (batch.delete key) = key

-- a state with an entry more, where there is one
abbrev pub with_found : Map → List ℕ → Option (List ℕ) → Map
with_found state key None = state
with_found state key (Some value) = with_entry state key value

-- the keys that go, with one more: a key that was there, where nothing is put at it
abbrev pub with_gone : Map → Map → Map → List ℕ → Map
with_gone old puts gone key = if is_some (value_at puts key) then gone else with_found gone key (value_at old key)

-- the keys that go by words, among which these are
abbrev pub gone_after : Map → Map → Map → List Word → Map
gone_after old puts gone [] = gone
gone_after old puts gone (word ∷ words) = gone_after old puts (with_gone old puts gone (key_of word)) words

-- the entries that are near, with that of a key as it was before, where it is neither gone nor among them
abbrev pub with_kept : Map → Map → Map → List ℕ → Map
with_kept old gone near key =
    if is_some (value_at gone key) || is_some (value_at near key) then near else with_found near key (value_at old key)

-- and with those of the keys before all that words name
abbrev pub near_after : Map → Map → Map → List Word → Map
near_after old gone near [] = near
near_after old gone near (word ∷ words) =
    near_after old gone (with_kept old gone near (prev_key old (key_of word))) words

-- the entries whose keys do not go
abbrev pub staying : Map → Map → Map
staying gone state = filter (λ e. not (is_some (value_at gone e.0))) state

-- the next key of a key, behind which this one is the first that is near
abbrev pub next_near : Map → Map → List ℕ → List ℕ → List ℕ
next_near old gone key end = first_key (staying gone (between old key end) ++ (end, []) ∷ [])

-- the next key of the last key that is near, of which this one is the first
abbrev pub next_round : Map → Map → List ℕ → List ℕ → List ℕ
next_round old gone key least =
    first_key (staying gone (above old key) ++ (staying gone (below old least) ++ (least, []) ∷ []))

-- what a key has: what it has among those that are near, or else nothing where it is gone, or else what it had
abbrev pub value_told : Map → Map → Map → List ℕ → Option (List ℕ)
value_told old gone near key = if is_some (value_at near key) then value_at near key
    else (if is_some (value_at gone key) then None else value_at old key)

-- a new state is told by the old one, by the entries of it that go, and by some of its own
pub record IsTold (old gone near new : Map) : Type 0 where
  pub old_is : IsState old
  pub gone_is : IsState gone
  pub near_is : IsState near
  pub new_is : IsState new
  pub left : (key value : List ℕ) → value_at gone key ≡ Some value → value_at old key ≡ Some value
  pub apart : (key : List ℕ) → is_some (value_at gone key) ≡ true → value_at near key ≡ None
  pub told : (key : List ℕ) → value_at new key ≡ value_told old gone near key

-- the key before this one, where there is any, goes or is near
abbrev pub IsCovered : Map → Map → Map → List ℕ → Type 0
IsCovered old gone near key = is_some (value_at old (prev_key old key)) ≡ true
    → (is_some (value_at gone (prev_key old key)) || is_some (value_at near (prev_key old key))) ≡ true

-- and so it is for all keys that words name
abbrev pub AreCovered : Map → Map → Map → List Word → Type 0
AreCovered old gone near words = AllByRecursion (λ word. IsCovered old gone near (key_of word)) words
