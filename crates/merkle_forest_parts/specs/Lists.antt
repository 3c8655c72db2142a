-- The grammar of lists: a count, and that many items.
use Rattle.std.specs.Prelude.{ℕ, zero, suc, ◌<◌, ◌^◌, ◌||◌, if◌then◌else◌, nat_lt, List, ◌++◌, length, Result, Ok, Err}
use Rattle.std.specs.List.{flat_map, All}
use Rattle.merkle_forest_parts.specs.Codec.{◌>>=◌, Outcome, after_fixed}
use Rattle.merkle_forest_parts.specs.Varint.{varint, varint_at}
use Rattle.merkle_forest_parts.specs.declared.codec.error.Error.{Error}
use Rattle.merkle_forest_parts.specs.declared.codec.error.Error.TheVariants.{InvalidLength}

-- the count and the items one after the other
abbrev pub list_encoding : {T : Type 0} → (T → List ℕ) → List T → List ℕ
list_encoding encoding items = varint (length items) ++ flat_map encoding items

-- the count and the bytes
abbrev pub bytes_encoding : List ℕ → List ℕ
bytes_encoding bytes = varint (length bytes) ++ bytes

-- items of which each is a value, and no more than a count can say
abbrev pub AreItems : {T : Type 0} → (T → Type 0) → List T → Type 0
AreItems is_value items = (length items < 2 ^ 64) × All is_value items

-- a count in its range, at the front
abbrev pub count_at : ℕ → ℕ → List ℕ → Result (ℕ × List ℕ) Error
count_at least greatest bytes = varint_at bytes >>= λ x.
    if nat_lt x.0 least || nat_lt greatest x.0 then Err InvalidLength else Ok x

-- a count was found, and it is above zero
abbrev pub HasItems : Result (ℕ × List ℕ) Error → Type 0
HasItems (Ok found) = 0 < found.0
HasItems (Err e) = ⊥

-- after so many items
unfoldable pub after_items : (List ℕ → Outcome) → ℕ → List ℕ → Outcome
after_items after zero bytes = Ok bytes
after_items after (suc more) bytes = after bytes >>= after_items after more

-- after a count in its range and that many items
abbrev pub after_list : (List ℕ → Outcome) → ℕ → ℕ → List ℕ → Outcome
after_list after least greatest bytes = count_at least greatest bytes >>= λ x. after_items after x.0 x.1

-- after a count in its range and that many bytes
abbrev pub after_bytes : ℕ → ℕ → List ℕ → Outcome
after_bytes least greatest bytes = count_at least greatest bytes >>= λ x. after_fixed x.0 x.1
