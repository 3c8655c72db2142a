-- Lists that were encoded are read again.
use Rattle.std.proofs.Common.{◌≡◌, ℕ, ◌^◌, ◌<◌, ◌≤◌, ltb, false, List, [], ◌∷◌, ◌++◌, length, true, Result, Ok, Err}
use Rattle.std.proofs.Common.{refl, append_assoc, inl, inr}
use Rattle.std.specs.List.{flat_map, All}
use Rattle.std.proofs.lemmas.Bool.{lt-ltb, le-ltb, cases_lt}
use Rattle.merkle_forest_parts.specs.declared.codec.error.Error.{Error}
use Rattle.merkle_forest_parts.specs.declared.codec.error.Error.TheVariants.{InvalidLength}
use Rattle.std.proofs.lemmas.List.Elements.{All-head, All-tail}
use Rattle.merkle_forest_parts.specs.Codec.{◌>>=◌, Outcome}
use Rattle.merkle_forest_parts.specs.Laws.Codec.{fixed_again}
use Rattle.merkle_forest_parts.specs.Varint.{varint}
use Rattle.merkle_forest_parts.specs.Laws.Varint.{varint_again}
use Rattle.merkle_forest_parts.specs.Lists.{list_encoding, bytes_encoding, AreItems, count_at, after_items, after_list}
use Rattle.merkle_forest_parts.specs.Lists.{after_bytes}

-- a count in its range is read again
pub count_again : (least greatest n : ℕ) (rest : List ℕ) → n < 2 ^ 64 → least ≤ n → n ≤ greatest
    → count_at least greatest (varint n ++ rest) ≡ Ok (n, rest)
count_again least greatest n rest small low high =
    let not_less : ltb n least ≡ false = le-ltb n least low in
    let not_more : ltb greatest n ≡ false = le-ltb greatest n high in
    rw (varint_again n rest small, not_less, not_more) refl

pub items_again : {T : Type 0} (encoding : T → List ℕ) (after : List ℕ → Outcome) (is_value is_within : T → Type 0)
    → ((v : T) (rest : List ℕ) → is_value v → is_within v → after (encoding v ++ rest) ≡ Ok rest)
    → (items : List T) (rest : List ℕ) → All is_value items → All is_within items
    → after_items after (length items) (flat_map encoding items ++ rest) ≡ Ok rest
unfolding after_items
items_again encoding after is_value is_within again [] rest values within = refl
items_again encoding after is_value is_within again (v ∷ items) rest values within =
    rw (
      append_assoc,
      again v (flat_map encoding items ++ rest) (All-head is_value v items values)
          (All-head is_within v items within),
    )
    (items_again encoding after is_value is_within again items rest (All-tail is_value v items values)
    (All-tail is_within v items within))

pub list_again : {T : Type 0} (encoding : T → List ℕ) (after : List ℕ → Outcome) (is_value is_within : T → Type 0)
    → ((v : T) (rest : List ℕ) → is_value v → is_within v → after (encoding v ++ rest) ≡ Ok rest)
    → (least greatest : ℕ) (items : List T) (rest : List ℕ) → AreItems is_value items → least ≤ length items
    → length items ≤ greatest → All is_within items
    → after_list after least greatest (list_encoding encoding items ++ rest) ≡ Ok rest
list_again encoding after is_value is_within again least greatest items rest values low high within =
    rw (append_assoc, count_again least greatest (length items) (flat_map encoding items ++ rest) values.0 low high)
    (items_again encoding after is_value is_within again items rest values.1 within)

pub bytes_again : (least greatest : ℕ) (bytes rest : List ℕ) → length bytes < 2 ^ 64 → least ≤ length bytes
    → length bytes ≤ greatest
    → after_bytes least greatest (bytes_encoding bytes ++ rest) ≡ Ok rest
bytes_again least greatest bytes rest small low high =
    rw (append_assoc, count_again least greatest (length bytes) (bytes ++ rest) small low high)
    (fixed_again (length bytes) bytes rest refl)

-- a count that is read is in its range
pub count_within : (least greatest n : ℕ) (rest : List ℕ) (found : ℕ × List ℕ) → n < 2 ^ 64
    → count_at least greatest (varint n ++ rest) ≡ Ok found → (least ≤ n) × (n ≤ greatest)
count_within least greatest n rest found small read =
    let below : least ≤ n = elim (cases_lt n least) [
      | inl less ↦
          let under : ltb n least ≡ true = lt-ltb n least less in
          let refused : count_at least greatest (varint n ++ rest) ≡ Err InvalidLength =
          rw (varint_again n rest small, under) refl in
          absurd (cc)
      | inr fine ↦ fine
    ] in
    let above : n ≤ greatest = elim (cases_lt greatest n) [
      | inl more ↦
          let over : ltb greatest n ≡ true = lt-ltb greatest n more in
          let fine : ltb n least ≡ false = le-ltb n least below in
          let refused : count_at least greatest (varint n ++ rest) ≡ Err InvalidLength =
          rw (varint_again n rest small, fine, over) refl in
          absurd (cc)
      | inr fine ↦ fine
    ] in
    (below, above)

-- where two steps found no fault, the first found none
pub bind_ok : {A : Type 0} (first : Result A Error) (second : A → Outcome) (new : List ℕ)
    → (first >>= second) ≡ Ok new → (x : A) × (first ≡ Ok x)
bind_ok (Ok x) second new both = (x, refl)
bind_ok (Err e) second new both = absurd (cc)

-- a list that is read has a count in its range
pub list_within : (then : ℕ × List ℕ → Outcome) (least greatest n : ℕ) (rest new : List ℕ) → n < 2 ^ 64
    → (count_at least greatest (varint n ++ rest) >>= then) ≡ Ok new
    → (least ≤ n) × (n ≤ greatest)
list_within then least greatest n rest new small read =
    let found = bind_ok (count_at least greatest (varint n ++ rest)) then new read in
    count_within least greatest n rest found.0 small found.1
