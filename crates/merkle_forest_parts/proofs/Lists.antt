-- Writing and reading items one after the other, as a loop does.
use Rattle.std.proofs.Common.{◌≡◌, ℕ, suc, ◌+◌, ◌-◌, ◌^◌, ◌<◌, ◌≤◌, List, [], ◌∷◌, ◌++◌, length, take, get_or, Ok}
use Rattle.std.proofs.Common.{Err, refl, sym, ◌∙◌, ap, append_assoc, length-append, arith, rules, Fits, w64}
use Rattle.std.specs.List.{flat_map, All}
use Rattle.std.proofs.lemmas.List.{flat_map_more, take_more}
use Rattle.std.proofs.lemmas.List.Folds.{length-flat_map-take}
use Rattle.std.proofs.lemmas.List.Elements.{All-more, All-append, All-cons, All-nil}
use Rattle.merkle_forest_parts.specs.Codec.{Outcome, Extends, Refuses}
use Rattle.merkle_forest_parts.specs.Varint.{varint}
use Rattle.merkle_forest_parts.specs.Laws.Codec.{refuses_as}
use Rattle.merkle_forest_parts.specs.Lists.{list_encoding, count_at, HasItems, after_items, after_list}
use Rattle.merkle_forest_parts.specs.declared.codec.error.Error.{Error}

pub extends_more : (old out new : List ℕ) → Extends old out → Extends out new → Extends old new
extends_more old out new first second = (first.0 ++ second.0, rw (second.1, first.1, append_assoc) refl)

pub writes_item : {T : Type 0} (encoding : T → List ℕ) (items : List T) (i : ℕ) (item : T) (old out new head : List ℕ)
    → i < length items → item ≡ get_or items i item
    → out ≡ old ++ (head ++ flat_map encoding (take i items)) → new ≡ out ++ encoding item
    → new ≡ old ++ (head ++ flat_map encoding (take (i + 1) items))
writes_item encoding items i item old out new head some is so_far pushed =
    let more : take (i + 1) items ≡ take i items ++ item ∷ [] = take_more items i item some
    ∙ ap (λ x. take i items ++ x ∷ []) (sym is) in
    let one : flat_map encoding (take i items) ++ encoding item ≡ flat_map encoding (take i items ++ item ∷ []) =
    flat_map_more encoding [] (take i items) item in
    pushed ∙ rw (so_far, append_assoc, append_assoc, one, more) refl

pub value_more : {T : Type 0} (is_value : T → Type 0) (items : List T) (i : ℕ) (item : T) → i < length items
    → item ≡ get_or items i item
    → All is_value (take i items) → is_value item → All is_value (take (i + 1) items)
value_more is_value items i item some is so_far value = All-more is_value items i item some so_far (rw is at value)

pub size_fits : {T : Type 0} (encoding : T → List ℕ) (items all : List T) (i size : ℕ) (item : T) (bytes : List ℕ)
    → items ≡ all → i < length items → item ≡ get_or items i item → bytes ≡ encoding item
    → size ≡ length (varint (length items)) + length (flat_map encoding (take i items))
    → length (list_encoding encoding all) < 2 ^ 64 → Fits w64 (size + length bytes)
size_fits encoding items all i size item bytes whole some is encoded so_far fits =
    let here : length (list_encoding encoding items) < 2 ^ 64 = rw whole fits in
    let within = length-flat_map-take encoding items i item some in
    let same : length bytes ≡ length (encoding (get_or items i item)) = ap length encoded
    ∙ ap (λ x. length (encoding x)) is in
    let bound : size + length bytes < 2 ^ 64 =
    omega (arith, length-append (varint (length items)) (flat_map encoding items)) in
    search rules

-- one item was read, and the others follow
pub one_read : (after : List ℕ → Outcome) (count i : ℕ) (bytes rest : List ℕ) (total : Outcome) → i < count
    → after bytes ≡ Ok rest
    → after_items after (count - i) bytes ≡ total → after_items after (count - (i + 1)) rest ≡ total
unfolding after_items
one_read after count i bytes rest total some read so_far =
    let k : count - i ≡ suc (count - (i + 1)) = omega arith in
    let one : after_items after (count - i) bytes ≡ after_items after (count - (i + 1)) rest = rw (k, read) refl in
    sym one ∙ so_far

-- after the count stand the items
after_count : (after : List ℕ → Outcome) (least greatest count : ℕ) (bytes start : List ℕ)
    → count_at least greatest bytes ≡ Ok (count, start)
    → after_list after least greatest bytes ≡ after_items after count start
after_count after least greatest count bytes start found = rw found refl

pub item_refused : (after : List ℕ → Outcome) (lacks more : Type 0) (least greatest count i : ℕ)
    (whole start bytes : List ℕ) (e : Error)
    → (lacks → more) → count_at least greatest whole ≡ Ok (count, start) → i < count
    → after_items after (count - i) bytes ≡ after_items after count start → Refuses lacks e (after bytes)
    → Refuses more e (after_list after least greatest whole)
unfolding after_items
item_refused after lacks more least greatest count i whole start bytes e weaker found some so_far refused =
    let k : count - i ≡ suc (count - (i + 1)) = omega arith in
    let alike : (f : Error) → after bytes ≡ Err f → after_list after least greatest whole ≡ Err f =
    λ f failed. after_count after least greatest count whole start found ∙ sym so_far ∙ rw (k, failed) refl in
    refuses_as lacks more e (after bytes) (after_list after least greatest whole) weaker alike refused

-- where an item is still to be read, the count is above zero
pub has_items : (least greatest count i : ℕ) (whole start : List ℕ)
    → count_at least greatest whole ≡ Ok (count, start) → i < count
    → HasItems (count_at least greatest whole)
has_items least greatest count i whole start found some = let more : 0 < count = omega arith in rw found more

-- all were read
pub all_read : (after : List ℕ → Outcome) (least greatest count i : ℕ) (whole start bytes : List ℕ)
    → count_at least greatest whole ≡ Ok (count, start) → count ≤ i
    → after_items after (count - i) bytes ≡ after_items after count start
    → after_list after least greatest whole ≡ Ok bytes
unfolding after_items
all_read after least greatest count i whole start bytes found done so_far =
    let k : count - i ≡ 0 = omega arith in after_count after least greatest count whole start found ∙ sym so_far
    ∙ rw k refl

pub counts_more : {T : Type 0} (items new_items : List T) (item : T) (i : ℕ) → new_items ≡ items ++ item ∷ []
    → length items ≡ i → length new_items ≡ i + 1
counts_more items new_items item i pushed so_far = omega (arith, length-append items (item ∷ []), ap length pushed)

pub values_more : {T : Type 0} (is_value : T → Type 0) (items new_items : List T) (item : T)
    → new_items ≡ items ++ item ∷ [] → is_value item → All is_value items → All is_value new_items
values_more is_value items new_items item pushed value so_far =
    rw pushed (All-append is_value items (item ∷ []) so_far (All-cons is_value item [] value (All-nil is_value)))

pub encoded_whole : {T : Type 0} (encoding : T → List ℕ) (items : List T) (count i : ℕ) (bytes start rest : List ℕ)
    → count ≤ i → i ≤ count → length items ≡ i
    → bytes ≡ varint count ++ start → start ≡ flat_map encoding items ++ rest
    → bytes ≡ list_encoding encoding items ++ rest
encoded_whole encoding items count i bytes start rest most least sized counted_bytes encoded =
    let same : count ≡ length items = omega arith in
    counted_bytes ∙ rw (same, encoded, append_assoc) refl

pub encoded_more : {T : Type 0} (encoding : T
    → List ℕ) (items new_items : List T) (item : T) (start bytes rest : List ℕ) → new_items ≡ items ++ item ∷ []
    → bytes ≡ encoding item ++ rest → start ≡ flat_map encoding items ++ bytes
    → start ≡ flat_map encoding new_items ++ rest
encoded_more encoding items new_items item start bytes rest pushed read so_far =
    let more : flat_map encoding items ++ encoding item ≡ flat_map encoding (items ++ item ∷ []) =
    flat_map_more encoding [] items item in
    so_far ∙ rw (read, pushed, ← more, append_assoc) refl
