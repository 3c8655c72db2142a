-- Slots of pages, and the files that may have had them.
use Rattle.std.proofs.Common.{◌≡◌, ℕ, zero, suc, ◌+◌, ◌*◌, ◌/◌, ◌<◌, ◌≤◌, ◌==◌}
use Rattle.std.proofs.Common.{◌&&◌, nat_lt, nat_le, Bool, true, false, ◌||◌, List, [], ◌∷◌, length}
use Rattle.std.proofs.Common.{take, drop, get_or}
use Rattle.std.proofs.Common.{sym, ◌∙◌, ap, refl, arith}
use Rattle.std.specs.Int.{w16, w32, from_be_bytes}
use Rattle.std.proofs.lemmas.List.{drop_more, length-drop, length-take-le, take_more}
use Rattle.std.proofs.Math.Nat.{mul-le-mul_right}
use Rattle.paged_format.specs.declared.footer.Slot.{Slot}
use Rattle.paged_format.specs.declared.footer.Slot.TheVariants.{First, Second}
use Rattle.std.specs.Prelude.{bytes_eq, not}
use Rattle.std.specs.List.{list_any}
use Rattle.paged_blob_parts.specs.Calls.{Call, opened, wrote, resized_to, synced, Change, write, resize, changed, whole, File}
use Rattle.paged_blob_parts.specs.Chance.{page_at, has_slot, slot_in, was_written, is_chance_slot}
use Rattle.auth_store_device.specs.OpeningsCode.{is_base, change_in, file_after, file_from}
use Rattle.auth_store_device.proofs.Replays.{from-push}
use Rattle.std.proofs.lemmas.Bool.{both_ways, or_left, or_parts, not-true, not-false, and_left, and_right, le-leb, lt-leb, lt-ltb}
use Rattle.paged_format.specs.Footers.{content_size, slot_start, slot_len, slot_crc}
use Rattle.paged_format.specs.Pages.{verifies, vouches}

-- the first bytes behind a place
two_behind : (bytes : List ℕ) (at : ℕ) → at + 2 ≤ length bytes → take 2 (drop at bytes) ≡ get_or bytes at 0 ∷ get_or bytes (at + 1) 0 ∷ []
two_behind bytes at long =
    let first = drop_more bytes at 0 (omega (arith, long)) in
    let second = drop_more bytes (at + 1) 0 (omega (arith, long)) in
    ap (take 2) first ∙ ap (λ l. get_or bytes at 0 ∷ take 1 l) second

four_behind : (bytes : List ℕ) (at : ℕ) → at + 4 ≤ length bytes
    → take 4 (drop at bytes) ≡ get_or bytes at 0 ∷ get_or bytes (at + 1) 0 ∷ get_or bytes (at + 2) 0 ∷ get_or bytes (at + 3) 0 ∷ []
four_behind bytes at long =
    let first = two_behind bytes at (omega (arith, long)) in
    let one = drop_more bytes at 0 (omega (arith, long)) in
    let two = drop_more bytes (at + 1) 0 (omega (arith, long)) in
    let next : at + 1 + 1 ≡ at + 2 = omega arith in
    let later : at + 2 + 1 ≡ at + 3 = omega arith in
    ap (take 4) one
    ∙ ap (λ l. get_or bytes at 0 ∷ take 3 l) two
    ∙ ap (λ n. get_or bytes at 0 ∷ get_or bytes (at + 1) 0 ∷ take 2 (drop n bytes)) next
    ∙ ap (λ l. get_or bytes at 0 ∷ get_or bytes (at + 1) 0 ∷ l) (two_behind bytes (at + 2) (omega (arith, long)))
    ∙ ap (λ n. get_or bytes at 0 ∷ get_or bytes (at + 1) 0 ∷ get_or bytes (at + 2) 0 ∷ get_or bytes n 0 ∷ []) later

-- both slots are within a page
pub slot_within : (size : ℕ) (slot : Slot) → 12 ≤ size → slot_start size slot + 6 ≤ size
slot_within size First long = omega (arith, long)
slot_within size Second long = omega (arith, long)

pub slot_len-bytes : (slot : Slot) (page : List ℕ) (at : ℕ) → at ≡ slot_start (length page) slot → 12 ≤ length page
    → from_be_bytes w16 (get_or page at 0 ∷ get_or page (at + 1) 0 ∷ []) ≡ slot_len (length page) slot page
unfolding slot_len
slot_len-bytes slot page at is long =
    let within = slot_within (length page) slot long in
    ap (from_be_bytes w16) (sym (two_behind page at (omega (arith, within, is)))) ∙ ap (λ n. from_be_bytes w16 (take 2 (drop n page))) is

pub slot_crc-bytes : (slot : Slot) (page : List ℕ) (at : ℕ) → at ≡ slot_start (length page) slot + 2 → 12 ≤ length page
    → from_be_bytes w32 (get_or page at 0 ∷ get_or page (at + 1) 0 ∷ get_or page (at + 2) 0 ∷ get_or page (at + 3) 0 ∷ [])
    ≡ slot_crc (length page) slot page
unfolding slot_crc
slot_crc-bytes slot page at is long =
    let within = slot_within (length page) slot long in
    ap (from_be_bytes w32) (sym (four_behind page at (omega (arith, within, is)))) ∙ ap (λ n. from_be_bytes w32 (take 4 (drop n page))) is

-- when a slot verifies
module _ (sum : List ℕ → ℕ) (size : ℕ) (page : List ℕ) (len crc : ℕ)
  where
    pub vouches-none : len ≡ 0 → false ≡ vouches sum size page len crc
    unfolding vouches
    vouches-none is = sym (ap (λ n. nat_lt 0 n && (nat_le n (content_size size) && (crc == sum (take n page)))) is)

    pub vouches-long : content_size size < len → false ≡ vouches sum size page len crc
    unfolding vouches
    vouches-long past = sym (and_right (nat_lt 0 len) _ (and_left (nat_le len (content_size size)) _ (lt-leb len (content_size size) past)))

    pub vouches-some : 0 < len → len ≤ content_size size → (crc == sum (take len page)) ≡ vouches sum size page len crc
    unfolding vouches
    vouches-some some within =
        ap (λ b. b && (crc == sum (take len page))) (sym (le-leb len (content_size size) within))
        ∙ ap (λ b. b && (nat_le len (content_size size) && (crc == sum (take len page)))) (sym (lt-ltb 0 len some))

-- when a page has the slot of the shown one
module _ (size : ℕ) (slot : Slot) (shown page : List ℕ)
  where
    pub slot-other : (a b : List ℕ) → a ≡ take 6 (drop (slot_start size slot) page) → b ≡ take 6 (drop (slot_start size slot) shown)
        → true ≡ not (bytes_eq a b) → false ≡ has_slot size slot shown page
    unfolding has_slot slot_in
    slot-other a b first second differ =
        let other : bytes_eq a b ≡ false = not-true (bytes_eq a b) (sym differ) in
        let bytes = take (slot_len size slot shown) in
        sym (and_left _ (bytes_eq (bytes page) (bytes shown)) (ap (λ l. bytes_eq l (take 6 (drop (slot_start size slot) shown))) (sym first)
        ∙ ap (bytes_eq a) (sym second) ∙ other))

    pub slot-same : (a b : List ℕ) → a ≡ take 6 (drop (slot_start size slot) page) → b ≡ take 6 (drop (slot_start size slot) shown)
        → false ≡ not (bytes_eq a b) → (c d : List ℕ) → c ≡ take (slot_len size slot shown) page → d ≡ take (slot_len size slot shown) shown
        → bytes_eq c d ≡ has_slot size slot shown page
    unfolding has_slot slot_in
    slot-same a b first second same c d third fourth =
        let here : bytes_eq a b ≡ true = not-false (bytes_eq a b) (sym same) in
        let bytes = take (slot_len size slot shown) in
        let found : bytes_eq (take 6 (drop (slot_start size slot) page)) (take 6 (drop (slot_start size slot) shown)) ≡ true =
        ap (λ l. bytes_eq l (take 6 (drop (slot_start size slot) shown))) (sym first) ∙ ap (bytes_eq a) (sym second) ∙ here in
        ap (λ l. bytes_eq l d) third ∙ ap (bytes_eq (bytes page)) fourth ∙ ap (λ b. b && bytes_eq (bytes page) (bytes shown)) (sym found)

-- a slot that the newest file has was written
written_now : (size page : ℕ) (slot : Slot) (shown base : List ℕ) (changes : List Change)
    → has_slot size slot shown (page_at size page (whole base changes)) ≡ true
    → was_written size page slot shown base changes ≡ true
written_now size page slot shown base [] has = has
written_now size page slot shown base (change ∷ earlier) has = or_left _ _ has

either_way : (now before : Bool) → (now ≡ true → before ≡ true) → before || now ≡ before
either_way now true follows = refl
either_way true false follows = sym (follows refl)
either_way false false follows = refl

or-flip : (a b : Bool) → a || b ≡ b || a
or-flip true true = refl
or-flip true false = refl
or-flip false true = refl
or-flip false false = refl

-- one call more, whole
pub written-step : (size page : ℕ) (slot : Slot) (shown : List ℕ) (before : File) (call : Call) (file now : List ℕ) (found : Bool)
    → is_base call ≡ false
    → file ≡ whole before.base before.changes → now ≡ whole file (change_in call)
    → found ≡ was_written size page slot shown before.base before.changes
    → (now ≡ whole (file_after call before).base (file_after call before).changes)
    × (found || has_slot size slot shown (page_at size page now)
    ≡ was_written size page slot shown (file_after call before).base (file_after call before).changes)
written-step size page slot shown before (opened bytes) file now found none is made said = absurd (both_ways true none refl)
written-step size page slot shown before (synced bytes true) file now found none is made said = absurd (both_ways true none refl)
written-step size page slot shown before (synced bytes false) file now found none is made said =
    let same : now ≡ whole before.base before.changes = made ∙ is in
    let has : List ℕ → Bool = λ l. has_slot size slot shown (page_at size page l) in (
      same,
      ap (λ b. b || has now) said ∙ ap (λ l. was_written size page slot shown before.base before.changes || has l) same
          ∙ either_way (has (whole before.base before.changes)) (was_written size page slot shown before.base before.changes)
          (written_now size page slot shown before.base before.changes),
    )
written-step size page slot shown before (wrote offset bytes is_sync ok) file now found none is made said =
    let change = write offset bytes (is_sync && ok) in
    let same : now ≡ whole before.base (change ∷ before.changes) = made ∙ ap (changed change) is in
    let has : List ℕ → Bool = λ l. has_slot size slot shown (page_at size page l) in (
      same,
      ap (λ b. b || has now) said ∙ ap (λ l. was_written size page slot shown before.base before.changes || has l) same
          ∙ or-flip (was_written size page slot shown before.base before.changes) (has (whole before.base (change ∷ before.changes))),
    )
written-step size page slot shown before (resized_to length_asked ok) file now found none is made said =
    let change = resize length_asked in
    let same : now ≡ whole before.base (change ∷ before.changes) = made ∙ ap (changed change) is in
    let has : List ℕ → Bool = λ l. has_slot size slot shown (page_at size page l) in (
      same,
      ap (λ b. b || has now) said ∙ ap (λ l. was_written size page slot shown before.base before.changes || has l) same
          ∙ or-flip (was_written size page slot shown before.base before.changes) (has (whole before.base (change ∷ before.changes))),
    )

-- one of calls with which no file begins anew
pub none-at : (calls : List Call) (place : ℕ) (d : Call) → list_any is_base calls ≡ false → place < length calls
    → is_base (get_or calls place d) ≡ false
none-at [] place d none below = absurd (omega (arith, below))
none-at (call ∷ later) zero d none below = (or_parts (is_base call) (list_any is_base later) none).0
none-at (call ∷ later) (suc place) d none below = none-at later place d (or_parts (is_base call) (list_any is_base later) none).1 (omega (arith, below))

-- and what is so far, with it
pub so-far : (file : File) (calls : List Call) (place : ℕ) (d : Call) → place < length calls
    → file_from file (take (place + 1) calls) ≡ file_after (get_or calls place d) (file_from file (take place calls))
so-far file calls place d below =
    ap (file_from file) (take_more calls place d below) ∙ from-push file (take place calls) (get_or calls place d)

-- a page that is there is whole
pub page-long : (size page : ℕ) (bytes : List ℕ) → 0 < size → page < length bytes / size → length (page_at size page bytes) ≡ size
page-long size page bytes some there =
    let whole_pages : (page + 1) * size ≤ length bytes / size * size = mul-le-mul_right size (omega (arith, there)) in
    let within : length bytes / size * size ≤ length bytes = omega (arith, some) in
    length-take-le size (drop (page * size) bytes) (omega (arith, whole_pages, within, length-drop (page * size) bytes))

-- when a slot is by chance
module _ (sum : List ℕ → ℕ) (size page : ℕ) (slot : Slot) (file : File) (bytes here : List ℕ) (same : here ≡ page_at size page bytes)
    (long : length here ≡ size)
  where
    pub chance-none : false ≡ verifies sum (length here) slot here → false ≡ is_chance_slot sum size file bytes page slot
    unfolding is_chance_slot
    chance-none not_there =
        sym (and_left _ (not (was_written size page slot (page_at size page bytes) file.base file.changes))
        (sym (not_there ∙ ap (λ n. verifies sum n slot here) long ∙ ap (verifies sum size slot) same)))

    pub chance-some : true ≡ verifies sum (length here) slot here → (is : Bool) → is ≡ was_written (length here) page slot here file.base file.changes
        → not is ≡ is_chance_slot sum size file bytes page slot
    unfolding is_chance_slot
    chance-some there is said =
        let written : is ≡ was_written size page slot (page_at size page bytes) file.base file.changes =
        said ∙ ap (λ n. was_written n page slot here file.base file.changes) long ∙ ap (λ l. was_written size page slot l file.base file.changes) same in
        ap not written
        ∙ ap (λ b. b && not (was_written size page slot (page_at size page bytes) file.base file.changes))
        (there ∙ ap (λ n. verifies sum n slot here) long ∙ ap (verifies sum size slot) same)
