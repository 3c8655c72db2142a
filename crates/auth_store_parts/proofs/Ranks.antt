-- A table of ranked keys with their places: how its keys grow, and how its places are those of a map.
use Rattle.std.proofs.Common.{◌≡◌, ℕ, zero, suc, Bool, true, false, T, cond, ◌&&◌, List, [], ◌∷◌, ◌++◌, map, length}
use Rattle.std.proofs.Common.{append_assoc, Option, None, Some, option_map, slice_get, ◌⊎◌, refl, ap, sym, ◌∙◌, subst}
use Rattle.std.proofs.Common.{⊎_elim, arith}
use Rattle.std.proofs.Math.ListN.{set}
use Rattle.std.specs.List.{zip, AllByRecursion}
use Rattle.std.specs.declared.cmp.Ordering.{Ordering}
use Rattle.std.specs.declared.cmp.Ordering.TheVariants.{Less, Equal, Greater}
use Rattle.std.specs.Ordering.{is_lt, is_eq, ordering_reverse}
use Rattle.std.specs.FinMap.Entries.{below_all, same_entries}
use Rattle.std.proofs.lemmas.Bool.{cases_Bool}
use Rattle.std.proofs.lemmas.Cmp.{nat_list_cmp_total}
use Rattle.std.proofs.lemmas.Map.Lookups.{exact_bytes}
use Rattle.auth_store_parts.specs.Map.{Map, state_of, key_order, value_at}
use Rattle.auth_store_parts.specs.History.{IsState}
use Rattle.auth_store_parts.specs.Ranked.{place_at, places_at, AreAscending, last_key, with_place}
use Rattle.auth_store_parts.specs.Laws.Lookups.{same, same_self, exact, value_at-find, IsState-with_entry}
use Rattle.auth_store_parts.specs.Laws.Lookups.{IsState-without_key, value_at-with_entry, value_at-without_key}

abbrev Place : Type 0
Place = Option (List ℕ)

-- keys as a state, all with nothing
abbrev bare : List (List ℕ) → Map
bare keys = map (λ key. (key, [])) keys

abbrev place_of : Option ℕ → Place
place_of slot = option_map (λ place. place ∷ []) slot

both : (a b : Bool) → T a → T b → T (a && b)
both true b p q = q
both false b p q = p

first : (a b : Bool) → T (a && b) → T a
first true b p = tt
first false b p = p

second : (a b : Bool) → T (a && b) → T b
second true b p = p
second false b p = absurd p

apart : (o : Ordering) → T (is_lt o) → is_eq o ≡ false
apart Less e = refl
apart Equal e = absurd e
apart Greater e = absurd e

less : (o : Ordering) → T (is_lt o) → o ≡ Less
less Less e = refl
less Equal e = absurd e
less Greater e = absurd e

-- a key below all keys is below that at each rank
below_each : (x : List ℕ) (keys : List (List ℕ)) (r : ℕ) (k : List ℕ) → T (below_all key_order x (bare keys))
    → slice_get keys r ≡ Some k → T (is_lt (key_order x k))
below_each x [] r k below at = absurd (cc)
below_each x (key ∷ keys) zero k below at =
    subst (λ (o : Option (List ℕ)). T (elim o [ Some l ↦ is_lt (key_order x l) | None ↦ true ])) at
    (first (is_lt (key_order x key)) _ below)
below_each x (key ∷ keys) (suc r) k below at = below_each x keys r k (second (is_lt (key_order x key)) _ below) at

-- the place of the key among keys with their slots
abbrev slot_of : List (List ℕ) → List (Option ℕ) → List ℕ → Place
slot_of [] slots q = None
slot_of (key ∷ keys) [] q = None
slot_of (key ∷ keys) (slot ∷ slots) q = cond (same q key) (place_of slot) (slot_of keys slots q)

below_places : (x : List ℕ) (keys : List (List ℕ)) (slots : List (Option ℕ)) → T (below_all key_order x (bare keys))
    → T (below_all key_order x (places_at keys slots))
below_places x [] slots below = tt
below_places x (key ∷ keys) [] below = tt
below_places x (key ∷ keys) (None ∷ slots) below = below_places x keys slots (second (is_lt (key_order x key)) _ below)
below_places x (key ∷ keys) (Some place ∷ slots) below =
    both _ _ (first (is_lt (key_order x key)) _ below)
    (below_places x keys slots (second (is_lt (key_order x key)) _ below))

-- places are a state
pub IsState-places_at : (keys : List (List ℕ)) (slots : List (Option ℕ)) → AreAscending keys
    → IsState (places_at keys slots)
IsState-places_at [] slots up = tt
IsState-places_at (key ∷ keys) [] up = tt
IsState-places_at (key ∷ keys) (None ∷ slots) up =
    IsState-places_at keys slots (second (below_all key_order key (bare keys)) _ up)
IsState-places_at (key ∷ keys) (Some place ∷ slots) up =
    both _ _ (below_places key keys slots (first (below_all key_order key (bare keys)) _ up))
    (IsState-places_at keys slots (second (below_all key_order key (bare keys)) _ up))

slot_below : (x : List ℕ) (keys : List (List ℕ)) (slots : List (Option ℕ)) → T (below_all key_order x (bare keys))
    → slot_of keys slots x ≡ None
slot_below x [] slots below = refl
slot_below x (key ∷ keys) [] below = refl
slot_below x (key ∷ keys) (slot ∷ slots) below =
    ap (λ b. cond b (place_of slot) (slot_of keys slots x)) (apart _ (first (is_lt (key_order x key)) _ below))
    ∙ slot_below x keys slots (second (is_lt (key_order x key)) _ below)

value_at-places_at : (keys : List (List ℕ)) (slots : List (Option ℕ)) (q : List ℕ) → AreAscending keys
    → value_at (places_at keys slots) q ≡ slot_of keys slots q
value_at-places_at [] slots q up = refl
value_at-places_at (key ∷ keys) [] q up = refl
value_at-places_at (key ∷ keys) (None ∷ slots) q up =
    value_at-places_at keys slots q (second (below_all key_order key (bare keys)) _ up)
    ∙ ⊎_elim
    (λ here. ap (slot_of keys slots) (exact q key here)
    ∙ (slot_below key keys slots (first (below_all key_order key (bare keys)) _ up)
    ∙ sym (ap (λ b. cond b None (slot_of keys slots q)) here)))
    (λ away. sym (ap (λ b. cond b None (slot_of keys slots q)) away))
    (cases_Bool (same q key))
value_at-places_at (key ∷ keys) (Some place ∷ slots) q up =
    ap (λ r. cond (same q key) (Some (place ∷ [])) r)
    (value_at-places_at keys slots q (second (below_all key_order key (bare keys)) _ up))

slot_at : (keys : List (List ℕ)) (slots : List (Option ℕ)) (r : ℕ) (k : List ℕ) (slot : Option ℕ)
    → AreAscending keys → slice_get keys r ≡ Some k → slice_get slots r ≡ Some slot
    → slot_of keys slots k ≡ place_of slot
slot_at [] slots r k slot up at has = absurd (cc)
slot_at (key ∷ keys) [] r k slot up at has = absurd (cc)
slot_at (key ∷ keys) (other ∷ slots) zero k slot up at has =
    let is : key ≡ k = cc in
    let be : other ≡ slot = cc in
    ap (λ b. cond b (place_of other) (slot_of keys slots k)) (ap (same k) is ∙ same_self k) ∙ ap place_of be
slot_at (key ∷ keys) (other ∷ slots) (suc r) k slot up at has =
    ap (λ b. cond b (place_of other) (slot_of keys slots k))
    (differ key k (below_each key keys r k (first (below_all key_order key (bare keys)) _ up) at))
    ∙ slot_at keys slots r k slot (second (below_all key_order key (bare keys)) _ up) at has
  where
    turned : (o : Ordering) → T (is_lt o) → is_eq (ordering_reverse o) ≡ false
    turned Less t = refl
    turned Equal t = absurd t
    turned Greater t = absurd t

    differ : (x k : List ℕ) → T (is_lt (key_order x k)) → same k x ≡ false
    differ x k below = ap is_eq (nat_list_cmp_total.antisymm k x) ∙ turned (key_order x k) below

-- what a key has whose rank is known
pub value_at_rank : (keys : List (List ℕ)) (slots : List (Option ℕ)) (r : ℕ) (k : List ℕ) (slot : Option ℕ)
    → AreAscending keys → slice_get keys r ≡ Some k → slice_get slots r ≡ Some slot
    → place_of slot ≡ value_at (places_at keys slots) k
value_at_rank keys slots r k slot up at has =
    sym (value_at-places_at keys slots k up ∙ slot_at keys slots r k slot up at has)

twice : (b : Bool) (new old rest : Place) → cond b new rest ≡ cond b new (cond b old rest)
twice true new old rest = refl
twice false new old rest = refl

crossed : (a b : Bool) (one other rest : Place) → (a ≡ true → b ≡ true → ⊥)
    → cond a one (cond b other rest) ≡ cond b other (cond a one rest)
crossed true true one other rest never = absurd (never refl refl)
crossed true false one other rest never = refl
crossed false b one other rest never = refl

slot_set : (keys : List (List ℕ)) (slots : List (Option ℕ)) (r : ℕ) (k : List ℕ) (slot : Option ℕ) (q : List ℕ)
    → AreAscending keys → slice_get keys r ≡ Some k → length slots ≡ length keys
    → slot_of keys (set slots r slot) q ≡ cond (same q k) (place_of slot) (slot_of keys slots q)
slot_set [] slots r k slot q up at long = absurd (cc)
slot_set (key ∷ keys) [] r k slot q up at long = absurd (omega arith)
slot_set (key ∷ keys) (other ∷ slots) zero k slot q up at long =
    let is : key ≡ k = cc in
    ap (λ x. cond (same q x) (place_of slot) (slot_of keys slots q)) is
    ∙ (twice (same q k) (place_of slot) (place_of other) (slot_of keys slots q)
    ∙ ap (λ x. cond (same q k) (place_of slot) (cond (same q x) (place_of other) (slot_of keys slots q))) (sym is))
slot_set (key ∷ keys) (other ∷ slots) (suc r) k slot q up at long =
    ap (λ p. cond (same q key) (place_of other) p)
    (slot_set keys slots r k slot q (second (below_all key_order key (bare keys)) _ up) at (omega arith))
    ∙ crossed (same q key) (same q k) (place_of other) (place_of slot) (slot_of keys slots q)
    (λ here there. never (apart _ (below_each key keys r k (first (below_all key_order key (bare keys)) _ up) at))
    (exact q key here) there)
  where
    never : same key k ≡ false → q ≡ key → same q k ≡ true → ⊥
    never differ is there = let both : same key k ≡ true = ap (λ x. same x k) (sym is) ∙ there in cc

value_at-with_place : (places : Map) (k : List ℕ) (slot : Option ℕ) (q : List ℕ) → IsState places
    → value_at (with_place places k slot) q ≡ cond (same q k) (place_of slot) (value_at places q)
value_at-with_place places k None q is = value_at-without_key places k q is
value_at-with_place places k (Some place) q is = value_at-with_entry places k (place ∷ []) q

IsState-with_place : (places : Map) (k : List ℕ) (slot : Option ℕ) → IsState places → IsState (with_place places k slot)
IsState-with_place places k None is = IsState-without_key places k is
IsState-with_place places k (Some place) is = IsState-with_entry places k (place ∷ []) is

-- a slot that is written at a key's rank gives the key its place
pub places_at-set : (keys : List (List ℕ)) (slots : List (Option ℕ)) (r : ℕ) (k : List ℕ) (slot : Option ℕ)
    → AreAscending keys → slice_get keys r ≡ Some k → length slots ≡ length keys
    → places_at keys (set slots r slot) ≡ with_place (places_at keys slots) k slot
places_at-set keys slots r k slot up at long =
    let old : Map = places_at keys slots in
    let is : IsState old = IsState-places_at keys slots up in
    let one : Map = places_at keys (set slots r slot) in
    let other : Map = with_place old k slot in
    same_entries key_order nat_list_cmp_total exact_bytes one other (IsState-places_at keys (set slots r slot) up)
    (IsState-with_place old k slot is)
    (λ q. sym (value_at-find q one)
    ∙ (value_at-places_at keys (set slots r slot) q up
    ∙ (slot_set keys slots r k slot q up at long
    ∙ (ap (λ p. cond (same q k) (place_of slot) p) (sym (value_at-places_at keys slots q up))
    ∙ (sym (value_at-with_place old k slot q is) ∙ value_at-find q other)))))

-- keys that all have no place, or a copy of none
pub places_at-unset : (C : Option ℕ → Type 0) (keys : List (List ℕ)) (slots : List (Option ℕ))
    → AllByRecursion (λ slot. (slot ≡ None) ⊎ C slot) slots → ((place : ℕ) → C (Some place) → ⊥)
    → places_at keys slots ≡ []
places_at-unset C [] slots all never = refl
places_at-unset C (key ∷ keys) [] all never = refl
places_at-unset C (key ∷ keys) (None ∷ slots) all never = places_at-unset C keys slots all.1 never
places_at-unset C (key ∷ keys) (Some place ∷ slots) all never =
    absurd (⊎_elim (λ none. set none) (never place) all.0)
  where
    set : {A : Type 0} {x : A} → Some x ≡ None → ⊥
    set is = cc

below_more : (x : List ℕ) (keys : List (List ℕ)) (k : List ℕ) → T (below_all key_order x (bare keys))
    → T (is_lt (key_order x k)) → T (below_all key_order x (bare (keys ++ k ∷ [])))
below_more x [] k below next = both _ _ next tt
below_more x (key ∷ keys) k below next =
    both _ _ (first (is_lt (key_order x key)) _ below)
    (below_more x keys k (second (is_lt (key_order x key)) _ below) next)

passes : (x y z : List ℕ) → T (is_lt (key_order x y)) → T (is_lt (key_order y z)) → T (is_lt (key_order x z))
passes x y z one other =
    subst (λ o. T (is_lt o)) (sym (nat_list_cmp_total.trans x y z (less _ one) (less _ other))) tt

-- where the last key is below another, all are
below_last : (keys : List (List ℕ)) (last k : List ℕ) → AreAscending keys → last_key keys ≡ Some last
    → T (is_lt (key_order last k)) → (r : ℕ) (l : List ℕ) → slice_get keys r ≡ Some l → T (is_lt (key_order l k))
below_last [] last k up is next r l at = absurd (cc)
below_last (x ∷ []) last k up is next zero l at =
    let e : last ≡ l = cc in subst (λ y. T (is_lt (key_order y k))) e next
below_last (x ∷ []) last k up is next (suc r) l at = absurd (cc)
below_last (x ∷ y ∷ keys) last k up is next zero l at =
    let e : x ≡ l = cc in
    subst (λ z. T (is_lt (key_order z k))) e (passes x y k (first (is_lt (key_order x y)) _ (first _ _ up))
    (below_last (y ∷ keys) last k (second (below_all key_order x (bare (y ∷ keys))) _ up) is next zero y refl))
below_last (x ∷ y ∷ keys) last k up is next (suc r) l at =
    below_last (y ∷ keys) last k (second (below_all key_order x (bare (y ∷ keys))) _ up) is next r l at

ascending_push : (keys : List (List ℕ)) (k : List ℕ) → AreAscending keys
    → ((r : ℕ) (l : List ℕ) → slice_get keys r ≡ Some l → T (is_lt (key_order l k)))
    → AreAscending (keys ++ k ∷ [])
ascending_push [] k up below = tt
ascending_push (x ∷ keys) k up below =
    both _ _ (below_more x keys k (first (below_all key_order x (bare keys)) _ up) (below zero x refl))
    (ascending_push keys k (second (below_all key_order x (bare keys)) _ up) (λ r l at. below (suc r) l at))

-- a key above the last one comes behind it
pub AreAscending-push : (keys : List (List ℕ)) (k : List ℕ) → AreAscending keys
    → ((last : List ℕ) → last_key keys ≡ Some last → T (is_lt (key_order last k)))
    → AreAscending (keys ++ k ∷ [])
AreAscending-push keys k up next = by (last_key keys) refl
  where
    empty : (xs : List (List ℕ)) → last_key xs ≡ None → xs ≡ []
    empty [] none = refl
    empty (x ∷ []) none = absurd (cc)
    empty (x ∷ y ∷ xs) none = let e : y ∷ xs ≡ [] = empty (y ∷ xs) none in absurd (cc)

    by : (o : Option (List ℕ)) → last_key keys ≡ o → AreAscending (keys ++ k ∷ [])
    by None none = subst (λ l. AreAscending (l ++ k ∷ [])) (sym (empty keys none)) tt
    by (Some last) is = ascending_push keys k up (below_last keys last k up is (next last is))

pub last_key-push : (keys : List (List ℕ)) (k : List ℕ) → last_key (keys ++ k ∷ []) ≡ Some k
last_key-push [] k = refl
last_key-push (x ∷ []) k = refl
last_key-push (x ∷ y ∷ keys) k = last_key-push (y ∷ keys) k

pub get_pushed : {A : Type 0} (xs : List A) (x : A) (r : ℕ) (y : A) → slice_get xs r ≡ Some y
    → slice_get (xs ++ x ∷ []) r ≡ Some y
get_pushed [] x r y at = absurd (cc)
get_pushed (z ∷ xs) x zero y at = at
get_pushed (z ∷ xs) x (suc r) y at = get_pushed xs x r y at

-- keys of which neither is below the other are one
pub one_key : (k l : List ℕ) → is_lt (key_order k l) ≡ false → is_lt (key_order l k) ≡ false → k ≡ l
one_key k l one other = by (key_order k l) refl
  where
    by : (o : Ordering) → key_order k l ≡ o → k ≡ l
    by Less is = let e : true ≡ false = ap is_lt (sym is) ∙ one in absurd (cc)
    by Equal is = exact_bytes k l is
    by Greater is =
        let e : true ≡ false = ap (λ o. is_lt (ordering_reverse o)) (sym is)
        ∙ (ap is_lt (sym (nat_list_cmp_total.antisymm l k)) ∙ other) in absurd (cc)

-- keys with their slots, as places
abbrev pub entries_of : {K : Type 0} → (K → List ℕ) → List (K × Option ℕ) → Map
entries_of key [] = []
entries_of key (e ∷ es) = place_at (key e.0) e.1 ++ entries_of key es

pub entries_of-zip : {K : Type 0} (key : K → List ℕ) (keys : List K) (slots : List (Option ℕ))
    → entries_of key (zip keys slots) ≡ places_at (map key keys) slots
entries_of-zip key [] slots = refl
entries_of-zip key (k ∷ keys) [] = refl
entries_of-zip key (k ∷ keys) (None ∷ slots) = entries_of-zip key keys slots
entries_of-zip key (k ∷ keys) (Some place ∷ slots) = ap (λ l. (key k, place ∷ []) ∷ l) (entries_of-zip key keys slots)

pub append_nil : {A : Type 0} (xs : List A) → xs ++ [] ≡ xs
append_nil [] = refl
append_nil (x ∷ xs) = ap (λ l. x ∷ l) (append_nil xs)

pub entries_of-push : {K : Type 0} (key : K → List ℕ) (es : List (K × Option ℕ)) (e : K × Option ℕ)
    → entries_of key (es ++ e ∷ []) ≡ entries_of key es ++ place_at (key e.0) e.1
entries_of-push key [] e = append_nil (place_at (key e.0) e.1)
entries_of-push key (d ∷ es) e =
    ap (λ l. place_at (key d.0) d.1 ++ l) (entries_of-push key es e)
    ∙ sym (append_assoc (place_at (key d.0) d.1) (entries_of key es) (place_at (key e.0) e.1))

pub state_of-push : {K : Type 0} (key : K → List ℕ) (es : List (K × ℕ)) (e : K × ℕ)
    → state_of key (λ n. n ∷ []) (es ++ e ∷ []) ≡ state_of key (λ n. n ∷ []) es ++ (key e.0, e.1 ∷ []) ∷ []
state_of-push key [] e = refl
state_of-push key (d ∷ es) e = ap (λ l. (key d.0, d.1 ∷ []) ∷ l) (state_of-push key es e)
