-- A key's place is the location of its active update.
use Rattle.std.proofs.Common.{◌≡◌, ℕ, zero, suc, ◌+◌, ◌≤◌, Bool, true, false, cond, ◌&&◌, not, List, [], ◌∷◌, ◌++◌}
use Rattle.std.proofs.Common.{drop, length, Option, None, Some, option_map, slice_get, ◌⊎◌, inl, inr, refl, ap, sym}
use Rattle.std.proofs.Common.{◌∙◌, ⊎_elim, arith}
use Rattle.std.specs.Prelude.{◌||◌, unwrap_or}
use Rattle.std.specs.List.{list_any}
use native.Mathlib.Numerals.{unary_clauses}
use Rattle.std.proofs.lemmas.Bool.{cases_Bool}
use Rattle.state_ops.specs.Operation.{Operation, delete, update, ordered, commit_floor}
use Rattle.auth_store_parts.specs.Map.{Map, value_at, with_entry, without_key}
use Rattle.auth_store_parts.specs.History.{has_key, is_active, is_active_on, active_location, activity_bits, IsState}
use Rattle.auth_store_parts.specs.Places.{after_place, placed, places_of}
use Rattle.auth_store_parts.specs.Laws.Lookups.{same, same_self, exact, IsState-with_entry, IsState-without_key}
use Rattle.auth_store_parts.specs.Laws.Lookups.{value_at-with_entry, value_at-without_key}

abbrev Place : Type 0
Place = Option (List ℕ)

-- what the operations say of a key's place, the first of which stands at `start`; `found` is what was said before
abbrev said : List ℕ → ℕ → Place → List Operation → Place
said q start found [] = found
said q start found (delete k ∷ later) = said q (start + 1) (cond (same q k) None found) later
said q start found (update (ordered k v n) ∷ later) =
    said q (start + 1) (cond (same q k) (Some (start ∷ [])) found) later
said q start found (commit_floor m f ∷ later) = said q (start + 1) found later

value_at-placed : (q : List ℕ) (start : ℕ) (places : Map) (log : List Operation) → IsState places
    → value_at (placed start places log) q ≡ said q start (value_at places q) log
value_at-placed q start places [] is = refl
value_at-placed q start places (delete k ∷ later) is =
    value_at-placed q (start + 1) (without_key places k) later (IsState-without_key places k is)
    ∙ ap (λ found. said q (start + 1) found later) (value_at-without_key places k q is)
value_at-placed q start places (update (ordered k v n) ∷ later) is =
    value_at-placed q (start + 1) (with_entry places k (start ∷ [])) later (IsState-with_entry places k (start ∷ []) is)
    ∙ ap (λ found. said q (start + 1) found later) (value_at-with_entry places k (start ∷ []) q)
value_at-placed q start places (commit_floor m f ∷ later) is = value_at-placed q (start + 1) places later is

-- the place at this location of some operations, if an operation stands there
abbrev spot : ℕ → ℕ → List Operation → Place
spot start location log = option_map (λ _. (start + location) ∷ []) (slice_get log location)

later_get : (op : Operation) (later : List Operation) (n : ℕ) → slice_get (op ∷ later) (n + 1) ≡ slice_get later n
later_get op later n = simp unary_clauses refl

later_spot : (start : ℕ) (op : Operation) (later : List Operation) (n : ℕ)
    → spot start (n + 1) (op ∷ later) ≡ spot (start + 1) n later
later_spot start op later n =
    let same_place : start + (n + 1) ≡ start + 1 + n = omega arith in
    ap (option_map (λ _. (start + (n + 1)) ∷ [])) (later_get op later n)
    ∙ ap (λ place. option_map (λ _. place ∷ []) (slice_get later n)) same_place

neither : (a b : Bool) → (a || b) ≡ false → (a ≡ false) × (b ≡ false)
neither true b h = absurd (cc)
neither false b h = (refl, h)

-- where no operation is about the key, none is at its location
none_there : (q : List ℕ) (start : ℕ) (log : List Operation) → list_any (has_key q) log ≡ false
    → spot start (active_location q log) log ≡ None
none_there q start [] h = refl
none_there q start (op ∷ later) h =
    let parts = neither (has_key q op) (list_any (has_key q) later) h in
    ap (λ b. spot start (cond (b && is_active op later) 0 (active_location q later + 1)) (op ∷ later)) parts.0
    ∙ (later_spot start op later (active_location q later) ∙ none_there q (start + 1) later parts.1)

dropped : (s any : Bool) (later found : Place) → (any ≡ false → later ≡ None)
    → cond any later (cond s None found) ≡ cond (s || any) later found
dropped true true later found none = refl
dropped true false later found none = sym (none refl)
dropped false true later found none = refl
dropped false false later found none = refl

picked : (s any own : Bool) (later found entry : Place) → (s ≡ true → own ≡ any)
    → cond any later (cond s entry found) ≡ cond (s || any) (cond (s && not own) entry later) found
picked true true own later found entry is = ap (λ b. cond (not b) entry later) (sym (is refl))
picked true false own later found entry is = ap (λ b. cond (not b) entry later) (sym (is refl))
picked false true own later found entry is = refl
picked false false own later found entry is = refl

-- the last operation on a key is its active update, if any
said-active : (q : List ℕ) (start : ℕ) (found : Place) (log : List Operation)
    → said q start found log ≡ cond (list_any (has_key q) log) (spot start (active_location q log) log) found
said-active q start found [] = refl
said-active q start found (delete k ∷ later) =
    let inactive : spot start (cond (same q k && false) 0 (active_location q later + 1)) (delete k ∷ later)
    ≡ spot (start + 1) (active_location q later) later =
    elim (same q k) as (λ b. spot start (cond (b && false) 0 (active_location q later + 1)) (delete k ∷ later)
    ≡ spot (start + 1) (active_location q later) later) [
      | true ↦ later_spot start (delete k) later (active_location q later)
      | false ↦ later_spot start (delete k) later (active_location q later)
    ] in
    said-active q (start + 1) (cond (same q k) None found) later
    ∙ (dropped (same q k) (list_any (has_key q) later) (spot (start + 1) (active_location q later) later) found
    (none_there q (start + 1) later)
    ∙ ap (λ u. cond (same q k || list_any (has_key q) later) u found) (sym inactive))
said-active q start found (update (ordered k v n) ∷ later) =
    let own : Bool = list_any (has_key k) later in
    let here : start + 0 ≡ start = omega arith in
    let counts : spot start (cond (same q k && not own) 0 (active_location q later + 1)) (update (ordered k v n)
    ∷ later)
    ≡ cond (same q k && not own) (Some (start ∷ [])) (spot (start + 1) (active_location q later) later) =
    elim (same q k && not own) as (λ b. spot start (cond b 0 (active_location q later + 1))
    (update (ordered k v n) ∷ later) ≡ cond b (Some (start ∷ [])) (spot (start + 1) (active_location q later) later)) [
      | true ↦ ap (λ place. Some (place ∷ [])) here
      | false ↦ later_spot start (update (ordered k v n)) later (active_location q later)
    ] in
    said-active q (start + 1) (cond (same q k) (Some (start ∷ [])) found) later
    ∙ (picked (same q k) (list_any (has_key q) later) own (spot (start + 1) (active_location q later) later) found
    (Some (start ∷ [])) (λ is. ap (λ x. list_any (has_key x) later) (sym (exact q k is)))
    ∙ ap (λ u. cond (same q k || list_any (has_key q) later) u found) (sym counts))
said-active q start found (commit_floor m f ∷ later) =
    said-active q (start + 1) found later
    ∙ ap (λ u. cond (list_any (has_key q) later) u found)
    (sym (later_spot start (commit_floor m f) later (active_location q later)))

-- a key's place is the location of its active update, if there is one
pub value_at-places_of : (q : List ℕ) (log : List Operation)
    → value_at (places_of log) q ≡ option_map (λ _. active_location q log ∷ []) (slice_get log (active_location q log))
value_at-places_of q log =
    value_at-placed q 0 [] log tt
    ∙ (said-active q 0 None log ∙ (elim (list_any (has_key q) log) as (λ b. list_any (has_key q) log ≡ b
    → cond b (spot 0 (active_location q log) log) None ≡ spot 0 (active_location q log) log) [
      | true ↦ λ _. refl
      | false ↦ λ none. sym (none_there q 0 log none)
    ]) refl
    ∙ ap (λ place. option_map (λ _. place ∷ []) (slice_get log (active_location q log)))
    (start_at (active_location q log)))
  where
    start_at : (n : ℕ) → 0 + n ≡ n
    start_at n = omega arith

pub active_location-within : (q : List ℕ) (log : List Operation) → active_location q log ≤ length log
active_location-within q [] = omega arith
active_location-within q (op ∷ later) =
    let rest : active_location q later ≤ length later = active_location-within q later in
    elim (is_active_on q op later) as (λ b. cond b 0 (active_location q later + 1) ≤ length (op ∷ later)) [
      | true ↦ omega arith
      | false ↦ omega (arith, rest)
    ]

bit_there : (log : List Operation) (location : ℕ) (op : Operation) → slice_get log location ≡ Some op
    → slice_get (activity_bits log) location ≡ Some (is_active op (drop (suc location) log))
bit_there [] location op there = absurd (cc)
bit_there (first ∷ later) zero op there = ap (λ o. Some (is_active (unwrap_or o first) later)) there
bit_there (first ∷ later) (suc location) op there = bit_there later location op there

-- whether an operation is active, at its location
pub bit_at : (log : List Operation) (location : ℕ) (op : Operation) → slice_get log location ≡ Some op
    → slice_get (activity_bits log) location ≡ Some (is_active op (drop (location + 1) log))
bit_at log location op there = bit_there log location op there
    ∙ ap (λ n. Some (is_active op (drop n log))) (one_more location)
  where
    one_more : (n : ℕ) → suc n ≡ n + 1
    one_more n = simp unary_clauses refl

-- an operation about a key is among those where it stands
any_there : (q : List ℕ) (log : List Operation) (location : ℕ) (op : Operation) → slice_get log location ≡ Some op
    → has_key q op ≡ true → list_any (has_key q) log ≡ true
any_there q [] location op there has = absurd (cc)
any_there q (first ∷ later) zero op there has =
    ap (λ o. has_key q (unwrap_or o first) || list_any (has_key q) later) there
    ∙ ap (λ b. b || list_any (has_key q) later) has
any_there q (first ∷ later) (suc location) op there has =
    elim (has_key q first) as (λ b. (b || list_any (has_key q) later) ≡ true) [
      | true ↦ refl
      | false ↦ any_there q later location op there has
    ]

-- an operation before another one on a key is not active on it
passed : (q : List ℕ) (op : Operation) (later : List Operation) → list_any (has_key q) later ≡ true
    → is_active_on q op later ≡ false
passed q (delete k) later any = elim (same q k) as (λ b. (b && false) ≡ false) [ true ↦ refl | false ↦ refl ]
passed q (update (ordered k v n)) later any =
    ⊎_elim
    (λ (here : same q k ≡ true).
    let is : q ≡ k = exact q k here in
    let counts : list_any (has_key k) later ≡ true = ap (λ x. list_any (has_key x) later) (sym is) ∙ any in
    ap (λ b. b && not (list_any (has_key k) later)) here ∙ ap not counts)
    (λ (away : same q k ≡ false). ap (λ b. b && not (list_any (has_key k) later)) away)
    (cases_Bool (same q k))
passed q (commit_floor m f) later any = refl

-- an update is active exactly where its key is located
located : (log : List Operation) (location : ℕ) (k v n : List ℕ)
    → slice_get log location ≡ Some (update (ordered k v n))
    → ((is_active (update (ordered k v n)) (drop (suc location) log) ≡ true) × (active_location k log ≡ location))
    ⊎ ((is_active (update (ordered k v n)) (drop (suc location) log) ≡ false) × (active_location k log ≡ location → ⊥))
located [] location k v n there = absurd (cc)
located (first ∷ later) zero k v n there =
    let is : first ≡ update (ordered k v n) = ap (λ o. unwrap_or o first) there in
    let own : Bool = list_any (has_key k) later in
    let place : active_location k (first ∷ later) ≡ cond (not own) 0 (active_location k later + 1) =
    ap (λ op. cond (is_active_on k op later) 0 (active_location k later + 1)) is
    ∙ ap (λ b. cond (b && not own) 0 (active_location k later + 1)) (same_self k) in
    ⊎_elim
    (λ (any : own ≡ true). inr (
      ap not any,
      λ at. later_than (active_location k later)
          (sym (place ∙ ap (λ b. cond (not b) 0 (active_location k later + 1)) any) ∙ at),
    ))
    (λ (none : own ≡ false). inl (ap not none, place ∙ ap (λ b. cond (not b) 0 (active_location k later + 1)) none))
    (cases_Bool own)
  where
    later_than : (n : ℕ) → n + 1 ≡ 0 → ⊥
    later_than n is = omega (arith, is)
located (first ∷ later) (suc location) k v n there =
    let passes : is_active_on k first later ≡ false = passed k first later
    (any_there k later location (update (ordered k v n)) there (same_self k)) in
    let place : active_location k (first ∷ later) ≡ active_location k later + 1 =
    ap (λ b. cond b 0 (active_location k later + 1)) passes in
    ⊎_elim
    (λ yes. inl (yes.0, place ∙ (ap (λ l. l + 1) yes.1 ∙ one_more location)))
    (λ no. inr (no.0, λ at. no.1 (one_less _ location (sym place ∙ at))))
    (located later location k v n there)
  where
    one_more : (n : ℕ) → n + 1 ≡ suc n
    one_more n = simp unary_clauses refl

    one_less : (a b : ℕ) → a + 1 ≡ suc b → a ≡ b
    one_less a b is = omega (arith, is)

-- an update is active where it stands at its key's location
pub active_where_located : (log : List Operation) (location : ℕ) (k v n : List ℕ)
    → slice_get log location ≡ Some (update (ordered k v n)) → active_location k log ≡ location
    → slice_get (activity_bits log) location ≡ Some true
active_where_located log location k v n there at =
    bit_there log location (update (ordered k v n)) there
    ∙ ⊎_elim (λ yes. ap Some yes.0) (λ no. absurd (no.1 at)) (located log location k v n there)

-- and not active anywhere else
pub inactive_elsewhere : (log : List Operation) (location : ℕ) (k v n : List ℕ)
    → slice_get log location ≡ Some (update (ordered k v n)) → (active_location k log ≡ location → ⊥)
    → slice_get (activity_bits log) location ≡ Some false
inactive_elsewhere log location k v n there not_at =
    bit_there log location (update (ordered k v n)) there
    ∙ ⊎_elim (λ yes. absurd (not_at yes.1)) (λ no. ap Some no.0) (located log location k v n there)

-- a place that is found is the location of the key's active update
pub place_found : (q : List ℕ) (log : List Operation) (place : ℕ) → value_at (places_of log) q ≡ Some (place ∷ [])
    → active_location q log ≡ place
place_found q log place found = of_some (slice_get log (active_location q log))
    (sym (value_at-places_of q log) ∙ found)
  where
    of_some : (there : Option Operation) → option_map (λ _. active_location q log ∷ []) there ≡ Some (place ∷ [])
        → active_location q log ≡ place
    of_some None is = absurd (cc)
    of_some (Some op) is = ap (λ o. first_of (unwrap_or o [])) is
      where
        first_of : List ℕ → ℕ
        first_of [] = 0
        first_of (n ∷ ns) = n

-- where none is found, the key's location is the number of operations
pub place_missing : (q : List ℕ) (log : List Operation) → value_at (places_of log) q ≡ None
    → active_location q log ≡ length log
place_missing q log missing = of_none (slice_get log (active_location q log)) refl
    (sym (value_at-places_of q log) ∙ missing)
  where
    past : (xs : List Operation) (n : ℕ) → slice_get xs n ≡ None → length xs ≤ n
    past [] n is = omega arith
    past (x ∷ xs) zero is = absurd (cc)
    past (x ∷ xs) (suc n) is = let rest : length xs ≤ n = past xs n is in omega (arith, rest)

    of_none : (there : Option Operation) → slice_get log (active_location q log) ≡ there
        → option_map (λ _. active_location q log ∷ []) there ≡ None → active_location q log ≡ length log
    of_none None at is = let behind = past log (active_location q log) at in
        let within = active_location-within q log in omega (arith, behind, within)
    of_none (Some op) at is = absurd (cc)

-- the places of a log that goes on are those of its operations, followed by the others
pub placed-append : (start : ℕ) (places : Map) (one other : List Operation)
    → placed start places (one ++ other) ≡ placed (start + length one) (placed start places one) other
placed-append start places [] other = ap (λ n. placed n places other) (none_more start)
  where
    none_more : (n : ℕ) → n ≡ n + 0
    none_more n = omega arith
placed-append start places (op ∷ one) other =
    placed-append (start + 1) (after_place start op places) one other
    ∙ ap (λ n. placed n (placed (start + 1) (after_place start op places) one) other) (one_more start (length one))
  where
    one_more : (n m : ℕ) → n + 1 + m ≡ n + suc m
    one_more n m = omega arith

pub places_of-append : (one other : List Operation)
    → places_of (one ++ other) ≡ placed (length one) (places_of one) other
places_of-append one other = placed-append 0 [] one other
    ∙ ap (λ n. placed n (places_of one) other) (from_start (length one))
  where
    from_start : (n : ℕ) → 0 + n ≡ n
    from_start n = omega arith

pub length-activity_bits : (log : List Operation) → length (activity_bits log) ≡ length log
length-activity_bits [] = refl
length-activity_bits (op ∷ later) = ap suc (length-activity_bits later)
