-- What the code of a walk finds, in the words of the walk.
use Rattle.std.proofs.Common.{◌≡◌, ℕ, zero, suc, ◌+◌, ◌-◌, ◌<◌, add-one, drop, Bool, true, false, List, [], ◌∷◌, map}
use Rattle.std.proofs.Common.{length, Option, None, Some, option_map, slice_get, slice_index_or, ◌≤◌, refl, ap, sym}
use Rattle.std.proofs.Common.{◌∙◌, subst, arith}
use Rattle.std.specs.Prelude.{is_some, if◌then◌else◌, unwrap_or, MatchOption}
use Rattle.std.specs.Ordering.{is_lt}
use Rattle.state_ops.specs.declared.Operation as code
use Rattle.state_ops.specs.Operation.{Operation, Code, meaning_of, delete, update, commit_floor, ordered}
use Rattle.auth_store_parts.specs.Map.{Map, key_order, value_at, entry_of}
use Rattle.auth_store_parts.specs.History.{active_location, active_update, update_fields}
use Rattle.auth_store_parts.specs.Places.{places_of}
use Rattle.auth_store_parts.specs.Chains.{Pointer, behind, first_by, first_after, over_delete, over_update}
use Rattle.auth_store_parts.specs.Chains.{over_deletes, up_to_update, walk, deletes_in_front}
use Rattle.auth_store_parts.specs.Laws.Places.{value_at-places_of, place_found}

pub none_case : {X : Type 0} (A : Type 0) (B : X → Type 0) (o : Option X) → MatchOption o A B → o ≡ None → A
none_case A B None match is = match
none_case A B (Some x) match is = absurd (cc)

pub some_case : {X : Type 0} (A : Type 0) (B : X → Type 0) (o : Option X) (x : X) → MatchOption o A B → o ≡ Some x → B x
some_case A B None x match is = absurd (cc)
some_case A B (Some y) x match is = subst B (ap (λ (o : Option _). unwrap_or o x) is) match

-- the last operation of a batch
pub first_after-last : {A : Type 0} (meaning : A → Operation) (first : Pointer) (xs : List A) (x : A)
    → slice_get xs (length xs - 1) ≡ Some x → first_after first (map meaning xs) ≡ first_by first (meaning x)
first_after-last meaning first [] x is = absurd (cc)
first_after-last meaning first (y ∷ []) x is = ap (λ (o : Option _). first_by first (meaning (unwrap_or o y))) is
first_after-last meaning first (y ∷ z ∷ xs) x is =
    let at : length (y ∷ z ∷ xs) - 1 ≡ suc (length (z ∷ xs) - 1) = omega arith in
    first_after-last meaning first (z ∷ xs) x (sym (ap (slice_get (y ∷ z ∷ xs)) at) ∙ is)

stands : {A : Type 0} (key : A → List ℕ) (o : Option A) (b : Bool) (n : List ℕ)
    → option_map key o ≡ (if b then Some n else None) → is_some o ≡ b
stands key None true n is = absurd (cc)
stands key None false n is = refl
stands key (Some x) true n is = refl
stands key (Some x) false n is = absurd (cc)

-- what an update at the end says of the first key, by whether its next key stands behind it
pub first_by-update : {A : Type 0} (key : A → List ℕ) (o : Option A) (k v n : List ℕ) (first : Pointer) (b : Bool)
    → option_map key o ≡ behind k n → is_some o ≡ b
    → first_by first (update (ordered k v n)) ≡ (if b then first else Some n)
first_by-update key o k v n first b is some =
    ap (λ c. if c then first else Some n) (sym (stands key o (is_lt (key_order k n)) n is) ∙ some)

-- a key without a place has no update that counts
pub none_placed : (q : List ℕ) (log : List Operation) (places : Map) → places ≡ places_of log → None ≡ value_at places q
    → None ≡ active_update q log
none_placed q log places are none =
    none_there (slice_get log (active_location q log)) (none ∙ ap (λ p. value_at p q) are ∙ value_at-places_of q log)
  where
    none_there : (there : Option Operation) → None ≡ option_map (λ _. active_location q log ∷ []) there
        → None ≡ update_fields there
    none_there None is = refl
    none_there (Some op) is = absurd (cc)

pub get-map : {A : Type 0} (meaning : A → Operation) (xs : List A) (n : ℕ)
    → slice_get (map meaning xs) n ≡ option_map meaning (slice_get xs n)
get-map meaning [] n = refl
get-map meaning (x ∷ xs) zero = refl
get-map meaning (x ∷ xs) (suc n) = get-map meaning xs n

-- the update that counts stands at the place
pub some_placed : {A : Type 0} (meaning : A → Operation) (q : List ℕ) (log : List A) (places : Map) (place : ℕ)
    → places ≡ places_of (map meaning log) → Some (place ∷ []) ≡ value_at places q
    → active_update q (map meaning log) ≡ update_fields (option_map meaning (slice_get log place))
some_placed meaning q log places place are found =
    let at = place_found q (map meaning log) place (sym (found ∙ ap (λ p. value_at p q) are)) in
    ap (λ n. update_fields (slice_get (map meaning log) n)) at ∙ ap update_fields (get-map meaning log place)

pub get_at : {A : Type 0} (xs : List A) (n : ℕ) (x : A) → n < length xs → x ≡ slice_index_or xs n x
    → slice_get xs n ≡ Some x
get_at [] n x within is = absurd (omega (arith, within))
get_at (y ∷ xs) zero x within is = ap (λ z. Some z) (sym is)
get_at (y ∷ xs) (suc n) x within is = get_at xs n x (omega (arith, within)) is

pub get_past : {A : Type 0} (xs : List A) (n : ℕ) → length xs ≤ n → slice_get xs n ≡ None
get_past [] n past = refl
get_past (y ∷ xs) zero past = absurd (omega (arith, past))
get_past (y ∷ xs) (suc n) past = get_past xs n (omega (arith, past))

-- what stands at the place that a key has
module _ {A : Type 0} (meaning : A → Operation) (q : List ℕ) (log : List A) (places : Map) (place : ℕ)
    (are : places ≡ places_of (map meaning log)) (found : Some (place ∷ []) ≡ value_at places q) where
  pub placed_at : (operation : A) → place < length log → operation ≡ slice_index_or log place operation
      → update_fields (Some (meaning operation)) ≡ active_update q (map meaning log)
  placed_at operation within is =
      sym (some_placed meaning q log places place are found
      ∙ ap (λ o. update_fields (option_map meaning o)) (get_at log place operation within is))

  pub placed_past : length log ≤ place → None ≡ active_update q (map meaning log)
  placed_past past =
      sym (some_placed meaning q log places place are found
      ∙ ap (λ o. update_fields (option_map meaning o)) (get_past log place past))

-- what is left from an element on
pub left_at : {A : Type 0} (meaning : A → Operation) (xs : List A) (i : ℕ) (x : A) → i < length xs
    → x ≡ slice_index_or xs i x → map meaning (drop i xs) ≡ meaning x ∷ map meaning (drop (i + 1) xs)
left_at meaning xs i x within is = rw add-one (at xs i within is)
  where
    at : (xs : List _) (i : ℕ) → i < length xs → x ≡ slice_index_or xs i x
        → map meaning (drop i xs) ≡ meaning x ∷ map meaning (drop (suc i) xs)
    at [] i within is = absurd (omega (arith, within))
    at (y ∷ xs) zero within is = ap (λ z. meaning z ∷ map meaning xs) (sym is)
    at (y ∷ xs) (suc i) within is = at xs i (omega (arith, within)) is

-- what is no delete in the code says none
module _ {F K V A B C D E G H : Type 0} (key : K → List ℕ) (value : V → List ℕ) (old : Map) (first_old first_new : Pointer)
    (p q : Pointer) (later : List Operation) where
  pub over_no_delete : (operation : Code F K V A B C D E G H) → ((k : K) → operation ≡ code.Operation.Delete k → ⊥)
      → over_deletes old first_old first_new (meaning_of key value operation ∷ later) p q ≡ false
  over_no_delete (code.Operation.Delete k) other = absurd (other k refl)
  over_no_delete (code.Operation.Update u) other = refl
  over_no_delete (code.Operation.CommitFloor metadata floor) other = refl

  pub below_no_delete : (k v n : List ℕ) (go : List Operation → Pointer → Pointer → Bool)
      → (operation : Code F K V A B C D E G H) → ((k : K) → operation ≡ code.Operation.Delete k → ⊥)
      → up_to_update old first_new k v n go (meaning_of key value operation ∷ later) p q ≡ false
  below_no_delete k v n go (code.Operation.Delete l) other = absurd (other l refl)
  below_no_delete k v n go (code.Operation.Update u) other = refl
  below_no_delete k v n go (code.Operation.CommitFloor metadata floor) other = refl

-- the walk up to an update, where a delete comes first
pub below_delete : (old : Map) (first_new : Pointer) (k v n : List ℕ) (go : List Operation → Pointer → Pointer → Bool)
    (l : List ℕ) (later : List Operation) (p q : Pointer) (b : Bool) → is_lt (key_order l k) ≡ b
    → up_to_update old first_new k v n go (delete l ∷ later) p q
    ≡ (if b then over_delete (entry_of old l) l (up_to_update old first_new k v n go later) p q
    else over_update first_new (entry_of old k) k v n (go (delete l ∷ later)) p q)
below_delete old first_new k v n go l later p q b is =
    ap (λ c. if c then over_delete (entry_of old l) l (up_to_update old first_new k v n go later) p q
    else over_update first_new (entry_of old k) k v n (go (delete l ∷ later)) p q) is

pub deletes-within : (log : List Operation) → deletes_in_front log ≤ length log
deletes-within [] = omega arith
deletes-within (delete k ∷ later) = omega (arith, deletes-within later)
deletes-within (update (ordered k v n) ∷ later) = omega arith
deletes-within (commit_floor m f ∷ later) = omega arith

module _ {F K V A B C D E G H : Type 0} (key : K → List ℕ) (value : V → List ℕ) (old : Map) (first_old first_new : Pointer)
    (p q : Pointer) (later deletes : List Operation) where
  -- what is no update in the code says none
  pub walk_no_update : (operation : Code F K V A B C D E G H)
      → ((fields : _) → operation ≡ code.Operation.Update fields → ⊥)
      → walk old first_old first_new (meaning_of key value operation ∷ later) deletes p q ≡ false
  walk_no_update (code.Operation.Delete l) other = refl
  walk_no_update (code.Operation.Update u) other = absurd (other u refl)
  walk_no_update (code.Operation.CommitFloor metadata floor) other = refl
