-- Operations that have their keys at their locations.
use Rattle.std.proofs.Common.{◌≡◌, ℕ, zero, suc, ◌+◌, ◌<◌, take, drop, subst, List, [], ◌∷◌, map, length, Option}
use Rattle.std.proofs.Common.{Some, option_map, slice_get, slice_index_or, refl, ap, sym, ◌∙◌, arith}
use Rattle.std.proofs.lemmas.List.{take-map}
use Rattle.state_ops.specs.Operation.{Operation}
use Rattle.auth_store_parts.specs.Ranked.{named, AreNamed}
use Rattle.auth_store_parts.proofs.ChainCode.{get-map, get_at}

-- the key of one of them
pub named_here : {A : Type 0} (meaning : A → Operation) (names : List (Option (List ℕ))) (start i : ℕ) (xs : List A) (x : A)
    (k : List ℕ) → AreNamed names start (map meaning xs) → i < length xs → x ≡ slice_index_or xs i x
    → named (meaning x) ≡ Some k → slice_get names (start + i) ≡ Some (Some k)
named_here meaning names start i xs x k are within is said =
    are i (meaning x) k (get-map meaning xs i ∙ ap (option_map meaning) (get_at xs i x within is)) said

get-drop : {A : Type 0} (xs : List A) (n i : ℕ) → slice_get (drop n xs) i ≡ slice_get xs (n + i)
get-drop [] zero i = refl
get-drop [] (suc n) i = refl
get-drop (x ∷ xs) zero i = ap (slice_get (x ∷ xs)) (none i)
  where
    none : (i : ℕ) → i ≡ 0 + i
    none i = omega arith
get-drop (x ∷ xs) (suc n) i = get-drop xs n i ∙ ap (slice_get (x ∷ xs)) (one n i)
  where
    one : (n i : ℕ) → suc (n + i) ≡ suc n + i
    one n i = omega arith

-- those that are left
pub named_left : {A : Type 0} (meaning : A → Operation) (names : List (Option (List ℕ))) (start n at : ℕ) (xs : List A)
    → AreNamed names start (map meaning xs) → at ≡ start + n → AreNamed names at (map meaning (drop n xs))
named_left meaning names start n at xs are is = λ index operation key there said.
    let place : start + (n + index) ≡ at + index = omega (arith, is) in
    sym (ap (slice_get names) place)
    ∙ are (n + index) operation key
    (get-map meaning xs (n + index) ∙ ap (option_map meaning) (sym (get-drop xs n index))
    ∙ sym (get-map meaning (drop n xs) index) ∙ there) said

-- those behind some of them
pub named_behind : {A : Type 0} (meaning : A → Operation) (names : List (Option (List ℕ))) (start n at : ℕ) (xs ys : List A)
    → AreNamed names start (map meaning xs) → ys ≡ drop n xs → at ≡ start + n → AreNamed names at (map meaning ys)
named_behind meaning names start n at xs ys are left is =
    subst (λ l. AreNamed names at (map meaning l)) (sym left) (named_left meaning names start n at xs are is)

get-take : {A : Type 0} (xs : List A) (n i : ℕ) (x : A) → slice_get (take n xs) i ≡ Some x → slice_get xs i ≡ Some x
get-take [] zero i x is = is
get-take [] (suc n) i x is = is
get-take (y ∷ xs) zero i x is = absurd (cc)
get-take (y ∷ xs) (suc n) zero x is = is
get-take (y ∷ xs) (suc n) (suc i) x is = get-take xs n i x is

-- the first of them
pub named_front : {A : Type 0} (meaning : A → Operation) (names : List (Option (List ℕ))) (start n at : ℕ) (xs ys : List A)
    → AreNamed names start (map meaning xs) → ys ≡ take n xs → at ≡ start → AreNamed names at (map meaning ys)
named_front meaning names start n at xs ys are front is = λ index operation key there said.
    let inside : slice_get (take n (map meaning xs)) index ≡ Some operation =
    ap (λ l. slice_get l index) (take-map meaning n xs) ∙ ap (λ l. slice_get (map meaning l) index) (sym front) ∙ there in
    ap (λ m. slice_get names (m + index)) is
    ∙ are index operation key (get-take (map meaning xs) n index operation inside) said
