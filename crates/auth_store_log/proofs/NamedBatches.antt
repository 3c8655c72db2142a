-- A batch and the log before it have the keys that the whole log has at their locations.
use Rattle.std.proofs.Common.{◌≡◌, ℕ, zero, suc, ◌+◌, ◌<◌, take, List, [], ◌∷◌, ◌++◌, map, length, Option, None, Some}
use Rattle.std.proofs.Common.{slice_get, refl, ap, sym, ◌∙◌, subst, arith}
use Rattle.std.proofs.lemmas.List.{take-map}
use Rattle.state_ops.specs.Operation.{Operation}
use Rattle.auth_store_parts.specs.Ranked.{AreNamed}

get-take : {A : Type 0} (xs : List A) (n i : ℕ) (x : A) → slice_get (take n xs) i ≡ Some x → slice_get xs i ≡ Some x
get-take [] zero i x is = is
get-take [] (suc n) i x is = is
get-take (y ∷ xs) zero i x is = absurd (cc)
get-take (y ∷ xs) (suc n) zero x is = is
get-take (y ∷ xs) (suc n) (suc i) x is = get-take xs n i x is

-- what a list begins with stands there
get-begins : {A : Type 0} (xs ys : List A) (i : ℕ) (x : A) → slice_get xs i ≡ Some x → slice_get (xs ++ ys) i ≡ Some x
get-begins [] ys i x is = absurd (cc)
get-begins (y ∷ xs) ys zero x is = is
get-begins (y ∷ xs) ys (suc i) x is = get-begins xs ys i x is

-- and what stands behind
get-behind : {A : Type 0} (xs ys : List A) (i : ℕ) → slice_get (xs ++ ys) (length xs + i) ≡ slice_get ys i
get-behind [] ys i = ap (slice_get ys) (from_start i)
  where
    from_start : (i : ℕ) → 0 + i ≡ i
    from_start i = omega arith
get-behind (x ∷ xs) ys i = ap (slice_get (x ∷ xs ++ ys)) (one_more (length xs) i) ∙ get-behind xs ys i
  where
    one_more : (n i : ℕ) → suc n + i ≡ suc (n + i)
    one_more n i = omega arith

-- the operations that the log begins with
pub named_front : {A : Type 0} (meaning : A → Operation) (names : List (Option (List ℕ))) (n : ℕ) (all : List A)
    → AreNamed names 0 (map meaning all) → AreNamed names 0 (map meaning (take n all))
named_front meaning names n all are = λ index operation key there said.
    are index operation key (get-take (map meaning all) n index operation
    (ap (λ l. slice_get l index) (take-map meaning n all) ∙ there)) said

-- a batch behind a log, with others behind it
pub named_batch : (names : List (Option (List ℕ))) (said log batch later : List Operation) (start : ℕ)
    → AreNamed names 0 said → said ≡ log ++ (batch ++ later) → start ≡ length log → AreNamed names start batch
named_batch names said log batch later start are is at = λ index operation key there named.
    let inside : slice_get said (length log + index) ≡ Some operation =
    ap (λ l. slice_get l (length log + index)) is ∙ get-behind log (batch ++ later) index
    ∙ get-begins batch later index operation there in
    let place : start + index ≡ 0 + (length log + index) = omega (arith, at) in
    ap (slice_get names) place ∙ are (length log + index) operation key inside named
