-- Runs of updates, and operations that are taken in parts.
use Rattle.std.proofs.Common.{◌≡◌, ℕ, zero, suc, ◌+◌, ◌≤◌, List, [], ◌∷◌, ◌++◌, map, take, drop, length, get_or}
use Rattle.std.proofs.Common.{drop-cons, append_assoc, refl, ap, sym, ◌∙◌, ◌<◌, add-one, arith}
use Rattle.state_ops.specs.Operation.{Operation, delete, update, ordered, commit_floor}
use Rattle.auth_store_parts.specs.Map.{Map, with_entry}
use Rattle.auth_store_parts.specs.Places.{after_place, placed, updates_in_front, located_key, located_keys}
use Rattle.auth_store_parts.specs.Laws.Many.{with_all}

-- operations may be taken in two parts
pub placed-parts : {A : Type 0} (meaning : A → Operation) (n start : ℕ) (places : Map) (xs : List A)
    → placed (start + n) (placed start places (map meaning (take n xs))) (map meaning (drop n xs))
    ≡ placed start places (map meaning xs)
placed-parts meaning zero start places xs =
    let here : start + 0 ≡ start = omega arith in
    ap (λ n. placed n places (map meaning xs)) here
placed-parts meaning (suc n) start places [] = refl
placed-parts meaning (suc n) start places (x ∷ xs) =
    let next : start + suc n ≡ start + 1 + n = omega arith in
    ap (λ m. placed m (placed (start + 1) (after_place start (meaning x) places) (map meaning (take n xs)))
    (map meaning (drop n xs))) next
    ∙ placed-parts meaning n (start + 1) (after_place start (meaning x) places) xs

-- one more operation's key
pub located_keys-more : {A : Type 0} (meaning : A → Operation) (xs : List A) (start i : ℕ) (x : A)
    (before after : List (List ℕ × List ℕ)) → i < length xs → x ≡ get_or xs i x
    → after ≡ before ++ located_key (start + i) (meaning x)
    → after ++ located_keys (start + (i + 1)) (map meaning (drop (i + 1) xs))
    ≡ before ++ located_keys (start + i) (map meaning (drop i xs))
located_keys-more meaning xs start i x before after within is one =
    let later : List (List ℕ × List ℕ) = located_keys (start + i + 1) (map meaning (drop (suc i) xs)) in
    let next : start + (i + 1) ≡ start + i + 1 = omega arith in
    ap (λ n. after ++ located_keys n (map meaning (drop (i + 1) xs))) next
    ∙ rw (add-one i) (ap (λ l. l ++ later) one
    ∙ (append_assoc before (located_key (start + i) (meaning x)) later
    ∙ (ap (λ y. before ++ (located_key (start + i) (meaning y) ++ later)) is
    ∙ sym (ap (λ l. before ++ located_keys (start + i) (map meaning l)) (drop-cons xs i x within)))))

pub run-within : (log : List Operation) → updates_in_front log ≤ length log
run-within [] = omega arith
run-within (delete k ∷ later) = omega arith
run-within (update (ordered k v n) ∷ later) = omega (arith, run-within later)
run-within (commit_floor m f ∷ later) = omega arith

-- a run of updates is taken by putting in their keys
pub placed-run : (start : ℕ) (places : Map) (log : List Operation)
    → placed start places (take (updates_in_front log) log)
    ≡ with_all places (located_keys start (take (updates_in_front log) log))
placed-run start places [] = refl
placed-run start places (delete k ∷ later) = refl
placed-run start places (update (ordered k v n) ∷ later) =
    rw (add-one (updates_in_front later)) (placed-run (start + 1) (with_entry places k (start ∷ [])) later)
placed-run start places (commit_floor m f ∷ later) = refl
