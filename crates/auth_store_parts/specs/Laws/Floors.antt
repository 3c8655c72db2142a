-- The floor of a log never falls.
use Rattle.std.proofs.Common.{◌≡◌, ℕ, zero, suc, ◌+◌, ◌≤◌, Bool, Option, Some, slice_get, add-one, true, false, cond}
use Rattle.std.proofs.Common.{not, List, [], ◌∷◌, ◌++◌, drop, length, refl, ap, sym, ◌∙◌, arith, ⊎_elim}
use Rattle.std.specs.Prelude.{◌||◌, unwrap_or}
use Rattle.std.specs.List.{list_any}
use Rattle.std.proofs.lemmas.Bool.{cases_Bool}
use Rattle.state_ops.specs.Operation.{Operation, delete, update, ordered, commit_floor}
use Rattle.auth_store_parts.specs.History.{has_key, is_active_update, inactivity_floor}

any_more : (p : Operation → Bool) (xs ys : List Operation) → list_any p xs ≡ true → list_any p (xs ++ ys) ≡ true
any_more p [] ys some = absurd (cc)
any_more p (x ∷ xs) ys some =
    elim (p x) as (λ b. (b || list_any p xs) ≡ true → (b || list_any p (xs ++ ys)) ≡ true) [
      | true ↦ λ h. refl
      | false ↦ λ h. any_more p xs ys h
    ] some

none_fewer : (p : Operation → Bool) (xs ys : List Operation) → not (list_any p xs) ≡ false
    → not (list_any p (xs ++ ys)) ≡ false
none_fewer p xs ys some = ap not (any_more p xs ys (is_true (list_any p xs) some))
  where
    is_true : (b : Bool) → not b ≡ false → b ≡ true
    is_true true h = refl
    is_true false h = absurd (cc)

-- what counts no more does not count again
never_again : (operation : Operation) (later more : List Operation) → is_active_update operation later ≡ false
    → is_active_update operation (later ++ more) ≡ false
never_again (delete key) later more none = refl
never_again (update (ordered key value next)) later more none = none_fewer (has_key key) later more none
never_again (commit_floor metadata floor) later more none = refl

pub floor_rises : (log more : List Operation) → inactivity_floor log ≤ inactivity_floor (log ++ more)
floor_rises [] more = omega arith
floor_rises (operation ∷ later) more =
    ⊎_elim
    (λ counts. let here : inactivity_floor (operation ∷ later) ≡ 0 =
    ap (λ b. cond b 0 (inactivity_floor later + 1)) counts in omega (arith, here))
    (λ none. let one : inactivity_floor (operation ∷ later) ≡ inactivity_floor later + 1 =
    ap (λ b. cond b 0 (inactivity_floor later + 1)) none in
    let other : inactivity_floor (operation ∷ (later ++ more)) ≡ inactivity_floor (later ++ more) + 1 =
    ap (λ b. cond b 0 (inactivity_floor (later ++ more) + 1)) (never_again operation later more none) in
    omega (arith, one, other, floor_rises later more))
    (cases_Bool (is_active_update operation later))

-- the floor of what is left, where no operation before it counts
pub floor_left : (log : List Operation) (start : ℕ) → start ≤ inactivity_floor log
    → inactivity_floor (drop start log) + start ≡ inactivity_floor log
floor_left log zero within = omega arith
floor_left [] (suc start) within = absurd (omega (arith, within))
floor_left (operation ∷ later) (suc start) within =
    ⊎_elim
    (λ counts. let here : inactivity_floor (operation ∷ later) ≡ 0 =
    ap (λ b. cond b 0 (inactivity_floor later + 1)) counts in absurd (omega (arith, here, within)))
    (λ none. let one : inactivity_floor (operation ∷ later) ≡ inactivity_floor later + 1 =
    ap (λ b. cond b 0 (inactivity_floor later + 1)) none in
    omega (arith, one, floor_left later start (omega (arith, one, within))))
    (cases_Bool (is_active_update operation later))

-- the floor is within the log
pub floor_within : (log : List Operation) → inactivity_floor log ≤ length log
floor_within [] = omega arith
floor_within (operation ∷ later) =
    ⊎_elim
    (λ counts. let here : inactivity_floor (operation ∷ later) ≡ 0 =
    ap (λ b. cond b 0 (inactivity_floor later + 1)) counts in omega (arith, here))
    (λ none. let one : inactivity_floor (operation ∷ later) ≡ inactivity_floor later + 1 =
    ap (λ b. cond b 0 (inactivity_floor later + 1)) none in omega (arith, one, floor_within later))
    (cases_Bool (is_active_update operation later))

-- the operation at a location, and those behind it
stands : (log : List Operation) (location : ℕ) (operation : Operation) → slice_get log location ≡ Some operation
    → drop location log ≡ operation ∷ drop (suc location) log
stands [] location operation there = absurd (cc)
stands (first ∷ later) zero operation there = ap (λ (o : Option Operation). unwrap_or o first ∷ later) there
stands (first ∷ later) (suc location) operation there = stands later location operation there

-- the floor from a location on, where it is not before that
from_there : (log : List Operation) (location : ℕ) (operation : Operation) → slice_get log location ≡ Some operation
    → location ≤ inactivity_floor log
    → cond (is_active_update operation (drop (location + 1) log)) 0 (inactivity_floor (drop (suc location) log) + 1)
    + location ≡ inactivity_floor log
from_there log location operation there before =
    let rest : ℕ = inactivity_floor (drop (suc location) log) + 1 in
    ap (λ n. cond (is_active_update operation (drop n log)) 0 rest + location) (add-one location)
    ∙ ap (λ l. inactivity_floor l + location) (sym (stands log location operation there))
    ∙ floor_left log location before

-- it is there where the operation counts
pub floor_there : (log : List Operation) (location : ℕ) (operation : Operation)
    → slice_get log location ≡ Some operation → location ≤ inactivity_floor log
    → is_active_update operation (drop (location + 1) log) ≡ true
    → location ≡ inactivity_floor log
floor_there log location operation there before counts =
    let rest : ℕ = inactivity_floor (drop (suc location) log) + 1 in
    omega (arith, ap (λ b. cond b 0 rest + location) counts, from_there log location operation there before)

-- and behind it where it does not
pub floor_behind : (log : List Operation) (location : ℕ) (operation : Operation)
    → slice_get log location ≡ Some operation → location ≤ inactivity_floor log
    → is_active_update operation (drop (location + 1) log) ≡ false
    → location + 1 ≤ inactivity_floor log
floor_behind log location operation there before none =
    let rest : ℕ = inactivity_floor (drop (suc location) log) + 1 in
    omega (arith, ap (λ b. cond b 0 rest + location) none, from_there log location operation there before)
