-- When the next key of a key changes.
use Rattle.std.proofs.Common.{◌≡◌, ℕ, Bool, true, false, T, cond, ◌&&◌, List, [], ◌∷◌, ◌++◌, Option, None, Some, refl}
use Rattle.std.proofs.Common.{ap, sym, ◌∙◌, subst, ⊎_elim, ◌⊎◌, inl, inr}
use Rattle.std.specs.Prelude.{is_some}
use Rattle.std.proofs.lemmas.Bool.{cases_Bool}
use Rattle.std.proofs.lemmas.Cmp.{nat_list_cmp_total}
use Rattle.std.specs.declared.cmp.Ordering.{Ordering}
use Rattle.std.specs.declared.cmp.Ordering.TheVariants.{Less, Equal, Greater}
use Rattle.std.specs.Ordering.{is_lt, is_eq, ordering_reverse}
use Rattle.std.specs.FinMap.Entries.{below_all}
use Rattle.auth_store_parts.specs.Map.{Map, key_order, value_at, with_entry, above, first_key, next_key}
use Rattle.auth_store_parts.specs.History.{IsState}
use Rattle.auth_store_parts.specs.Laws.Lookups.{same, same_self, exact, IsState-tail, IsState-with_entry}
use Rattle.auth_store_parts.specs.Laws.Lookups.{value_at-with_entry}
use Rattle.auth_store_parts.specs.Laws.Below.{IsBelow, value_at_head, none_below_first}

first : (a b : Bool) → T (a && b) → T a
first true b p = tt
first false b p = p

second : (a b : Bool) → T (a && b) → T b
second true b p = p
second false b p = absurd p

both : (a b : Bool) → T a → T b → T (a && b)
both true b p q = q
both false b p q = p

pub is_true : (b : Bool) → T b → b ≡ true
is_true true t = refl
is_true false t = absurd t

-- keys of which neither is below the other are one
pub one_key : (k l : List ℕ) → (IsBelow k l → ⊥) → (IsBelow l k → ⊥) → k ≡ l
one_key k l under over = of (key_order k l) refl
  where
    turned : (o : Ordering) → o ≡ Greater → T (is_lt (ordering_reverse o))
    turned Less e = absurd (cc)
    turned Equal e = absurd (cc)
    turned Greater e = tt

    of : (o : Ordering) → key_order k l ≡ o → k ≡ l
    of Less e = absurd (under (subst (λ x. T (is_lt x)) (sym e) tt))
    of Equal e = exact k l (ap is_eq e)
    of Greater e =
        absurd (over (subst (λ x. T (is_lt x)) (sym (nat_list_cmp_total.antisymm l k)) (turned (key_order k l) e)))

below_above : (x : List ℕ) (s : Map) (q : List ℕ) → T (below_all key_order x s) → T (below_all key_order x (above s q))
below_above x [] q h = tt
below_above x (e ∷ s) q h =
    elim (is_lt (key_order q e.0)) as (λ b. T (below_all key_order x (cond b (e ∷ above s q) (above s q)))) [
      | true ↦ both _ _ (first _ _ h) (below_above x s q (second (is_lt (key_order x e.0)) _ h))
      | false ↦ below_above x s q (second (is_lt (key_order x e.0)) _ h)
    ]

IsState-above : (s : Map) (q : List ℕ) → IsState s → IsState (above s q)
IsState-above [] q h = tt
IsState-above (e ∷ s) q h =
    elim (is_lt (key_order q e.0)) as (λ b. IsState (cond b (e ∷ above s q) (above s q))) [
      | true ↦ both _ _ (below_above e.0 s q (first _ _ h)) (IsState-above s q (IsState-tail e s h))
      | false ↦ IsState-above s q (IsState-tail e s h)
    ]

-- what is above a key is found there
pub value_at-above : (s : Map) (q k : List ℕ) → IsBelow q k → value_at (above s q) k ≡ value_at s k
value_at-above [] q k up = refl
value_at-above (e ∷ s) q k up =
    ⊎_elim
    (λ yes. ap (λ b. value_at (cond b (e ∷ above s q) (above s q)) k) yes
    ∙ ap (λ r. cond (same k e.0) (Some e.1) r) (value_at-above s q k up))
    (λ no. ap (λ b. value_at (cond b (e ∷ above s q) (above s q)) k) no
    ∙ (value_at-above s q k up
    ∙ ap (λ b. cond b (Some e.1) (value_at s k)) (sym (other (same k e.0) refl no))))
    (cases_Bool (is_lt (key_order q e.0)))
  where
    other : (b : Bool) → same k e.0 ≡ b → is_lt (key_order q e.0) ≡ false → same k e.0 ≡ false
    other true is fails = absurd (false_T (sym fails ∙ is_true _ (subst (IsBelow q) (exact k e.0 is) up)))
      where
        false_T : false ≡ true → ⊥
        false_T e = cc
    other false is fails = is

-- the first of what is above a key is above it
pub first_above : (s : Map) (q : List ℕ) (a : List ℕ × List ℕ) (rest : Map) → above s q ≡ a ∷ rest → IsBelow q a.0
first_above [] q a rest is = absurd (cc)
first_above (e ∷ s) q a rest is =
    ⊎_elim
    (λ yes. let head : e ∷ above s q ≡ a ∷ rest =
    sym (ap (λ b. cond b (e ∷ above s q) (above s q)) yes) ∙ is in
    subst (λ x. T (is_lt (key_order q x.0))) (ap head_of head) (subst T (sym yes) tt))
    (λ no. first_above s q a rest (sym (ap (λ b. cond b (e ∷ above s q) (above s q)) no) ∙ is))
    (cases_Bool (is_lt (key_order q e.0)))
  where
    head_of : Map → List ℕ × List ℕ
    head_of [] = a
    head_of (x ∷ xs) = x

pub found : (o : Option (List ℕ)) → is_some o ≡ true → (v : List ℕ) × (o ≡ Some v)
found None h = absurd (cc)
found (Some v) h = (v, refl)

-- no key of a state that is above this one is below the first of those that are above it
pub none_between : (s : Map) (q k : List ℕ) (a : List ℕ × List ℕ) (rest : Map) → IsState s → above s q ≡ a ∷ rest
    → IsBelow q k → is_some (value_at s k) ≡ true → IsBelow k a.0 → ⊥
none_between s q k a rest h is up there under =
    let at = found (value_at s k) there in
    none_below_first a rest k at.0 (subst IsState is (IsState-above s q h))
    (sym (ap (λ x. value_at x k) is) ∙ (value_at-above s q k up ∙ at.1)) under

pub none_above : (s : Map) (q k : List ℕ) → above s q ≡ [] → IsBelow q k → is_some (value_at s k) ≡ true → ⊥
none_above s q k is up there =
    let at = found (value_at s k) there in
    let gone : None ≡ Some at.0 = ap (λ x. value_at x k) (sym is) ∙ (value_at-above s q k up ∙ at.1) in cc

pub none_first : (s : Map) (k : List ℕ) → IsState s → is_some (value_at s k) ≡ true → IsBelow k (first_key s) → ⊥
none_first [] k h there under = cc
none_first (e ∷ s) k h there under =
    let at = found (value_at (e ∷ s) k) there in none_below_first e s k at.0 h at.1 under

pub next_of : (s : Map) (q : List ℕ) (a : List ℕ × List ℕ) (rest : Map) → above s q ≡ a ∷ rest → next_key s q ≡ a.0
next_of s q a rest is = ap (λ x. first_key (x ++ s)) is

pub next_least : (s : Map) (q : List ℕ) → above s q ≡ [] → next_key s q ≡ first_key s
next_least s q is = ap (λ x. first_key (x ++ s)) is

-- Where the next key that a key had is still there, and the one that it has was there before, they are one.
pub next_stays : (old new : Map) (q : List ℕ) → IsState old → IsState new
    → is_some (value_at new (next_key old q)) ≡ true → is_some (value_at old (next_key new q)) ≡ true
    → next_key old q ≡ next_key new q
next_stays old new q h i still before = of (above old q) (above new q) refl refl
  where
    of : (a b : Map) → above old q ≡ a → above new q ≡ b → next_key old q ≡ next_key new q
    of [] [] none nor =
        let x = next_least old q none in
        let y = next_least new q nor in
        one_key (next_key old q) (next_key new q)
        (λ under. none_first new (next_key old q) i still (subst (IsBelow (next_key old q)) y under))
        (λ under. none_first old (next_key new q) h before (subst (IsBelow (next_key new q)) x under))
    of [] (b ∷ bs) none some =
        let y = next_of new q b bs some in
        absurd (none_above old q (next_key new q) none (subst (IsBelow q) (sym y) (first_above new q b bs some)) before)
    of (a ∷ more) [] some none =
        let x = next_of old q a more some in
        absurd (none_above new q (next_key old q) none
        (subst (IsBelow q) (sym x) (first_above old q a more some)) still)
    of (a ∷ more) (b ∷ bs) some also =
        let x = next_of old q a more some in
        let y = next_of new q b bs also in
        let up = subst (IsBelow q) (sym x) (first_above old q a more some) in
        let up_too = subst (IsBelow q) (sym y) (first_above new q b bs also) in
        one_key (next_key old q) (next_key new q)
        (λ under. none_between new q (next_key old q) b bs i also up still (subst (IsBelow (next_key old q)) y under))
        (λ under. none_between old q (next_key new q) a more h some up_too before
        (subst (IsBelow (next_key new q)) x under))

-- a next key is there
pub next_there : (s : Map) (q v : List ℕ) → value_at s q ≡ Some v → is_some (value_at s (next_key s q)) ≡ true
next_there [] q v at = absurd (cc)
next_there (e ∷ s) q v at = of (above (e ∷ s) q) refl
  where
    of : (a : Map) → above (e ∷ s) q ≡ a → is_some (value_at (e ∷ s) (next_key (e ∷ s) q)) ≡ true
    of [] none = ap (λ k. is_some (value_at (e ∷ s) k)) (next_least (e ∷ s) q none) ∙ ap is_some (value_at_head e s)
    of (a ∷ more) some =
        ap (λ k. is_some (value_at (e ∷ s) k)) (next_of (e ∷ s) q a more some)
        ∙ ap is_some (sym (value_at-above (e ∷ s) q a.0 (first_above (e ∷ s) q a more some))
        ∙ (ap (λ x. value_at x a.0) some ∙ value_at_head a more))

some_if : (b : Bool) (u : List ℕ) (o : Option (List ℕ)) → is_some o ≡ true → is_some (cond b (Some u) o) ≡ true
some_if true u o h = refl
some_if false u o h = h

-- with a key more, the next key is that key, or as before
next_with : (s : Map) (y u q v : List ℕ) → IsState s → value_at s q ≡ Some v
    → (next_key (with_entry s y u) q ≡ y) ⊎ (next_key (with_entry s y u) q ≡ next_key s q)
next_with s y u q v h at =
    let more : Map = with_entry s y u in
    let n : List ℕ = next_key more q in
    let own = found (value_at more q) (ap is_some (value_at-with_entry s y u q)
    ∙ some_if (same q y) u (value_at s q) (ap is_some at)) in
    let there : is_some (value_at more n) ≡ true = next_there more q own.0 own.1 in
    ⊎_elim
    (λ yes. inl (exact n y yes))
    (λ away.
    let before : is_some (value_at s n) ≡ true =
    sym (ap is_some (value_at-with_entry s y u n ∙ ap (λ b. cond b (Some u) (value_at s n)) away)) ∙ there in
    let still : is_some (value_at more (next_key s q)) ≡ true =
    ap is_some (value_at-with_entry s y u (next_key s q))
    ∙ some_if (same (next_key s q) y) u (value_at s (next_key s q)) (next_there s q v at) in
    inr (sym (next_stays s more q h (IsState-with_entry s y u h) still before)))
    (cases_Bool (same n y))

-- A key whose next key comes while the one that it had stays stands before the place of that next key in the old state.
pub next_comes : (old new : Map) (q v w u : List ℕ) → IsState old → IsState new → value_at old q ≡ Some v
    → value_at new q ≡ Some w
    → is_some (value_at new (next_key old q)) ≡ true
    → next_key (with_entry old (next_key new q) u) q ≡ next_key new q
next_comes old new q v w u h i at is still =
    let y : List ℕ = next_key new q in
    let more : Map = with_entry old y u in
    let before : is_some (value_at more y) ≡ true =
    ap is_some (value_at-with_entry old y u y ∙ ap (λ b. cond b (Some u) (value_at old y)) (same_self y)) in
    next_stays more new q (IsState-with_entry old y u h) i
    (⊎_elim
    (λ one. ap (λ k. is_some (value_at new k)) one ∙ next_there new q w is)
    (λ other. ap (λ k. is_some (value_at new k)) other ∙ still)
    (next_with old y u q v h at))
    before
