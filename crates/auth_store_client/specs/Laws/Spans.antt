-- A key within the span of another one, up to the next key, is not in the state.
--
-- The key k of a state, its next key n, and where a key that is in the state may stand:
--
--      k < n       .. k |  no key  | n ..           above k the first is n
--      n < k       no key | n .. k | no key         none is above k, and n is the first of all
use Rattle.std.proofs.Common.{◌≡◌, ℕ, Bool, true, false, T, cond, not, ◌&&◌, ◌||◌, List, [], ◌∷◌, ◌++◌, None, Some}
use Rattle.std.proofs.Common.{refl, ap, sym, ◌∙◌, subst, ⊎_elim}
use Rattle.std.proofs.lemmas.Bool.{cases_Bool}
use Rattle.std.proofs.lemmas.Cmp.{nat_list_cmp_total}
use Rattle.std.specs.Cmp.{tied_itself}
use Rattle.std.specs.declared.cmp.Ordering.{Ordering}
use Rattle.std.specs.declared.cmp.Ordering.TheVariants.{Less, Equal, Greater}
use Rattle.std.specs.Ordering.{is_lt, is_eq, ordering_reverse}
use Rattle.std.specs.FinMap.Entries.{below_all}
use Rattle.state_ops.specs.Spans.{is_below, is_in_span, span_holds}
use Rattle.auth_store_parts.specs.Map.{Map, key_order, value_at, above, first_key, next_key}
use Rattle.auth_store_parts.specs.History.{IsState}
use Rattle.auth_store_parts.specs.Laws.Lookups.{same, exact, IsState-tail}
use Rattle.auth_store_parts.specs.Laws.Below.{IsBelow, none_below_first}

first : (a b : Bool) → T (a && b) → T a
first true b p = tt
first false b p = p

second : (a b : Bool) → T (a && b) → T b
second true b p = p
second false b p = absurd p

both : (a b : Bool) → T a → T b → T (a && b)
both true b p q = q
both false b p q = p

is_true : (b : Bool) → T b → b ≡ true
is_true true t = refl
is_true false t = absurd t

below_above : (x : List ℕ) (s : Map) (q : List ℕ) → T (below_all key_order x s) → T (below_all key_order x (above s q))
below_above x [] q h = tt
below_above x (e ∷ s) q h =
    elim (is_lt (key_order q e.0)) as (λ b. T (below_all key_order x (cond b (e ∷ above s q) (above s q)))) [
      | true ↦ both _ _ (first _ _ h) (below_above x s q (second (is_lt (key_order x e.0)) _ h))
      | false ↦ below_above x s q (second (is_lt (key_order x e.0)) _ h)
    ]

state_above : (s : Map) (q : List ℕ) → IsState s → IsState (above s q)
state_above [] q h = tt
state_above (e ∷ s) q h =
    elim (is_lt (key_order q e.0)) as (λ b. IsState (cond b (e ∷ above s q) (above s q))) [
      | true ↦ both _ _ (below_above e.0 s q (first _ _ h)) (state_above s q (IsState-tail e s h))
      | false ↦ state_above s q (IsState-tail e s h)
    ]

-- what is above a key is found there
found_above : (s : Map) (q k : List ℕ) → IsBelow q k → value_at (above s q) k ≡ value_at s k
found_above [] q k up = refl
found_above (e ∷ s) q k up =
    ⊎_elim
    (λ yes. ap (λ b. value_at (cond b (e ∷ above s q) (above s q)) k) yes
    ∙ ap (λ r. cond (same k e.0) (Some e.1) r) (found_above s q k up))
    (λ fails. ap (λ b. value_at (cond b (e ∷ above s q) (above s q)) k) fails
    ∙ (found_above s q k up
    ∙ ap (λ b. cond b (Some e.1) (value_at s k)) (sym (other (same k e.0) refl fails))))
    (cases_Bool (is_lt (key_order q e.0)))
  where
    other : (b : Bool) → same k e.0 ≡ b → is_lt (key_order q e.0) ≡ false → same k e.0 ≡ false
    other true is fails = absurd (false_T (sym fails ∙ is_true _ (subst (IsBelow q) (exact k e.0 is) up)))
      where
        false_T : false ≡ true → ⊥
        false_T e = cc
    other false is fails = is

-- the first of what is above a key is above it
first_above : (s : Map) (q : List ℕ) (a : List ℕ × List ℕ) (rest : Map) → above s q ≡ a ∷ rest → IsBelow q a.0
first_above [] q a rest is = absurd (cc)
first_above (e ∷ s) q a rest is =
    ⊎_elim
    (λ yes. let head : e ∷ above s q ≡ a ∷ rest =
    sym (ap (λ b. cond b (e ∷ above s q) (above s q)) yes) ∙ is in
    subst (λ x. T (is_lt (key_order q x.0))) (ap head_of head) (subst T (sym yes) tt))
    (λ fails. first_above s q a rest (sym (ap (λ b. cond b (e ∷ above s q) (above s q)) fails) ∙ is))
    (cases_Bool (is_lt (key_order q e.0)))
  where
    head_of : Map → List ℕ × List ℕ
    head_of [] = a
    head_of (x ∷ xs) = x

-- how two keys stand to each other
data Compared (k l : List ℕ) : Type 0 where
  is_less : key_order k l ≡ Less → Compared k l
  is_same : k ≡ l → Compared k l
  is_more : IsBelow l k → key_order k l ≡ Greater → Compared k l

compared : (k l : List ℕ) → Compared k l
compared k l = of (key_order k l) refl
  where
    turned : (o : Ordering) → o ≡ Greater → T (is_lt (ordering_reverse o))
    turned Less e = absurd (cc)
    turned Equal e = absurd (cc)
    turned Greater e = tt

    of : (o : Ordering) → key_order k l ≡ o → Compared k l
    of Less e = is_less e
    of Equal e = is_same (exact k l (ap is_eq e))
    of Greater e =
        is_more (subst (λ x. T (is_lt x)) (sym (nat_list_cmp_total.antisymm l k)) (turned (key_order k l) e)) e

below_of : (k l : List ℕ) → key_order k l ≡ Less → IsBelow k l
below_of k l is = subst (λ o. T (is_lt o)) (sym is) tt

not_both : (k l : List ℕ) → IsBelow k l → IsBelow l k → ⊥
not_both k l one other = clash (key_order k l) (nat_list_cmp_total.antisymm l k) one other
  where
    clash : (o : Ordering) → key_order l k ≡ ordering_reverse o → T (is_lt o) → T (is_lt (key_order l k)) → ⊥
    clash Less e one other = subst (λ o. T (is_lt o)) e other
    clash Equal e one other = absurd one
    clash Greater e one other = absurd one

not_itself : (k : List ℕ) → IsBelow k k → ⊥
not_itself k one = subst (λ o. T (is_lt o)) (tied_itself nat_list_cmp_total k) one

-- A key that a state has is not in the span of another one that it has.
module _ (state : Map) (key asked value : List ℕ) (sorted : IsState state)
    (there : value_at state asked ≡ Some value) where
  -- where none is above the key, the next key is the first of all, and no key stands before it
  before_first : IsBelow asked (first_key state) → ⊥
  before_first under = of state refl
    where
      of : (s : Map) → s ≡ state → ⊥
      of [] is = let gone : None ≡ Some value = ap (λ s. value_at s asked) is ∙ there in cc
      of (e ∷ s) is =
          none_below_first e s asked value (subst IsState (sym is) sorted) (ap (λ s. value_at s asked) is ∙ there)
          (subst (λ s. IsBelow asked (first_key s)) (sym is) under)

  -- a key above this one stands at the first one above it, or behind it
  behind_next : IsBelow key asked → (e : List ℕ × List ℕ) (rest : Map)
      → above state key ≡ e ∷ rest → IsBelow asked e.0 → ⊥
  behind_next up e rest is under =
      none_below_first e rest asked value (subst IsState is (state_above state key sorted))
      (ap (λ s. value_at s asked) (sym is) ∙ (found_above state key asked up ∙ there)) under

  none_above : IsBelow key asked → above state key ≡ [] → ⊥
  none_above up is =
      let gone : None ≡ Some value = ap (λ s. value_at s asked) (sym is) ∙ (found_above state key asked up ∙ there) in
      cc

  false_is : (b : Bool) → (T b → ⊥) → b ≡ false
  false_is true not_so = absurd (not_so tt)
  false_is false _ = refl

  -- below the key, and none is above it
  low : (next : List ℕ) → IsBelow asked key → (IsBelow asked next → ⊥) → is_in_span key next asked ≡ true → ⊥
  low next under not_next inside = of (key_order key next) refl inside
    where
      of : (o : Ordering) → key_order key next ≡ o → span_holds o (is_below asked key) (is_below asked next) ≡ true → ⊥
      of Less is holds = let f : false ≡ true =
          sym (ap (λ b. not b && is_below asked next) (is_true (is_below asked key) under)) ∙ holds in cc
      of Equal is holds = not_next (subst (IsBelow asked) (exact key next (ap is_eq is)) under)
      of Greater is holds = let f : false ≡ true =
          sym (ap (λ b. not b || is_below asked next) (is_true (is_below asked key) under)
          ∙ false_is (is_below asked next) not_next)
          ∙ holds in cc

  -- where the next key is above the key, the span begins at the key and ends before the next one
  high : (next : List ℕ) → IsBelow key next → is_in_span key next asked ≡ true
      → (is_below asked key ≡ false) × (is_below asked next ≡ true)
  high next up inside = of (is_below asked key) (is_below asked next)
      (sym (ap (λ o. span_holds o (is_below asked key) (is_below asked next)) (less_of (key_order key next) up))
      ∙ inside)
    where
      less_of : (o : Ordering) → T (is_lt o) → o ≡ Less
      less_of Less t = refl
      less_of Equal t = absurd t
      less_of Greater t = absurd t

      of : (b c : Bool) → span_holds Less b c ≡ true → (b ≡ false) × (c ≡ true)
      of true c holds = let f : false ≡ true = holds in absurd cc
      of false c holds = (refl, holds)

  pub not_in_span : (asked ≡ key → ⊥) → is_in_span key (next_key state key) asked ≡ true → ⊥
  not_in_span other inside = of (above state key) refl
    where
      of : (over_key : Map) → above state key ≡ over_key → ⊥
      of [] is =
          let next : next_key state key ≡ first_key state = ap (λ s. first_key (s ++ state)) is in
          let within = subst (λ n. is_in_span key n asked ≡ true) next inside in
          elim (compared asked key) [
            | is_less less ↦ low (first_key state) (below_of asked key less) before_first within
            | is_same k ↦ other k
            | is_more up more ↦ none_above up is
          ]
      of (e ∷ rest) is =
          let next : next_key state key ≡ e.0 = ap (λ s. first_key (s ++ state)) is in
          let up : IsBelow key e.0 = first_above state key e rest is in
          let sides = high e.0 up (subst (λ n. is_in_span key n asked ≡ true) next inside) in
          elim (compared asked key) [
            | is_less less ↦ let f : false ≡ true =
                sym sides.0 ∙ is_true (is_below asked key) (below_of asked key less) in absurd cc
            | is_same k ↦ other k
            | is_more above_key more ↦ behind_next above_key e rest is (subst T (sym sides.1) tt)
          ]
