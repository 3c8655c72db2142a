-- A key that a state lacks is in the span of one of its keys alone.
--
-- Of two spans round the circle of keys that share a key one begins within the other; and no key of a state is in the span of another one.
use Rattle.std.proofs.Common.{◌≡◌, ◌⊎◌, inl, inr, ⊎_elim, ℕ, Bool, true, false}
use Rattle.std.proofs.Common.{T, List, [], ◌∷◌, None, Some, refl, ap, sym, ◌∙◌, subst}
use Rattle.std.proofs.lemmas.Cmp.{nat_list_cmp_total}
use Rattle.std.specs.declared.cmp.Ordering.{Ordering}
use Rattle.std.specs.declared.cmp.Ordering.TheVariants.{Less, Equal, Greater}
use Rattle.std.specs.Ordering.{is_lt, is_eq, ordering_reverse}
use Rattle.merkle_forest.specs.Laws.Matching.{equal_or_not}
use Rattle.state_ops.specs.Spans.{is_below, is_in_span, span_holds}
use Rattle.auth_store_client.specs.Laws.Spans.{not_in_span}
use Rattle.auth_store_index.specs.Near.{prev_key}
use Rattle.auth_store_parts.specs.History.{IsState}
use Rattle.auth_store_parts.specs.Laws.Lookups.{exact}
use Rattle.auth_store_parts.specs.Map.{Map, key_order, value_at, next_key}
use Rattle.auth_store_client.specs.Laws.Before.{before_is_there, in_span_before, transitive, not_below}

truth : (b : Bool) → b ≡ true → T b
truth b is = subst T (sym is) tt

-- what is not above a key is below what is above that key
below_past : (e q n : List ℕ) → is_below q e ≡ false → is_below q n ≡ true → is_below e n ≡ true
below_past e q n low high = of (key_order q e) refl
  where
    is_true : (b : Bool) → T b → b ≡ true
    is_true true t = refl
    is_true false t = absurd t

    of : (o : Ordering) → key_order q e ≡ o → is_below e n ≡ true
    of Less is = let clash : true ≡ false = sym (ap is_lt is) ∙ low in absurd cc
    of Equal is = ap (λ k. is_below k n) (sym (exact q e (ap is_eq is))) ∙ high
    of Greater is =
        let up : T (is_lt (key_order e q)) =
        subst (λ o. T (is_lt o)) (sym (nat_list_cmp_total.antisymm e q ∙ ap ordering_reverse is)) tt in
        is_true (is_below e n) (transitive e q n up (truth (is_below q n) high))

-- Of two spans that hold a key one holds where the other begins. `a` and `b` say of that key whether it is below the first span's key and
-- its end, `h` and `i` whether it is below the second's; the others say so of where the two begin.
of_spans : (a b h i c d f g : Bool) → (c ≡ true → f ≡ false)
    → (h ≡ false → b ≡ true → d ≡ true) → (a ≡ false → i ≡ true → g ≡ true) → (o p : Ordering)
    → span_holds o a b ≡ true → span_holds p h i ≡ true → (span_holds o c d ≡ true) ⊎ (span_holds p f g ≡ true)
of_spans a b h i c d f g apart first second Equal p one other = inl refl
of_spans a b h i c d f g apart first second Less Equal one other = inr refl
of_spans a b h i c d f g apart first second Greater Equal one other = inr refl
of_spans true b h i c d f g apart first second Less Less one other = absurd cc
of_spans false b true i c d f g apart first second Less Less one other = absurd cc
of_spans false b false i false d f g apart first second Less Less one other = inl (first refl one)
of_spans false b false i true d f g apart first second Less Less one other =
    inr (rw (apart refl) (second refl other))
of_spans true b h i c d f g apart first second Less Greater one other = absurd cc
of_spans false b h i c d false g apart first second Less Greater one other = inr refl
of_spans false b false i true d true g apart first second Less Greater one other =
    absurd (let clash : true ≡ false = apart refl in cc)
of_spans false b false i false d true g apart first second Less Greater one other = inl (first refl one)
of_spans false b true i c d true g apart first second Less Greater one other = inr (second refl other)
of_spans a b true i c d f g apart first second Greater Less one other = absurd cc
of_spans a b false i false d f g apart first second Greater Less one other = inl refl
of_spans false b false i true d f g apart first second Greater Less one other =
    inr (rw (apart refl) (second refl other))
of_spans true b false i true d f g apart first second Greater Less one other = inl (first refl one)
of_spans a b h i false d f g apart first second Greater Greater one other = inl refl
of_spans a b h i true d f g apart first second Greater Greater one other = inr (rw (apart refl) refl)

spans_meet : (k n e m q : List ℕ) → is_in_span k n q ≡ true → is_in_span e m q ≡ true → (is_in_span k n e ≡ true) ⊎ (is_in_span e m k ≡ true)
spans_meet k n e m q one other =
    of_spans (is_below q k) (is_below q n) (is_below q e) (is_below q m) (is_below e k) (is_below e n) (is_below k e) (is_below k m)
    (λ under. not_below e k (truth (is_below e k) under)) (below_past e q n) (below_past k q m) (key_order k n) (key_order e m) one other

-- the key in whose span it is, is the one before it
pub before_once : (s : Map) (q k v : List ℕ) → IsState s → value_at s k ≡ Some v → value_at s q ≡ None
    → is_in_span k (next_key s k) q ≡ true → k ≡ prev_key s q
before_once s q k v sorted there lacks span = of s refl
  where
    of : (m : Map) → s ≡ m → k ≡ prev_key s q
    of [] none = absurd (let gone : None ≡ Some v = sym (ap (λ m. value_at m k) none) ∙ there in cc)
    of (entry ∷ entries) some =
        let e : List ℕ = prev_key s q in
        let before = before_is_there s q entry entries some sorted lacks in
        let around : is_in_span e (next_key s e) q ≡ true = in_span_before s q entry entries some sorted lacks in
        ⊎_elim (λ same. same)
        (λ other. absurd (⊎_elim
        (λ within. not_in_span s k e before.0 sorted before.1 (λ is. other (sym is)) within)
        (λ within. not_in_span s e k v sorted there other within)
        (spans_meet k (next_key s k) e (next_key s e) q span around)))
        (equal_or_not k e)
