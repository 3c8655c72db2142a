-- What a state has at a key, by the order of keys.
use Rattle.std.proofs.Common.{◌≡◌, ℕ, Bool, true, false, T, cond, ◌&&◌, List, [], ◌∷◌, None, Some, refl, ap, sym, ◌∙◌}
use Rattle.std.proofs.Common.{subst, ⊎_elim}
use Rattle.std.proofs.lemmas.Bool.{cases_Bool}
use Rattle.std.proofs.lemmas.Cmp.{nat_list_cmp_total}
use Rattle.std.specs.declared.cmp.Ordering.{Ordering}
use Rattle.std.specs.declared.cmp.Ordering.TheVariants.{Less, Equal, Greater}
use Rattle.std.specs.Cmp.{tied_itself}
use Rattle.std.specs.Ordering.{is_lt}
use Rattle.std.specs.FinMap.Entries.{below_all}
use Rattle.auth_store_parts.specs.Map.{Map, key_order, value_at}
use Rattle.auth_store_parts.specs.History.{IsState}
use Rattle.auth_store_parts.specs.Laws.Lookups.{same, exact, same_self, none_later}

-- one key is below the other
abbrev pub IsBelow : List ℕ → List ℕ → Type 0
IsBelow k l = T (is_lt (key_order k l))

first : (a b : Bool) → T (a && b) → T a
first true b p = tt
first false b p = p

second : (a b : Bool) → T (a && b) → T b
second true b p = p
second false b p = absurd p

less : (o : Ordering) → T (is_lt o) → o ≡ Less
less Less t = refl
less Equal t = absurd t
less Greater t = absurd t

irreflexive : (k : List ℕ) → IsBelow k k → ⊥
irreflexive k t = absurd (subst (λ o. T (is_lt o)) (tied_itself nat_list_cmp_total k) t)

transitive : (k l m : List ℕ) → IsBelow k l → IsBelow l m → IsBelow k m
transitive k l m s t = subst (λ o. T (is_lt o)) (sym (nat_list_cmp_total.trans k l m (less _ s) (less _ t))) tt

-- the first entry
pub value_at_head : (e : List ℕ × List ℕ) (s : Map) → value_at (e ∷ s) e.0 ≡ Some e.1
value_at_head e s = ap (λ b. cond b (Some e.1) (value_at s e.0)) (same_self e.0)

-- and those behind it
pub value_at_behind : (e : List ℕ × List ℕ) (s : Map) (q v : List ℕ) → IsState (e ∷ s) → value_at s q ≡ Some v
    → value_at (e ∷ s) q ≡ Some v
value_at_behind e s q v h at =
    ⊎_elim
    (λ here. let none : value_at s q ≡ None = ap (value_at s) (exact q e.0 here) ∙ none_later e s h in absurd (cc))
    (λ away. ap (λ b. cond b (Some e.1) (value_at s q)) away ∙ at)
    (cases_Bool (same q e.0))

-- what is there behind the first one, or is the first one
of_rest : (e : List ℕ × List ℕ) (s : Map) (q v : List ℕ) → same q e.0 ≡ false → value_at (e ∷ s) q ≡ Some v
    → value_at s q ≡ Some v
of_rest e s q v away at = sym (ap (λ b. cond b (Some e.1) (value_at s q)) away) ∙ at

pub found_above : (k : List ℕ) (s : Map) (q v : List ℕ) → T (below_all key_order k s) → value_at s q ≡ Some v
    → IsBelow k q
found_above k [] q v h at = absurd (cc)
found_above k (e ∷ s) q v h at =
    ⊎_elim
    (λ here. subst (IsBelow k) (sym (exact q e.0 here)) (first _ _ h))
    (λ away. found_above k s q v (second (is_lt (key_order k e.0)) _ h) (of_rest e s q v away at))
    (cases_Bool (same q e.0))

pub none_below_first : (e : List ℕ × List ℕ) (s : Map) (q v : List ℕ) → IsState (e ∷ s) → value_at (e ∷ s) q ≡ Some v
    → IsBelow q e.0 → ⊥
none_below_first e s q v h at under =
    ⊎_elim
    (λ here. irreflexive e.0 (subst (λ k. IsBelow k e.0) (exact q e.0 here) under))
    (λ away. let over = found_above e.0 s q v (first _ _ h) (of_rest e s q v away at) in
    irreflexive e.0 (transitive e.0 q e.0 over under))
    (cases_Bool (same q e.0))
