-- In a state the next key of an entry is that of the entry behind it, and the first one behind the last.
use Rattle.std.proofs.Common.{◌≡◌, ℕ, Bool, true, false, T, cond, ◌&&◌, List, [], ◌∷◌, ◌++◌, refl, ap, sym, ◌∙◌, subst}
use Rattle.std.specs.List.{AllByRecursion}
use Rattle.std.specs.List.Sorted.{IsStrictlySortedBy}
use Rattle.std.specs.Map.{keys_of}
use Rattle.std.proofs.lemmas.Cmp.{nat_list_cmp_total}
use Rattle.std.specs.declared.cmp.Ordering.{Ordering}
use Rattle.std.specs.declared.cmp.Ordering.TheVariants.{Less, Equal, Greater}
use Rattle.std.specs.Cmp.{tied_itself}
use Rattle.std.specs.Ordering.{is_lt, ordering_reverse}
use Rattle.std.specs.FinMap.Entries.{below_all}
use Rattle.auth_store_parts.specs.Map.{Map, state_of, key_order, above, first_key, next_key}
use Rattle.auth_store_parts.specs.History.{IsState}

both : (a b : Bool) → T a → T b → T (a && b)
both true b p q = q
both false b p q = p

pub first : (a b : Bool) → T (a && b) → T a
first true b p = tt
first false b p = p

second : (a b : Bool) → T (a && b) → T b
second true b p = p
second false b p = absurd p

pub is : (b : Bool) → T b → b ≡ true
is true t = refl
is false t = absurd t

-- the entries of a map of the code are a state
all_below : {K V : Type 0} (key : K → List ℕ) (value : V → List ℕ) (cmp : K → K → Ordering)
    → ((a b : K) → cmp a b ≡ key_order (key a) (key b))
    → (k : K) (es : List (K × V)) → AllByRecursion (λ y. cmp k y ≡ Less) (keys_of es)
    → T (below_all key_order (key k) (state_of key value es))
all_below key value cmp ordered k [] below = tt
all_below key value cmp ordered k (e ∷ es) below =
    both _ _ (subst (λ o. T (is_lt o)) (sym below.0 ∙ ordered k e.0) tt) (all_below key value cmp ordered k es below.1)

pub state_sorted : {K V : Type 0} (key : K → List ℕ) (value : V → List ℕ) (cmp : K → K → Ordering)
    → ((a b : K) → cmp a b ≡ key_order (key a) (key b))
    → (es : List (K × V)) → IsStrictlySortedBy cmp (keys_of es) → IsState (state_of key value es)
unfolding IsStrictlySortedBy
state_sorted key value cmp ordered [] sorted = tt
state_sorted key value cmp ordered (e ∷ es) sorted =
    both _ _ (all_below key value cmp ordered e.0 es sorted.0) (state_sorted key value cmp ordered es sorted.1)

less : (o : Ordering) → T (is_lt o) → o ≡ Less
less Less t = refl
less Equal t = absurd t
less Greater t = absurd t

each_above : {K V : Type 0} (key : K → List ℕ) (value : V → List ℕ) (cmp : K → K → Ordering)
    → ((a b : K) → cmp a b ≡ key_order (key a) (key b))
    → (k : K) (es : List (K × V)) → T (below_all key_order (key k) (state_of key value es))
    → AllByRecursion (λ y. cmp k y ≡ Less) (keys_of es)
each_above key value cmp ordered k [] below = tt
each_above key value cmp ordered k (e ∷ es) below = (
  ordered k e.0 ∙ less _ (first _ _ below),
  each_above key value cmp ordered k es (second (is_lt (key_order (key k) (key e.0))) _ below),
)

-- entries that are a state ascend in the code
pub sorted_state : {K V : Type 0} (key : K → List ℕ) (value : V → List ℕ) (cmp : K → K → Ordering)
    → ((a b : K) → cmp a b ≡ key_order (key a) (key b))
    → (es : List (K × V)) → IsState (state_of key value es) → IsStrictlySortedBy cmp (keys_of es)
unfolding IsStrictlySortedBy
sorted_state key value cmp ordered [] is = tt
sorted_state key value cmp ordered (e ∷ es) is = (
  each_above key value cmp ordered e.0 es (first _ _ is),
  sorted_state key value cmp ordered es
      (second (below_all key_order (key e.0) (state_of key value es)) _ is),
)

above_all : (k : List ℕ) (s : Map) → T (below_all key_order k s) → above s k ≡ s
above_all k [] below = refl
above_all k (e ∷ s) below =
    ap (λ b. cond b (e ∷ above s k) (above s k)) (is _ (first _ _ below))
    ∙ ap (λ r. e ∷ r) (above_all k s (second (is_lt (key_order k e.0)) _ below))

not_above : (k l : List ℕ) → T (is_lt (key_order l k)) → is_lt (key_order k l) ≡ false
not_above k l below = ap is_lt (nat_list_cmp_total.antisymm k l) ∙ turned (key_order l k) below
  where
    turned : (o : Ordering) → T (is_lt o) → is_lt (ordering_reverse o) ≡ false
    turned Less t = refl
    turned Equal t = absurd t
    turned Greater t = absurd t

below_at : (k : List ℕ) (done : Map) (e : List ℕ × List ℕ) (rest : Map) → T (below_all key_order k (done ++ e ∷ rest))
    → T (is_lt (key_order k e.0))
below_at k [] e rest below = first _ _ below
below_at k (d ∷ done) e rest below = below_at k done e rest (second (is_lt (key_order k d.0)) _ below)

-- what stands behind an entry is what is above its key
pub above_passed : (done : Map) (e : List ℕ × List ℕ) (rest : Map) → IsState (done ++ e ∷ rest)
    → above (done ++ e ∷ rest) e.0 ≡ rest
above_passed [] e rest sorted =
    ap (λ o. cond (is_lt o) (e ∷ above rest e.0) (above rest e.0)) (tied_itself nat_list_cmp_total e.0)
    ∙ above_all e.0 rest (first _ _ sorted)
above_passed (d ∷ done) e rest sorted =
    ap (λ b. cond b (d ∷ above (done ++ e ∷ rest) e.0) (above (done ++ e ∷ rest) e.0))
    (not_above e.0 d.0 (below_at d.0 done e rest (first _ _ sorted)))
    ∙ above_passed done e rest (second (below_all key_order d.0 (done ++ e ∷ rest)) _ sorted)

pub next_behind : (state done : Map) (e f : List ℕ × List ℕ) (rest : Map) → done ++ e ∷ f ∷ rest ≡ state → IsState state
    → next_key state e.0 ≡ f.0
next_behind state done e f rest at =
    subst (λ s. IsState s → next_key s e.0 ≡ f.0) at
    (λ sorted. ap (λ a. first_key (a ++ (done ++ e ∷ f ∷ rest))) (above_passed done e (f ∷ rest) sorted))

pub next_of_last : (state done : Map) (e : List ℕ × List ℕ) → done ++ e ∷ [] ≡ state → IsState state
    → next_key state e.0 ≡ first_key state
next_of_last state done e at =
    subst (λ s. IsState s → next_key s e.0 ≡ first_key s) at
    (λ sorted. ap (λ a. first_key (a ++ (done ++ e ∷ []))) (above_passed done e [] sorted))
