-- What a state has at a key, after an entry came or went.
use Rattle.std.proofs.Common.{◌≡◌, ℕ, Bool, true, false, T, cond, ◌&&◌, List, [], ◌∷◌, Option, None, Some, refl, ap}
use Rattle.std.proofs.Common.{sym, ◌∙◌, subst, ⊎_elim}
use Rattle.std.proofs.lemmas.Bool.{cases_Bool}
use Rattle.std.proofs.lemmas.Map.Lookups.{exact_bytes}
use Rattle.std.proofs.lemmas.Cmp.{nat_list_cmp_total}
use Rattle.std.specs.declared.cmp.Ordering.{Ordering}
use Rattle.std.specs.declared.cmp.Ordering.TheVariants.{Less, Equal, Greater}
use Rattle.std.specs.Cmp.{IsTotalOrder, tied_itself}
use Rattle.std.specs.Ordering.{match_ordering, is_lt, is_eq, eq_by_cmp}
use Rattle.std.specs.BTreeMap.{insert_entry, is_at}
use Rattle.std.specs.Map.{lookup}
use Rattle.std.specs.FinMap.Entries.{by_order, find, put, below_all, is_sorted-put, find-put}
use Rattle.auth_store_parts.specs.Map.{Map, with_entry, without_key, value_at, key_order}
use Rattle.auth_store_parts.specs.History.{IsState}

-- whether two keys are one
abbrev pub same : List ℕ → List ℕ → Bool
same q k = is_eq (key_order q k)

both : (a b : Bool) → T a → T b → T (a && b)
both true b p q = q
both false b p q = p

first : (a b : Bool) → T (a && b) → T a
first true b p = tt
first false b p = p

second : (a b : Bool) → T (a && b) → T b
second true b p = p
second false b p = absurd p

equal : (o : Ordering) → is_eq o ≡ true → o ≡ Equal
equal Less e = cc
equal Equal e = refl
equal Greater e = cc

apart : (o : Ordering) → T (is_lt o) → is_eq o ≡ false
apart Less e = refl
apart Equal e = absurd e
apart Greater e = absurd e

pub exact : (q k : List ℕ) → same q k ≡ true → q ≡ k
exact q k e = exact_bytes q k (equal (key_order q k) e)

pub same_self : (q : List ℕ) → same q q ≡ true
same_self q = ap is_eq (tied_itself nat_list_cmp_total q)

-- entries in the order of their keys, in the words of the kit's maps
lookup-find : {K X : Type 0} (cmp : K → K → Ordering) (q : K) (es : List (K × X))
    → lookup (is_at (cmp q)) es ≡ find cmp q es
lookup-find cmp q [] = refl
lookup-find cmp q (e ∷ es) = ap (λ r. cond (eq_by_cmp cmp q e.0) (Some e.1) r) (lookup-find cmp q es)

insert_entry-put : {K X : Type 0} (cmp : K → K → Ordering) (es : List (K × X)) (k : K) (v : X)
    → insert_entry cmp es k v ≡ put cmp k v es
insert_entry-put cmp [] k v = refl
insert_entry-put cmp (e ∷ es) k v =
    elim (cmp k e.0) as (λ o. match_ordering o ((k, v) ∷ e ∷ es) ((e.0, v) ∷ es) (e ∷ insert_entry cmp es k v)
    ≡ by_order o ((k, v) ∷ e ∷ es) ((e.0, v) ∷ es) (e ∷ put cmp k v es)) [
      | Less ↦ refl
      | Equal ↦ refl
      | Greater ↦ ap (λ r. e ∷ r) (insert_entry-put cmp es k v)
    ]

-- what a key has after an entry was put in
pub lookup-insert_entry : {K X : Type 0} (cmp : K → K → Ordering) → IsTotalOrder cmp
    → (es : List (K × X)) (k : K) (v : X) (q : K)
    → lookup (is_at (cmp q)) (insert_entry cmp es k v) ≡ cond (eq_by_cmp cmp q k) (Some v) (lookup (is_at (cmp q)) es)
lookup-insert_entry cmp total es k v q =
    lookup-find cmp q (insert_entry cmp es k v) ∙ (ap (find cmp q) (insert_entry-put cmp es k v)
    ∙ (find-put cmp total q k v es ∙ ap (λ r. cond (eq_by_cmp cmp q k) (Some v) r) (sym (lookup-find cmp q es))))

pub value_at-find : (q : List ℕ) (s : Map) → value_at s q ≡ find key_order q s
value_at-find q s = lookup-find key_order q s

pub IsState-with_entry : (s : Map) (k v : List ℕ) → IsState s → IsState (with_entry s k v)
IsState-with_entry s k v h = subst IsState (sym (insert_entry-put key_order s k v))
    (is_sorted-put key_order nat_list_cmp_total k v s h)

pub value_at-with_entry : (s : Map) (k v q : List ℕ) → value_at (with_entry s k v) q ≡ cond (same q k) (Some v)
    (value_at s q)
value_at-with_entry s k v q = lookup-insert_entry key_order nat_list_cmp_total s k v q

below_none : (x : List ℕ) (s : Map) → T (below_all key_order x s) → value_at s x ≡ None
below_none x [] h = refl
below_none x (e ∷ s) h = ap (λ b. cond b (Some e.1) (value_at s x)) (apart (key_order x e.0) (first _ _ h))
    ∙ below_none x s (second (is_lt (key_order x e.0)) _ h)

-- the first key is not among the later ones
pub none_later : (e : List ℕ × List ℕ) (s : Map) → IsState (e ∷ s) → value_at s e.0 ≡ None
none_later e s h = below_none e.0 s (first _ _ h)

pub IsState-tail : (e : List ℕ × List ℕ) (s : Map) → IsState (e ∷ s) → IsState s
IsState-tail e s h = second (below_all key_order e.0 s) _ h

below-without_key : (x : List ℕ) (s : Map) (k : List ℕ) → T (below_all key_order x s)
    → T (below_all key_order x (without_key s k))
below-without_key x [] k h = tt
below-without_key x (e ∷ s) k h =
    elim (same k e.0) as (λ b. T (below_all key_order x (cond b s (e ∷ without_key s k)))) [
      | true ↦ second (is_lt (key_order x e.0)) _ h
      | false ↦ both _ _ (first _ _ h) (below-without_key x s k (second (is_lt (key_order x e.0)) _ h))
    ]

pub IsState-without_key : (s : Map) (k : List ℕ) → IsState s → IsState (without_key s k)
IsState-without_key [] k h = tt
IsState-without_key (e ∷ s) k h =
    elim (same k e.0) as (λ b. IsState (cond b s (e ∷ without_key s k))) [
      | true ↦ IsState-tail e s h
      | false ↦ both _ _ (below-without_key e.0 s k (first _ _ h)) (IsState-without_key s k (IsState-tail e s h))
    ]

removed_here : (a b : Bool) (r : Option (List ℕ)) (v : List ℕ) → b ≡ a → (a ≡ true → r ≡ None)
    → r ≡ cond a None (cond b (Some v) r)
removed_here true b r v e none = none refl
removed_here false true r v e none = cc
removed_here false false r v e none = refl

removed_later : (a b : Bool) (r : Option (List ℕ)) (v : List ℕ) → (a ≡ true → b ≡ true → ⊥)
    → cond b (Some v) (cond a None r) ≡ cond a None (cond b (Some v) r)
removed_later true true r v differ = absurd (differ refl refl)
removed_later true false r v differ = refl
removed_later false b r v differ = refl

pub value_at-without_key : (s : Map) (k q : List ℕ) → IsState s
    → value_at (without_key s k) q ≡ cond (same q k) None (value_at s q)
value_at-without_key [] k q h = elim (same q k) as (λ b. ◌≡◌ {A = Option (List ℕ)} None (cond b None None))
    [ true ↦ refl | false ↦ refl ]
value_at-without_key (e ∷ s) k q h =
    ⊎_elim
    (λ t. let is : k ≡ e.0 = exact k e.0 t in
    ap (λ b. value_at (cond b s (e ∷ without_key s k)) q) t
    ∙ removed_here (same q k) (same q e.0) (value_at s q) e.1 (ap (same q) (sym is))
    (λ at. ap (value_at s) (exact q k at ∙ is) ∙ none_later e s h))
    (λ f. ap (λ b. value_at (cond b s (e ∷ without_key s k)) q) f
    ∙ (ap (λ r. cond (same q e.0) (Some e.1) r) (value_at-without_key s k q (IsState-tail e s h))
    ∙ removed_later (same q k) (same q e.0) (value_at s q) e.1
    (λ a b. let both : same k e.0 ≡ true = ap (λ x. same x e.0) (sym (exact q k a)) ∙ b in cc)))
    (cases_Bool (same k e.0))
