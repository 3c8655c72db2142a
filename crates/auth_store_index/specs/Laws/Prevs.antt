-- The key before a key is the one whose next key it is, or would be.
use Rattle.std.proofs.Common.{◌≡◌, ℕ, Bool, true, false, T, cond, ◌&&◌, List, [], ◌∷◌, ◌++◌, Option, None, Some, refl}
use Rattle.std.proofs.Common.{ap, sym, ◌∙◌, subst, ⊎_elim, append_assoc, append-nil}
use Rattle.std.specs.Prelude.{is_some}
use Rattle.std.proofs.lemmas.Bool.{cases_Bool}
use Rattle.std.proofs.lemmas.Cmp.{nat_list_cmp_total}
use Rattle.std.specs.Cmp.{tied_itself}
use Rattle.std.specs.declared.cmp.Ordering.{Ordering}
use Rattle.std.specs.declared.cmp.Ordering.TheVariants.{Less, Equal, Greater}
use Rattle.std.specs.Ordering.{match_ordering, is_lt, is_gt, is_eq, ordering_reverse}
use Rattle.std.specs.FinMap.Entries.{below_all}
use Rattle.auth_store_parts.specs.Map.{Map, key_order, value_at, with_entry, first_key, next_key}
use Rattle.auth_store_parts.specs.History.{IsState}
use Rattle.auth_store_parts.specs.Laws.Lookups.{same, exact, IsState-tail, IsState-with_entry, value_at-with_entry}
use Rattle.auth_store_parts.specs.Laws.Below.{IsBelow}
use Rattle.auth_store_parts.specs.Laws.Neighbours.{next_behind, next_of_last}
use Rattle.auth_store_index.specs.Near.{below, last_key, prev_key}

first : (a b : Bool) → T (a && b) → T a
first true b p = tt
first false b p = p

second : (a b : Bool) → T (a && b) → T b
second true b p = p
second false b p = absurd p

less : (o : Ordering) → T (is_lt o) → o ≡ Less
less Less t = refl
less Equal t = absurd t
less Greater t = absurd t

transitive : (k l m : List ℕ) → IsBelow k l → IsBelow l m → IsBelow k m
transitive k l m s t = subst (λ o. T (is_lt o)) (sym (nat_list_cmp_total.trans k l m (less _ s) (less _ t))) tt

-- a key is above one that is below it, and the other way round
pub is_above : (k l : List ℕ) → IsBelow k l → is_gt (key_order l k) ≡ true
is_above k l under = ap is_gt (nat_list_cmp_total.antisymm l k) ∙ turned (key_order k l) under
  where
    turned : (o : Ordering) → T (is_lt o) → is_gt (ordering_reverse o) ≡ true
    turned Less t = refl
    turned Equal t = absurd t
    turned Greater t = absurd t

pub is_under : (k l : List ℕ) → is_gt (key_order l k) ≡ true → IsBelow k l
is_under k l over = subst (λ o. T (is_lt o)) (sym (nat_list_cmp_total.antisymm k l)) (turned (key_order l k) over)
  where
    turned : (o : Ordering) → is_gt o ≡ true → T (is_lt (ordering_reverse o))
    turned Less t = cc
    turned Equal t = cc
    turned Greater t = tt

no_more : (o : Ordering) → T (is_lt o) → is_gt o ≡ false
no_more Less t = refl
no_more Equal t = absurd t
no_more Greater t = absurd t

-- none of some entries is below a key that is below them all
pub below_none : (k : List ℕ) (s : Map) → T (below_all key_order k s) → below s k ≡ []
below_none k [] h = refl
below_none k (e ∷ s) h =
    ap (λ b. cond b (e ∷ below s k) (below s k)) (no_more (key_order k e.0) (first _ _ h))
    ∙ below_none k s (second (is_lt (key_order k e.0)) _ h)

-- nor below the first one
below_first : (e : List ℕ × List ℕ) (s : Map) → IsState (e ∷ s) → below (e ∷ s) e.0 ≡ []
below_first e s h =
    ap (λ o. cond (is_gt o) (e ∷ below s e.0) (below s e.0)) (tied_itself nat_list_cmp_total e.0)
    ∙ below_none e.0 s (first _ _ h)

below_at : (k : List ℕ) (done : Map) (e : List ℕ × List ℕ) (rest : Map) → T (below_all key_order k (done ++ e ∷ rest))
    → IsBelow k e.0
below_at k [] e rest h = first _ _ h
below_at k (d ∷ done) e rest h = below_at k done e rest (second (is_lt (key_order k d.0)) _ h)

-- what is below a key ends with the last entry that is
below_up_to : (k : List ℕ) (done : Map) (e : List ℕ × List ℕ) (rest : Map) → IsState (done ++ e ∷ rest) → IsBelow e.0 k
    → below rest k ≡ [] → below (done ++ e ∷ rest) k ≡ done ++ e ∷ []
below_up_to k [] e rest h under none =
    ap (λ b. cond b (e ∷ below rest k) (below rest k)) (is_above e.0 k under) ∙ ap (λ r. e ∷ r) none
below_up_to k (d ∷ done) e rest h under none =
    let lower : IsBelow d.0 k = transitive d.0 e.0 k (below_at d.0 done e rest (first _ _ h)) under in
    ap (λ b. cond b (d ∷ below (done ++ e ∷ rest) k) (below (done ++ e ∷ rest) k)) (is_above d.0 k lower)
    ∙ ap (λ r. d ∷ r) (below_up_to k done e rest (IsState-tail d (done ++ e ∷ rest) h) under none)

-- the last of entries is that of the last ones
pub last_append : (s : Map) (e : List ℕ × List ℕ) (t : Map) → last_key (s ++ e ∷ t) ≡ last_key (e ∷ t)
last_append [] e t = refl
last_append (d ∷ []) e t = refl
last_append (d ∷ f ∷ s) e t = last_append (f ∷ s) e t

last_of : (s done : Map) (e : List ℕ × List ℕ) → last_key (s ++ (done ++ e ∷ [])) ≡ e.0
last_of s done e = ap last_key (sym (append_assoc s done (e ∷ []))) ∙ last_append (s ++ done) e []

-- a key that is there stands somewhere
pub record Stands (s : Map) (q : List ℕ) : Type 0 where
  pub done : Map
  pub entry : List ℕ × List ℕ
  pub rest : Map
  pub whole : done ++ entry ∷ rest ≡ s
  pub key : entry.0 ≡ q

pub stands : (s : Map) (q : List ℕ) → is_some (value_at s q) ≡ true → Stands s q
stands [] q there = absurd (cc)
stands (e ∷ s) q there =
    ⊎_elim
    (λ here. record { done = []; entry = e; rest = s; whole = refl; key = sym (exact q e.0 here) })
    (λ away. let later = stands s q (sym (ap (λ b. is_some (cond b (Some e.1) (value_at s q))) away) ∙ there) in
    record {
      done = e ∷ later.done;
      entry = later.entry;
      rest = later.rest;
      whole = ap (λ l. e ∷ l) later.whole;
      key = later.key;
    })
    (cases_Bool (same q e.0))

-- the key before the next key is the key
prev_at : (done : Map) (e : List ℕ × List ℕ) (rest : Map) → IsState (done ++ e ∷ rest)
    → prev_key (done ++ e ∷ rest) (next_key (done ++ e ∷ rest) e.0) ≡ e.0
prev_at done e [] h =
    ap (prev_key (done ++ e ∷ [])) (next_of_last (done ++ e ∷ []) done e refl h)
    ∙ (ap (λ b. last_key ((done ++ e ∷ []) ++ b)) (none (done ++ e ∷ []) h)
    ∙ (ap last_key (append-nil (done ++ e ∷ [])) ∙ last_append done e []))
  where
    none : (s : Map) → IsState s → below s (first_key s) ≡ []
    none [] h = refl
    none (e ∷ s) h = below_first e s h
prev_at done e (f ∷ rest) h =
    ap (prev_key (done ++ e ∷ f ∷ rest)) (next_behind (done ++ e ∷ f ∷ rest) done e f rest refl h)
    ∙ (ap (λ b. last_key ((done ++ e ∷ f ∷ rest) ++ b)) (below_up_to f.0 done e (f
    ∷ rest) h (under done h) (below_first f rest (behind done h)))
    ∙ last_of (done ++ e ∷ f ∷ rest) done e)
  where
    under : (done : Map) → IsState (done ++ e ∷ f ∷ rest) → IsBelow e.0 f.0
    under [] h = first _ _ (first _ _ h)
    under (d ∷ done) h = under done (IsState-tail d (done ++ e ∷ f ∷ rest) h)

    behind : (done : Map) → IsState (done ++ e ∷ f ∷ rest) → IsState (f ∷ rest)
    behind [] h = IsState-tail e (f ∷ rest) h
    behind (d ∷ done) h = behind done (IsState-tail d (done ++ e ∷ f ∷ rest) h)

pub prev_of_next : (s : Map) (q : List ℕ) → IsState s → is_some (value_at s q) ≡ true → prev_key s (next_key s q) ≡ q
prev_of_next s q h there =
    let at = stands s q there in
    subst (λ k. prev_key s (next_key s k) ≡ k) at.key
    (subst (λ m. IsState m → prev_key m (next_key m at.entry.0) ≡ at.entry.0) at.whole
    (prev_at at.done at.entry at.rest) h)

-- what is below a key is not changed by that key
below_with : (s : Map) (y u : List ℕ) → below (with_entry s y u) y ≡ below s y
below_with [] y u = ap (λ o. cond (is_gt o) ((y, u) ∷ []) []) (tied_itself nat_list_cmp_total y)
below_with (e ∷ s) y u = of (key_order y e.0) refl (below_with s y u)
  where
    of : (o : Ordering) → key_order y e.0 ≡ o → below (with_entry s y u) y ≡ below s y
        → below (with_entry (e ∷ s) y u) y ≡ below (e ∷ s) y
    of Less is rest =
        ap (λ o. below (match_ordering o ((y, u) ∷ e ∷ s) ((e.0, u) ∷ s) (e ∷ with_entry s y u)) y) is
        ∙ ap (λ o. cond (is_gt o) ((y, u) ∷ below (e ∷ s) y) (below (e ∷ s) y)) (tied_itself nat_list_cmp_total y)
    of Equal is rest =
        ap (λ o. below (match_ordering o ((y, u) ∷ e ∷ s) ((e.0, u) ∷ s) (e ∷ with_entry s y u)) y) is
        ∙ (ap (λ o. cond (is_gt o) ((e.0, u) ∷ below s y) (below s y)) is
        ∙ sym (ap (λ o. cond (is_gt o) (e ∷ below s y) (below s y)) is))
    of Greater is rest =
        ap (λ o. below (match_ordering o ((y, u) ∷ e ∷ s) ((e.0, u) ∷ s) (e ∷ with_entry s y u)) y) is
        ∙ ap (λ r. cond (is_gt (key_order y e.0)) (e ∷ r) r) rest

-- a key that comes is put behind the key before it
prev_with : (s : Map) (y u q : List ℕ) → is_some (value_at s q) ≡ true → value_at s y ≡ None
    → prev_key (with_entry s y u) y ≡ prev_key s y
prev_with s y u q there absent =
    ap (λ b. last_key (with_entry s y u ++ b)) (below_with s y u) ∙ of (below s y) refl
  where
    front : (s : Map) → is_some (value_at s q) ≡ true → value_at s y ≡ None → below s y ≡ []
        → last_key (with_entry s y u) ≡ last_key s
    front [] there absent none = absurd (cc)
    front (e ∷ s) there absent none = by (key_order y e.0) refl
      where
        by : (o : Ordering) → key_order y e.0 ≡ o → last_key (with_entry (e ∷ s) y u) ≡ last_key (e ∷ s)
        by Less is = ap (λ o. last_key (match_ordering o ((y, u) ∷ e ∷ s) ((e.0, u) ∷ s) (e ∷ with_entry s y u))) is
        by Equal is = let gone : Some e.1 ≡ None =
            sym (ap (λ o. cond (is_eq o) (Some e.1) (value_at s y)) is) ∙ absent in absurd (cc)
        by Greater is = let some : e ∷ below s y ≡ [] =
            sym (ap (λ o. cond (is_gt o) (e ∷ below s y) (below s y)) is) ∙ none in absurd (cc)

    of : (b : Map) → below s y ≡ b → last_key (with_entry s y u ++ below s y) ≡ last_key (s ++ below s y)
    of [] is =
        ap (λ b. last_key (with_entry s y u ++ b)) is ∙ (ap last_key (append-nil (with_entry s y u))
        ∙ (front s there absent is ∙ (sym (ap last_key (append-nil s)) ∙ sym (ap (λ b. last_key (s ++ b)) is))))
    of (e ∷ t) is =
        ap (λ b. last_key (with_entry s y u ++ b)) is ∙ (last_append (with_entry s y u) e t
        ∙ (sym (last_append s e t) ∙ sym (ap (λ b. last_key (s ++ b)) is)))

pub prev_of_next_with : (s : Map) (y u q : List ℕ) → IsState s → is_some (value_at s q) ≡ true → value_at s y ≡ None
    → next_key (with_entry s y u) q ≡ y → prev_key s y ≡ q
prev_of_next_with s y u q h there absent next =
    let more : Map = with_entry s y u in
    let still : is_some (value_at more q) ≡ true = ap is_some (value_at-with_entry s y u q)
    ∙ kept (same q y) (value_at s q) there in
    sym (prev_with s y u q there absent)
    ∙ (ap (prev_key more) (sym next) ∙ prev_of_next more q (IsState-with_entry s y u h) still)
  where
    kept : (b : Bool) (o : Option (List ℕ)) → is_some o ≡ true → is_some (cond b (Some u) o) ≡ true
    kept true o h = refl
    kept false o h = h
