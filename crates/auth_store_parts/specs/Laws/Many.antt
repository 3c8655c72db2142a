-- A map that takes many entries at once is seen as the state that takes them one after the other.
use Rattle.std.proofs.Common.{◌≡◌, ℕ, Bool, true, false, cond, List, [], ◌∷◌, Option, None, Some, option_map, refl, ap}
use Rattle.std.proofs.Common.{sym, ◌∙◌, subst, ⊎_elim}
use Rattle.std.specs.declared.cmp.Ordering.{Ordering}
use Rattle.std.specs.Option.{option_or}
use Rattle.std.specs.Cmp.{IsTotalOrder, eq_by_cmp_equiv}
use Rattle.std.specs.Ordering.{eq_by_cmp}
use Rattle.std.specs.Map.{lookup, update, update_all, keys_of}
use Rattle.std.specs.BTreeMap.{BTreeMap, insert_entry, is_at, get, keys, IsOrdered, InsertsAll, IsFromIterResult}
use Rattle.std.specs.FinMap.Entries.{same_entries}
use Rattle.std.proofs.lemmas.Bool.{cases_Bool}
use Rattle.std.proofs.lemmas.Cmp.{nat_list_cmp_total}
use Rattle.std.proofs.lemmas.Map.Keys.{IsDistinct-from_sorted}
use Rattle.std.proofs.lemmas.Map.Lookups.{exact_bytes}
use Rattle.std.proofs.lemmas.Map.Made.{update_all_distinct, update_all_none}
use Rattle.auth_store_parts.specs.Map.{Map, state_of, with_entry, value_at, key_order}
use Rattle.auth_store_parts.specs.History.{IsState}
use Rattle.auth_store_parts.specs.Laws.Lookups.{same, exact, value_at-find, IsState-with_entry, lookup-insert_entry}
use Rattle.auth_store_parts.specs.Laws.Entries.{state_of-insert_entry, value_at-state_of}
use Rattle.auth_store_parts.specs.Laws.Neighbours.{state_sorted, sorted_state}

-- the state after all entries, put in one after the other
abbrev pub with_all : Map → List (List ℕ × List ℕ) → Map
with_all state [] = state
with_all state (e ∷ es) = with_all (with_entry state e.0 e.1) es

-- what holds of two functions at each key holds of them after the same pairs
updates_alike : {K V : Type 0} (P : K → Option V → Option V → Type 0) → ((q : K) (v : V) → P q (Some v) (Some v))
    → (same : K → K → Bool) (f g : K → Option V) → ((q : K) → P q (f q) (g q)) → (pairs : List (K × V)) (q : K)
    → P q (update_all same f pairs q) (update_all same g pairs q)
updates_alike P given same f g alike [] q = alike q
updates_alike P given same f g alike (p ∷ pairs) q =
    updates_alike P given same (update same f p.0 (Some p.1)) (update same g p.0 (Some p.1))
    (λ x. elim (same p.0 x) as (λ b. P x (cond b (Some p.1) (f x)) (cond b (Some p.1) (g x))) [
      | true ↦ given x p.1
      | false ↦ alike x
    ]) pairs q

module _ {K V : Type 0} (key : K → List ℕ) (value : V → List ℕ) (cmp : K → K → Ordering)
    (ordered : (a b : K) → cmp a b ≡ key_order (key a) (key b)) (total : IsTotalOrder cmp) where
  -- the key of what a state has
  key_there : (es : List (K × V)) (q v : List ℕ) → value_at (state_of key value es) q ≡ Some v → (k : K) × (key k ≡ q)
  key_there [] q v at = absurd (cc)
  key_there (e ∷ es) q v at =
      ⊎_elim (λ here. (e.0, sym (exact q (key e.0) here)))
      (λ away. key_there es q v
      (sym (ap (λ b. cond b (Some (value e.1)) (value_at (state_of key value es) q)) away) ∙ at))
      (cases_Bool (same q (key e.0)))

  -- states that have the same at each key of the code have the same at all
  alike_at : (es fs : List (K × V)) (q : List ℕ)
      → ((k : K) → value_at (state_of key value es) (key k) ≡ value_at (state_of key value fs) (key k))
      → value_at (state_of key value es) q ≡ value_at (state_of key value fs) q
  alike_at es fs q alike = by (value_at old q) (value_at new q) refl refl
    where
      old : Map
      old = state_of key value es

      new : Map
      new = state_of key value fs

      through : (k : K) → key k ≡ q → value_at old q ≡ value_at new q
      through k is = ap (value_at old) (sym is) ∙ (alike k ∙ ap (value_at new) is)

      by : (o r : Option (List ℕ)) → value_at old q ≡ o → value_at new q ≡ r → value_at old q ≡ value_at new q
      by None None at there = at ∙ sym there
      by None (Some v) at there = let k = key_there fs q v there in through k.0 k.1
      by (Some v) r at there = let k = key_there es q v at in through k.0 k.1

  -- maps that have the same at each key are seen as one state
  one_state : (es fs : List (K × V)) → IsState (state_of key value es) → IsState (state_of key value fs)
      → ((k : K) → lookup (is_at (cmp k)) es ≡ lookup (is_at (cmp k)) fs)
      → state_of key value es ≡ state_of key value fs
  one_state es fs s t alike =
      let old : Map = state_of key value es in
      let new : Map = state_of key value fs in
      same_entries key_order nat_list_cmp_total exact_bytes old new s t (λ q. sym (value_at-find q old)
      ∙ (alike_at es fs q (λ k. sym (value_at-state_of key value cmp ordered es k)
      ∙ (ap (option_map value) (alike k) ∙ value_at-state_of key value cmp ordered fs k))
      ∙ value_at-find q new))

  -- a map that has at each key what entries have after pairs is seen as the state with the pairs
  state_of-updates : (pairs es fs : List (K × V)) → IsState (state_of key value es) → IsState (state_of key value fs)
      → ((k : K) → lookup (is_at (cmp k)) fs ≡ update_all (eq_by_cmp cmp) (λ q. lookup (is_at (cmp q)) es) pairs k)
      → state_of key value fs ≡ with_all (state_of key value es) (state_of key value pairs)
  state_of-updates [] es fs s t has = one_state fs es t s has
  state_of-updates (p ∷ pairs) es fs s t has =
      let same = eq_by_cmp cmp in
      let at = λ (l : List (K × V)) (q : K). lookup (is_at (cmp q)) l in
      let next : List (K × V) = insert_entry cmp es p.0 p.1 in
      let put : state_of key value next ≡ with_entry (state_of key value es) (key p.0) (value p.1) =
      state_of-insert_entry key value cmp ordered es p.0 p.1 in
      state_of-updates pairs next fs (subst IsState (sym put)
      (IsState-with_entry (state_of key value es) (key p.0) (value p.1) s)) t
      (λ k. has k ∙ updates_alike (λ _ f g. f ≡ g) (λ _ _. refl) same (update same (at es) p.0 (Some p.1)) (at next)
      (λ q. ap (λ b. cond b (Some p.1) (at es q)) ((eq_by_cmp_equiv total).symm p.0 q)
      ∙ sym (lookup-insert_entry cmp total es p.0 p.1 q)) pairs k)
      ∙ ap (λ state. with_all state (state_of key value pairs)) put

  -- a map of pairs that is appended to a map stands for the pairs
  pub state_of-appended : (pairs : List (K × V)) (m made n : BTreeMap K V) → IsOrdered cmp m
      → IsFromIterResult cmp pairs made → InsertsAll cmp m made.entries n
      → state_of key value n.entries ≡ with_all (state_of key value m.entries) (state_of key value pairs)
  state_of-appended pairs m made n s from put =
      let same = eq_by_cmp cmp in
      state_of-updates pairs m.entries n.entries (state_sorted key value cmp ordered m.entries s)
      (state_sorted key value cmp ordered n.entries put.1)
      (λ q. put.0 q
      ∙ (update_all_distinct (eq_by_cmp_equiv total) same (λ _ _. refl) (get cmp m) made.entries q
      (IsDistinct-from_sorted cmp (keys made) from.1)
      ∙ (ap (λ o. option_or o (get cmp m q)) (from.0 q)
      ∙ sym (updates_alike (λ x f g. f ≡ option_or g (get cmp m x)) (λ _ _. refl) same (get cmp m) (λ _. None)
      (λ _. refl) pairs q))))

  -- a map that is made of ascending pairs stands for them
  pub state_of-made : (pairs : List (K × V)) (made : BTreeMap K V) → IsState (state_of key value pairs)
      → IsFromIterResult cmp pairs made → state_of key value made.entries ≡ state_of key value pairs
  state_of-made pairs made is from =
      one_state made.entries pairs (state_sorted key value cmp ordered made.entries from.1) is
      (λ q. from.0 q
      ∙ update_all_none (eq_by_cmp_equiv total) (eq_by_cmp cmp) (λ _ _. refl) pairs q
      (IsDistinct-from_sorted cmp (keys_of pairs) (sorted_state key value cmp ordered pairs is)))
