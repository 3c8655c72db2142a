-- The first key of the new state is told by the last operation of a batch that passes the walk.
use Rattle.std.proofs.Common.{◌≡◌, ℕ, Bool, true, false, ◌&&◌, not, List, [], ◌∷◌, ◌++◌, Option, None, Some}
use Rattle.std.proofs.Common.{refl, ap, sym, ◌∙◌}
use Rattle.std.specs.Prelude.{◌||◌, if◌then◌else◌}
use Rattle.std.proofs.lemmas.Bool.{and_parts}
use Rattle.std.specs.Str.{bytes_eq}
use Rattle.std.specs.Ordering.{is_lt}
use Rattle.state_ops.specs.Operation.{Operation, delete, update, ordered, commit_floor}
use Rattle.auth_store_parts.specs.Map.{Map, key_order, entry_of}
use Rattle.auth_store_parts.specs.Chains.{Pointer, first_of, behind, is_at_key, is_past, is_one, closes, first_after}
use Rattle.auth_store_parts.specs.Chains.{over_delete, over_update, over_deletes, up_to_update, walk, is_walk}
use Rattle.auth_store_parts.proofs.Pointers.{apart, at_key, one}

-- the last operation tells it, whatever stands before
last_tells : (first : Pointer) (D : List Operation) (operation : Operation) (U : List Operation)
    → first_after first (D ++ operation ∷ U) ≡ first_after first (operation ∷ U)
last_tells first [] operation U = refl
last_tells first (d ∷ []) operation U = refl
last_tells first (d ∷ other ∷ D) operation U = last_tells first (other ∷ D) operation U

module _ (old : Map) (first_old first_new : Pointer) where
  -- what a delete that passes shows, and how the walk goes on behind it
  over_one : (o : Option (List ℕ × List ℕ)) (k : List ℕ) (go : Pointer → Pointer → Bool) (p q : Pointer)
      → over_delete o k go p q ≡ true
      → (is_at_key p k ≡ true) × (is_past q k ≡ true) × (r : Pointer) × (go r q ≡ true)
  over_one None k go p q e = absurd (cc)
  over_one (Some w) k go p q e =
      let all = and_parts (is_at_key p k && is_past q k) _ e in
      let at = and_parts (is_at_key p k) _ all.0 in
      (at.0, at.1, behind k w.1, all.1)

  -- where the new chain isn't at its end, deletes alone leave the first key as it is
  ends_one : (D : List Operation) (p : Pointer) (n : List ℕ)
      → over_deletes old first_old first_new D p (Some n) ≡ true → first_new ≡ first_old
  ends_one [] None n e = absurd (cc)
  ends_one [] (Some x) n e = one first_new first_old (and_parts (bytes_eq x n) _ e).1
  ends_one (delete k ∷ D) p n e =
      let over = over_one (entry_of old k) k (over_deletes old first_old first_new D) p (Some n) e in
      ends_one D over.2 n over.3
  ends_one (update fields ∷ D) p n e = absurd (cc)
  ends_one (commit_floor m f ∷ D) p n e = absurd (cc)

  -- what an update that passes shows, and where the walk goes on behind it
  abbrev Passes : List ℕ → List ℕ → (List Operation → Pointer → Pointer → Bool) → Type 0
  Passes k n go = (D : List Operation) × (p : Pointer) × (closes first_new k n ≡ true)
      × (go D p (behind k n) ≡ true)

  update_passes : (o : Option (List ℕ × List ℕ)) (k v n : List ℕ) (go : List Operation → Pointer → Pointer → Bool)
      (D : List Operation) (p q : Pointer) → over_update first_new o k v n (go D) p q ≡ true
      → Passes k n go
  update_passes None k v n go D p q e =
      let all = and_parts ((is_at_key q k && is_past p k) && closes first_new k n) _ e in
      (D, p, (and_parts (is_at_key q k && is_past p k) _ all.0).1, all.1)
  update_passes (Some w) k v n go D p q e =
      let changed : Bool = not (bytes_eq w.0 v && bytes_eq w.1 n) in
      let all = and_parts (changed
      && ((is_one p q && not (is_past p k)) && closes first_new k n)) _ e in
      let right = and_parts (is_one p q && not (is_past p k)) _ (and_parts changed _ all.0).1 in
      (D, behind k w.1, right.1, all.1)

  reaches : (k v n : List ℕ) (go : List Operation → Pointer → Pointer → Bool) (D : List Operation) (p q : Pointer)
      → up_to_update old first_new k v n go D p q ≡ true → Passes k n go
  reaches k v n go [] p q e = update_passes (entry_of old k) k v n go [] p q e
  reaches k v n go (delete l ∷ D) p q e =
      let further : Pointer → Pointer → Bool = up_to_update old first_new k v n go D in
      elim (is_lt (key_order l k)) as (λ b.
      (if b then over_delete (entry_of old l) l further p q
      else over_update first_new (entry_of old k) k v n (go (delete l ∷ D)) p q) ≡ true
      → Passes k n go) [
        | true ↦ λ e.
            let over = over_one (entry_of old l) l further p q e in
            reaches k v n go D over.2 q over.3
        | false ↦ update_passes (entry_of old k) k v n go (delete l ∷ D) p q
      ] e
  reaches k v n go (update fields ∷ D) p q e = absurd (cc)
  reaches k v n go (commit_floor m f ∷ D) p q e = absurd (cc)

  -- the last update tells the first key
  by_update : (k n : List ℕ) (b : Bool) (D : List Operation) (p : Pointer) → (b || is_at_key first_new n) ≡ true
      → over_deletes old first_old first_new D p (if b then Some n else None) ≡ true
      → first_new ≡ (if b then first_old else Some n)
  by_update k n true D p closed e = ends_one D p n e
  by_update k n false D p closed e = at_key first_new n closed

  by_updates : (k v n : List ℕ) (U D : List Operation) (p q : Pointer)
      → walk old first_old first_new (update (ordered k v n) ∷ U) D p q ≡ true
      → first_new ≡ first_after first_old (update (ordered k v n) ∷ U)
  by_updates k v n [] D p q e =
      let reached = reaches k v n (over_deletes old first_old first_new) D p q e in
      by_update k n (is_lt (key_order k n)) reached.0 reached.1 reached.2 reached.3
  by_updates k v n (delete l ∷ U) D p q e =
      let reached = reaches k v n (walk old first_old first_new (delete l ∷ U)) D p q e in
      let never = reached.3 in absurd (cc)
  by_updates k v n (update (ordered l w m) ∷ U) D p q e =
      let reached = reaches k v n (walk old first_old first_new (update (ordered l w m) ∷ U)) D p q e in
      by_updates l w m U reached.0 reached.1 (behind k n) reached.3
  by_updates k v n (commit_floor m f ∷ U) D p q e =
      let reached = reaches k v n (walk old first_old first_new (commit_floor m f ∷ U)) D p q e in
      let never = reached.3 in absurd (cc)

  -- where there are deletes alone, nothing is left
  none_after : (k : List ℕ) (D : List Operation) (p q : Pointer)
      → over_deletes old first_old first_new (delete k ∷ D) p q ≡ true
      → first_after first_old ((delete k ∷ D) ++ []) ≡ None
  none_after k [] p q e = refl
  none_after k (delete l ∷ D) p q e =
      let over = over_one (entry_of old k) k (over_deletes old first_old first_new (delete l ∷ D)) p q e in
      none_after l D over.2 q over.3
  none_after k (update fields ∷ D) p q e =
      let never = (over_one (entry_of old k) k (over_deletes old first_old first_new (update fields ∷ D)) p q e).3 in
      absurd (cc)
  none_after k (commit_floor m f ∷ D) p q e =
      let never = (over_one (entry_of old k) k (over_deletes old first_old first_new (commit_floor m f ∷ D)) p q e).3 in
      absurd (cc)

-- where the first operation is a delete and deletes alone pass, the new state is empty
none_left : (old : Map) (first_new : Pointer) (k : List ℕ) (D : List Operation) (p : Pointer)
    → over_deletes old p first_new (delete k ∷ D) p first_new ≡ true → first_new ≡ None
none_left old None k D p e = refl
none_left old (Some n) k D p e =
    let over = over_one old p (Some n) (entry_of old k) k (over_deletes old p (Some n) D) p (Some n) e in
    let same : Some n ≡ p = ends_one old p (Some n) (delete k ∷ D) p n e in
    absurd (apart p k over.0 (ap (λ r. is_past r k) (sym same) ∙ over.1))

-- the first key of the new state is the one that the last operation tells
pub walk_first : (old : Map) (first_new : Pointer) (U D : List Operation) → is_walk old first_new U D ≡ true
    → first_new ≡ first_after (first_of old) (D ++ U)
walk_first old first_new [] [] e =
    sym (one (first_of old) first_new (and_parts (is_one (first_of old) first_new) _ e).0)
walk_first old first_new [] (delete k ∷ D) e =
    none_left old first_new k D (first_of old) e
    ∙ sym (none_after old (first_of old) first_new k D (first_of old) first_new e)
walk_first old first_new [] (update fields ∷ D) e = absurd (cc)
walk_first old first_new [] (commit_floor m f ∷ D) e = absurd (cc)
walk_first old first_new (delete k ∷ U) D e = absurd (cc)
walk_first old first_new (update (ordered k v n) ∷ U) D e =
    by_updates old (first_of old) first_new k v n U D (first_of old) first_new e
    ∙ sym (last_tells (first_of old) D (update (ordered k v n)) U)
walk_first old first_new (commit_floor m f ∷ U) D e = absurd (cc)
