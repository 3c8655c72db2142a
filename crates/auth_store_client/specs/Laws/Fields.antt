-- The keys and values of a history are some where those of the operations of its log are, and only there.
use Rattle.std.proofs.Common.{◌≡◌, ℕ, ◌≤◌, ◌^◌, ◌+◌, Bool, true, false, cond, List, [], ◌∷◌, ◌++◌, length, arith}
use Rattle.std.proofs.Common.{Some, length-append, refl, sym, subst}
use Rattle.std.specs.Prelude.{IfSome, is_some}
use Rattle.std.specs.List.{AllByRecursion}
use Rattle.std.specs.Ordering.{is_lt}
use Rattle.std.specs.Str.{bytes_eq}
use Rattle.state_ops.specs.Operation.{Operation, delete, update, ordered, commit_floor}
use Rattle.state_ops.specs.Reading.{IsOfFields}
use Rattle.auth_store_parts.specs.Map.{Map, key_order, value_at, above, first_key, next_key}
use Rattle.auth_store_parts.specs.History.{History, latest_map, is_kept, deletes, updates, batch_operations}
use Rattle.auth_store_parts.specs.History.{inactivity_floor, log_of}
use Rattle.auth_store_parts.specs.Laws.Floors.{floor_within}
use Rattle.auth_store_parts.specs.Laws.Logs.{kept_value}
use Rattle.auth_store_parts.specs.Laws.Lookups.{same, exact}
use Rattle.auth_store_client.specs.Fields.{HasEntries, HasFields}

module _ (IsKey IsValue : List ℕ → Type 0) where
  -- the keys and the values that an operation names are some, and a floor is at most the greatest number of operations
  abbrev pub HasOwn : Operation → Type 0
  HasOwn (delete k) = IsKey k
  HasOwn (update (ordered k v n)) = IsKey k × (IsValue v × IsKey n)
  HasOwn (commit_floor m f) = IfSome m IsValue × (f ≤ 2 ^ 62)

  abbrev HaveOwn : List Operation → Type 0
  HaveOwn log = AllByRecursion HasOwn log

  own_append : (xs ys : List Operation) → HaveOwn xs → HaveOwn ys → HaveOwn (xs ++ ys)
  own_append [] ys x y = y
  own_append (op ∷ xs) ys x y = (x.0, own_append xs ys x.1 y)

  own_deletes : (entries new : Map) → HasEntries IsKey IsValue entries → HaveOwn (deletes entries new)
  own_deletes [] new all = tt
  own_deletes (e ∷ entries) new all =
      elim (is_some (value_at new e.0)) as (λ b. HaveOwn (cond b [] (delete e.0 ∷ []) ++ deletes entries new)) [
        | true ↦ own_deletes entries new all.1
        | false ↦ (all.0.0, own_deletes entries new all.1)
      ]

  -- the first key of some entries, behind which there is one
  first_own : (s : Map) (e : List ℕ × List ℕ) (rest : Map) → HasEntries IsKey IsValue s → IsKey e.0
      → IsKey (first_key (s ++ e ∷ rest))
  first_own [] e rest all one = one
  first_own (x ∷ s) e rest all one = all.0.0

  above_own : (s : Map) (q : List ℕ) → HasEntries IsKey IsValue s → HasEntries IsKey IsValue (above s q)
  above_own [] q all = tt
  above_own (e ∷ s) q all =
      elim (is_lt (key_order q e.0)) as (λ b. HasEntries IsKey IsValue (cond b (e ∷ above s q) (above s q))) [
        | true ↦ (all.0, above_own s q all.1)
        | false ↦ above_own s q all.1
      ]

  next_own : (e : List ℕ × List ℕ) (s : Map) (q : List ℕ) → HasEntries IsKey IsValue (e ∷ s)
      → IsKey (next_key (e ∷ s) q)
  next_own e s q all = first_own (above (e ∷ s) q) e s (above_own (e ∷ s) q all) all.0.0

  own_updates : (entries old new : Map) → HasEntries IsKey IsValue entries → ((q : List ℕ) → IsKey (next_key new q))
      → HaveOwn (updates entries old new)
  own_updates [] old new all next = tt
  own_updates (e ∷ entries) old new all next =
      elim (is_kept old new e.0 e.1) as (λ b. HaveOwn (cond b [] (update (ordered e.0 e.1 (next_key new e.0)) ∷ [])
      ++ updates entries old new)) [
        | true ↦ own_updates entries old new all.1 next
        | false ↦ ((all.0.0, (all.0.1, next e.0)), own_updates entries old new all.1 next)
      ]

  own_changes : (old new : Map) → HasEntries IsKey IsValue new → HaveOwn (updates new old new)
  own_changes old [] all = tt
  own_changes old (e ∷ new) all = own_updates (e ∷ new) old (e ∷ new) all (λ q. next_own e new q all)

  latest_own : (h : History) → HasFields IsKey IsValue h → HasEntries IsKey IsValue (latest_map h)
  latest_own [] all = tt
  latest_own (c ∷ h) all = all.0.0

  -- so are those of the operations of a history's log
  pub own_log : (h : History) → HasFields IsKey IsValue h → length (log_of h) ≤ 2 ^ 62 → HaveOwn (log_of h)
  own_log [] all few = ((tt, omega arith), tt)
  own_log (c ∷ h) all few =
      let ops : List Operation = batch_operations (latest_map h) c.map in
      let floor : ℕ = inactivity_floor (log_of h ++ ops) in
      let whole : length (log_of h ++ (ops ++ commit_floor c.metadata floor ∷ [])) ≡ length (log_of h)
      + length (ops ++ commit_floor c.metadata floor ∷ []) =
      length-append (log_of h) (ops ++ commit_floor c.metadata floor ∷ []) in
      let more : length (ops ++ commit_floor c.metadata floor ∷ []) ≡ length ops
      + 1 = length-append ops (commit_floor c.metadata floor ∷ []) in
      let both : length (log_of h ++ ops) ≡ length (log_of h) + length ops = length-append (log_of h) ops in
      own_append (log_of h) (ops ++ commit_floor c.metadata floor ∷ []) (own_log h all.1 (omega (arith, few, whole)))
      (own_append ops (commit_floor c.metadata floor ∷ [])
      (own_append (deletes (latest_map h) c.map) (updates c.map (latest_map h) c.map)
      (own_deletes (latest_map h) c.map (latest_own h all.1))
      (own_changes (latest_map h) c.map all.0.0))
      ((all.0.1, omega (arith, floor_within (log_of h ++ ops), few, whole, more, both)), tt))

  -- ---- what a log tells of its history

  abbrev NamesOwn : List Operation → Type 0
  NamesOwn log = AllByRecursion (IsOfFields IsKey IsValue) log

  front_own : (xs ys : List Operation) → NamesOwn (xs ++ ys) → NamesOwn xs
  front_own [] ys all = tt
  front_own (op ∷ xs) ys all = (all.0, front_own xs ys all.1)

  behind_own : (xs ys : List Operation) → NamesOwn (xs ++ ys) → NamesOwn ys
  behind_own [] ys all = all
  behind_own (op ∷ xs) ys all = behind_own xs ys all.1

  -- what a state has at a key
  found_own : (s : Map) (q v : List ℕ) → HasEntries IsKey IsValue s → value_at s q ≡ Some v → IsKey q × IsValue v
  found_own [] q v all found = absurd (cc)
  found_own (e ∷ s) q v all found = by (same q e.0) refl found (found_own s q v all.1)
    where
      by : (here : Bool) → same q e.0 ≡ here → cond here (Some e.1) (value_at s q) ≡ Some v
          → (value_at s q ≡ Some v → IsKey q × IsValue v) → IsKey q × IsValue v
      by true here is later =
          let value : e.1 ≡ v = cc in
          (subst IsKey (sym (exact q e.0 here)) all.0.0, subst IsValue value all.0.1)
      by false here is later = later is

  -- an entry of the new state is one of the old state, or an update says it
  own_entries : (entries old new : Map) → HasEntries IsKey IsValue old → NamesOwn (updates entries old new)
      → HasEntries IsKey IsValue entries
  own_entries [] old new was all = tt
  own_entries (e ∷ entries) old new was all = by (is_kept old new e.0 e.1) refl all (own_entries entries old new was)
    where
      by : (kept : Bool) → is_kept old new e.0 e.1 ≡ kept
          → NamesOwn (cond kept [] (update (ordered e.0 e.1 (next_key new e.0)) ∷ []) ++ updates entries old new)
          → (NamesOwn (updates entries old new) → HasEntries IsKey IsValue entries)
          → HasEntries IsKey IsValue (e ∷ entries)
      by true kept is later = (
        found_own old e.0 e.1 was
            (kept_value (value_at old e.0) e.1 (bytes_eq (next_key old e.0) (next_key new e.0)) kept),
        later is,
      )
      by false kept is later = ((is.0.0, is.0.1.0), later is.1)

  -- where those of the operations of its log are some, so are the keys and the values of a history
  pub own_history : (h : History) → NamesOwn (log_of h) → HasFields IsKey IsValue h
  own_history [] all = tt
  own_history (c ∷ h) all =
      let removed : List Operation = deletes (latest_map h) c.map in
      let ops : List Operation = batch_operations (latest_map h) c.map in
      let last : List Operation = commit_floor c.metadata (inactivity_floor (log_of h ++ ops)) ∷ [] in
      let before = own_history h (front_own (log_of h) (ops ++ last) all) in
      let after = behind_own (log_of h) (ops ++ last) all in
      let said = behind_own removed (updates c.map (latest_map h) c.map) (front_own ops last after) in
      ((own_entries c.map (latest_map h) c.map (latest_own h before) said, (behind_own ops last after).0.0), before)
