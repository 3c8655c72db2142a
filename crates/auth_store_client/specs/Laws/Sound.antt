-- An active operation that is encoded as an update is that update, and says what the key has.
use Rattle.std.proofs.Common.{◌≡◌, ℕ, zero, suc, true, false, cond, List, [], ◌∷◌, ◌++◌, length, drop, map, replicate}
use Rattle.std.proofs.Common.{Some, refl, sym, ◌∙◌, ap, arith, append_assoc}
use Rattle.std.specs.Prelude.{is_some, slice_get, slice_index_or, ◌-◌}
use Rattle.std.specs.List.{AllByRecursion}
use Rattle.merkle_forest.specs.Laws.Matching.{append_parts}
use Rattle.state_ops.specs.Operation.{Operation, delete, update, ordered, commit_floor, fixed_size, unpadded}
use Rattle.state_ops.specs.Operation.{fixed_encoding}
use Rattle.state_theory.specs.MadeRanges.{HasActive}
use Rattle.auth_store_parts.specs.Map.{Map, value_at, next_key}
use Rattle.auth_store_parts.specs.History.{History, AreStates, latest_map, is_kept, deletes, updates, batch_operations}
use Rattle.auth_store_parts.specs.History.{inactivity_floor, log_of}
use Rattle.auth_store_client.specs.Soundness.{HasSizes}
use Rattle.auth_store_client.specs.States.{state_of_history}
use Rattle.auth_store_parts.specs.Laws.Actives.{latest-active}

module _ (key_size value_size : ℕ) where
  -- an update's key and value have their sizes
  abbrev IsSized : Operation → Type 0
  IsSized (delete k) = Unit {0}
  IsSized (update (ordered k v n)) = (length k ≡ key_size) × (length v ≡ value_size)
  IsSized (commit_floor m f) = Unit {0}

  abbrev AreSized : List Operation → Type 0
  AreSized log = AllByRecursion IsSized log

  abbrev AreEntries : Map → Type 0
  AreEntries entries =
      AllByRecursion (λ (entry : List ℕ × List ℕ). (length entry.0 ≡ key_size) × (length entry.1 ≡ value_size)) entries

  sized_append : (xs ys : List Operation) → AreSized xs → AreSized ys → AreSized (xs ++ ys)
  sized_append [] ys x y = y
  sized_append (op ∷ xs) ys x y = (x.0, sized_append xs ys x.1 y)

  sized_deletes : (entries new : Map) → AreSized (deletes entries new)
  sized_deletes [] new = tt
  sized_deletes (e ∷ entries) new =
      elim (is_some (value_at new e.0)) as (λ b. AreSized (cond b [] (delete e.0 ∷ []) ++ deletes entries new)) [
        | true ↦ sized_deletes entries new
        | false ↦ (tt, sized_deletes entries new)
      ]

  sized_updates : (entries old new : Map) → AreEntries entries → AreSized (updates entries old new)
  sized_updates [] old new all = tt
  sized_updates (e ∷ entries) old new all =
      elim (is_kept old new e.0 e.1) as (λ b. AreSized (cond b [] (update (ordered e.0 e.1 (next_key new e.0)) ∷ [])
      ++ updates entries old new)) [
        | true ↦ sized_updates entries old new all.1
        | false ↦ (all.0, sized_updates entries old new all.1)
      ]

  sized_log : (h : History) → HasSizes key_size value_size h → AreSized (log_of h)
  sized_log [] all = (tt, tt)
  sized_log (c ∷ h) all =
      let ops : List Operation = batch_operations (latest_map h) c.map in
      sized_append (log_of h) (ops ++ commit_floor c.metadata (inactivity_floor (log_of h ++ ops))
      ∷ []) (sized_log h all.1)
      (sized_append ops (commit_floor c.metadata (inactivity_floor (log_of h ++ ops)) ∷ [])
      (sized_append (deletes (latest_map h) c.map) (updates c.map (latest_map h) c.map)
      (sized_deletes (latest_map h) c.map) (sized_updates c.map
      (latest_map h) c.map all.0))
      (tt, tt))

  abbrev encoding : Operation → List ℕ
  encoding = fixed_encoding key_size value_size

  -- an operation with this encoding
  record Encoded (log : List Operation) (location : ℕ) (bytes : List ℕ) : Type 0 where
    operation : Operation
    at : slice_get log location ≡ Some operation
    is : encoding operation ≡ bytes
    sized : IsSized operation

  encoded_at : (log : List Operation) (location : ℕ) (bytes : List ℕ) → AreSized log
      → slice_get (map encoding log) location ≡ Some bytes
      → Encoded log location bytes
  encoded_at [] location bytes all is = absurd cc
  encoded_at (op ∷ log) zero bytes all is = record {
    operation = op;
    at = refl;
    is = (let e : Some (encoding op) ≡ Some bytes = is in cc);
    sized = all.0;
  }
  encoded_at (op ∷ log) (suc location) bytes all is =
      let rest = encoded_at log location bytes all.1 is in
      record { operation = rest.operation; at = rest.at; is = rest.is; sized = rest.sized }

  head_same : (x y : ℕ) (xs ys : List ℕ) → x ∷ xs ≡ y ∷ ys → x ≡ y
  head_same x y xs ys same = ap (λ zs. slice_index_or zs 0 0) same

  regroup : (a b c d : List ℕ) → (a ++ (b ++ c)) ++ d ≡ a ++ (b ++ (c ++ d))
  regroup a b c d = simp append_assoc

  -- it is an update of this key and this value
  record IsUpdateOf (key value : List ℕ) (operation : Operation) : Type 0 where
    next : List ℕ
    is : operation ≡ update (ordered key value next)

  update_is : (key value next : List ℕ) → length key ≡ key_size → length value ≡ value_size
      → (operation : Operation) → IsSized operation
      → encoding operation ≡ encoding (update (ordered key value next)) → IsUpdateOf key value operation
  update_is key value next wide long (delete k) sized same =
      absurd (let tag = head_same 0xD1 0xD2 _ _ same in omega (arith, tag))
  update_is key value next wide long (commit_floor m f) sized same =
      absurd (let tag = head_same 0xD3 0xD2 _ _ same in omega (arith, tag))
  update_is key value next wide long (update (ordered k v n)) sized same =
      let zeros : Operation
      → List ℕ = λ op. replicate (fixed_size key_size value_size - length (unpadded value_size op)) 0 in
      let one : List ℕ = zeros (update (ordered k v n)) in
      let other : List ℕ = zeros (update (ordered key value next)) in
      let bytes : k ++ (v ++ (n ++ one)) ≡ key ++ (value ++ (next ++ other)) = sym (regroup k v n one)
      ∙ ap (drop 1) same ∙ regroup key value next other in
      let first = append_parts k (v ++ (n ++ one)) key (value ++ (next ++ other)) (sized.0 ∙ sym wide) bytes in
      let second = append_parts v (n ++ one) value (next ++ other) (sized.1 ∙ sym long) first.1 in
      record { next = n; is = ap (λ x. update (ordered x v n)) first.0 ∙ ap (λ x. update (ordered key x n)) second.0 }

  -- where a state has an active operation with the encoding of an update, the update says what the key has
  pub has_value_there : (history : History) (location : ℕ) (key value next : List ℕ) → AreStates history
      → HasSizes key_size value_size history
      → length key ≡ key_size → length value ≡ value_size
      → HasActive (state_of_history key_size value_size history) location (encoding (update (ordered key value next)))
      → value_at (latest_map history) key ≡ Some value
  has_value_there history location key value next states sizes wide long there =
      let it = encoded_at (log_of history) location (encoding (update (ordered key value next)))
      (sized_log history sizes) there.stands in
      let own = update_is key value next wide long it.operation it.sized it.is in
      latest-active key value own.next history location states (it.at ∙ ap (λ op. Some op) own.is) there.active
