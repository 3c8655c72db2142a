-- Which operation of a log an encoding stands for, and what an active one says of the latest state.
use Rattle.std.proofs.Common.{◌≡◌, ◌≤◌, ◌+◌, ℕ, zero, suc, Bool, true, false, cond, not, ◌&&◌, ◌||◌, List, [], ◌∷◌}
use Rattle.std.proofs.Common.{◌++◌, length, map, Some, None, Ok, Err, Option, refl, sym, ◌∙◌, ap, subst, append_assoc}
use Rattle.std.proofs.Common.{arith}
use Rattle.std.proofs.lemmas.Option.{slice_get_within}
use Rattle.std.specs.List.{list_any}
use Rattle.std.specs.Prelude.{slice_get, option_map, unwrap_or}
use Rattle.merkle_forest.specs.Codec.{Outcome}
use Rattle.state_ops_parts.specs.Grammar.{Found}
use Rattle.state_ops.specs.Operation.{Operation, update, ordered, commit_floor, fixed_encoding}
use Rattle.state_ops.specs.Reading.{operation_at}
use Rattle.state_ops.specs.Spans.{is_in_span}
use Rattle.auth_store_parts.specs.History.{History, AreStates, active_location, activity_bits, batch_operations}
use Rattle.auth_store_parts.specs.History.{has_key, inactivity_floor, is_active, is_active_update, is_commit}
use Rattle.auth_store_parts.specs.History.{latest_map, log_of}
use Rattle.auth_store_parts.specs.Map.{next_key, value_at}
use Rattle.auth_store_parts.specs.Laws.Actives.{active_update-active, active_update-log_of, StandsAt-log_of}
use Rattle.auth_store_parts.specs.Laws.Logs.{IsState-latest_map}
use Rattle.auth_store_client.specs.Laws.Spans.{not_in_span}
use Rattle.auth_store_client.specs.Soundness.{IsAlone, IsReadAgain, AreReadAgain}

module _ (key value : List ℕ → Outcome) (key_size value_size : ℕ) where
  -- two operations with one encoding, both read again, are one
  pub same_operation : (one other : Operation) → IsReadAgain key value key_size value_size one
      → IsReadAgain key value key_size value_size other
      → fixed_encoding key_size value_size one ≡ fixed_encoding key_size value_size other → one ≡ other
  same_operation one other again read same =
      ap (held one) (sym again ∙ (ap (operation_at key value key_size value_size) same ∙ read))
    where
      held : Operation → Found Operation → Operation
      held none (Ok found) = found.0
      held none (Err e) = none

  -- so one that is read again is alone in a log of such
  pub alone_in : (log : List Operation) (operation : Operation) → AreReadAgain key value key_size value_size log
      → IsReadAgain key value key_size value_size operation → IsAlone key_size value_size log operation
  alone_in [] operation all read location other at same = absurd cc
  alone_in (op ∷ log) operation all read zero other at same =
      let here : op ≡ other = cc in
      same_operation other operation (subst (IsReadAgain key value key_size value_size) here all.0) read same
  alone_in (op ∷ log) operation all read (suc location) other at same =
      alone_in log operation all.1 read location other at same

-- what stands in a log under an encoding that is of no other operation there
pub stands : (key_size value_size : ℕ) (log : List Operation) (location : ℕ) (operation : Operation)
    → IsAlone key_size value_size log operation
    → slice_get (map (fixed_encoding key_size value_size) log) location
    ≡ Some (fixed_encoding key_size value_size operation)
    → slice_get log location ≡ Some operation
stands key_size value_size [] location operation alone is = absurd cc
stands key_size value_size (op ∷ log) zero operation alone is =
    let same : fixed_encoding key_size value_size op ≡ fixed_encoding key_size value_size operation = cc in
    ap Some (alone 0 op refl same)
stands key_size value_size (op ∷ log) (suc location) operation alone is =
    stands key_size value_size log location operation (λ at other there same. alone (suc at) other there same) is

-- an active update whose span holds a key leaves no room for it
pub no_room : (history : History) (location : ℕ) (key value next asked : List ℕ) → AreStates history
    → slice_get (log_of history) location ≡ Some (update (ordered key value next))
    → slice_get (activity_bits (log_of history)) location ≡ Some true → (asked ≡ key → ⊥)
    → is_in_span key next asked ≡ true
    → value_at (latest_map history) asked ≡ None
no_room history location key value next asked states at bit other inside =
    of (value_at (latest_map history) asked) refl
  where
    entry : option_map {U =
        List ℕ × List ℕ} (λ v. (v, next_key (latest_map history) key)) (value_at (latest_map history) key)
        ≡ Some (value, next)
    entry =
        sym (active_update-log_of key history states)
        ∙ active_update-active key value next (log_of history) location at bit

    second : (found : Option (List ℕ)) (v n m : List ℕ) → option_map {U =
        List ℕ × List ℕ} (λ w. (w, m)) found ≡ Some (v, n) → m ≡ n
    second None v n m is = absurd (cc)
    second (Some w) v n m is = let whole : Some (w, m) ≡ Some (v, n) = is in
        ap (λ (o : Option (List ℕ × List ℕ)). (unwrap_or o (v, m)).1) whole

    same_next : next_key (latest_map history) key ≡ next
    same_next = second (value_at (latest_map history) key) value next (next_key (latest_map history) key) entry

    of : (found : Option (List ℕ)) → value_at (latest_map history) asked ≡ found
        → value_at (latest_map history) asked ≡ None
    of None is = is
    of (Some v) is = absurd (not_in_span (latest_map history) key asked v (IsState-latest_map history states) is other
        (ap (λ n. is_in_span key n asked) same_next ∙ inside))

-- ---- the commit of an empty map

-- the active update of a log stands at its floor, or behind it
behind_floor : (log : List Operation) (location : ℕ) (k v n : List ℕ)
    → slice_get log location ≡ Some (update (ordered k v n))
    → slice_get (activity_bits log) location ≡ Some true → inactivity_floor log ≤ location
behind_floor [] location k v n at bit = absurd (cc)
behind_floor (op ∷ later) zero k v n at bit =
    let here : op ≡ update (ordered k v n) = cc in
    let active : is_active op later ≡ true = cc in
    let counts : is_active_update op later ≡ true = ap (λ b. not (is_commit op) && b) active
    ∙ ap (λ o. not (is_commit o) && true) here in
    rw (ap (λ b. cond b 0 (inactivity_floor later + 1)) counts) (omega arith)
behind_floor (op ∷ later) (suc location) k v n at bit =
    let low : inactivity_floor later ≤ location = behind_floor later location k v n at bit in
    elim (is_active_update op later) as (λ b. cond b 0 (inactivity_floor later + 1) ≤ suc location) [
      | true ↦ omega arith
      | false ↦ omega (arith, low)
    ]

-- a commit behind a log changes the activity of no update in it
any_behind : (k : List ℕ) (later : List Operation) (m : Option (List ℕ)) (f : ℕ)
    → list_any (has_key k) (later ++ commit_floor m f ∷ []) ≡ list_any (has_key k) later
any_behind k [] m f = refl
any_behind k (op ∷ later) m f = ap (λ b. has_key k op || b) (any_behind k later m f)

same_bit : (log : List Operation) (m : Option (List ℕ)) (f location : ℕ) (k v n : List ℕ)
    → slice_get (log ++ commit_floor m f ∷ []) location ≡ Some (update (ordered k v n))
    → slice_get (activity_bits (log ++ commit_floor m f ∷ [])) location ≡ Some true
    → (slice_get log location ≡ Some (update (ordered k v n))) × (slice_get (activity_bits log) location ≡ Some true)
same_bit [] m f zero k v n at bit =
    absurd (let e : ◌≡◌ {A = Operation} (commit_floor m f) (update (ordered k v n)) = cc in cc)
same_bit [] m f (suc location) k v n at bit = absurd (cc)
same_bit (op ∷ log) m f zero k v n at bit =
    let here : op ≡ update (ordered k v n) = cc in
    let said : is_active op (log ++ commit_floor m f ∷ []) ≡ true = cc in
    let one : is_active (update (ordered k v n)) log ≡ true =
    ap not (sym (any_behind k log m f)) ∙ (ap (λ o. is_active o (log ++ commit_floor m f ∷ [])) (sym here) ∙ said) in
    (ap Some here, ap Some (ap (λ o. is_active o log) here ∙ one))
same_bit (op ∷ log) m f (suc location) k v n at bit = same_bit log m f location k v n at bit

-- an active commit is the last operation, where one ends the log
pub last_commit : (log : List Operation) (m n : Option (List ℕ)) (f g location : ℕ)
    → slice_get (log ++ commit_floor m f ∷ []) location ≡ Some (commit_floor n g)
    → slice_get (activity_bits (log ++ commit_floor m f ∷ [])) location ≡ Some true → (location ≡ length log) × (f ≡ g)
last_commit [] m n f g zero at bit =
    let same : ◌≡◌ {A = Option Operation} (Some (commit_floor m f)) (Some (commit_floor n g)) = at in
    (refl, ap floor_in same)
  where
    floor_in : Option Operation → ℕ
    floor_in (Some (commit_floor m f)) = f
    floor_in _ = 0
last_commit [] m n f g (suc location) at bit = absurd (cc)
last_commit (op ∷ log) m n f g zero at bit =
    let here : op ≡ commit_floor n g = cc in
    let said : is_active op (log ++ commit_floor m f ∷ []) ≡ true = cc in
    let off : not (list_any is_commit (log ++ commit_floor m f ∷ [])) ≡ true =
    ap (λ o. is_active o (log ++ commit_floor m f ∷ [])) (sym here) ∙ said in
    absurd (let no : not true ≡ true = ap not (sym (has_commit log m f)) ∙ off in cc)
  where
    has_commit : (log : List Operation) (m : Option (List ℕ)) (f : ℕ)
        → list_any is_commit (log ++ commit_floor m f ∷ []) ≡ true
    has_commit [] m f = refl
    has_commit (op ∷ log) m f = ap (λ b. is_commit op || b) (has_commit log m f) ∙ or_true (is_commit op)
      where
        or_true : (b : Bool) → (b || true) ≡ true
        or_true true = refl
        or_true false = refl
last_commit (op ∷ log) m n f g (suc location) at bit =
    let rest = last_commit log m n f g location at bit in (omega (arith, rest.0), rest.1)

-- a log ends with a commit that records the floor of what stands before it
ends_with : (history : History) → AreStates history
    → (front : List Operation)
    × ((metadata : Option (List ℕ))
    × (log_of history ≡ front ++ commit_floor metadata (inactivity_floor front) ∷ []))
ends_with [] states = ([], (None, refl))
ends_with (commit ∷ history) states =
    let changes : List Operation = batch_operations (latest_map history) commit.map in (
      log_of history ++ changes,
      (
        commit.metadata,
        sym (append_assoc (log_of history) changes
            (commit_floor commit.metadata (inactivity_floor (log_of history ++ changes)) ∷ [])),
      ),
    )

-- an active commit whose floor is its own place leaves room for no key
pub no_room_at_all : (history : History) (location : ℕ) (metadata : Option (List ℕ)) (asked : List ℕ)
    → AreStates history
    → slice_get (log_of history) location ≡ Some (commit_floor metadata location)
    → slice_get (activity_bits (log_of history)) location ≡ Some true → value_at (latest_map history) asked ≡ None
no_room_at_all history location metadata asked states at bit = of (value_at (latest_map history) asked) refl
  where
    of : (found : Option (List ℕ)) → value_at (latest_map history) asked ≡ found
        → value_at (latest_map history) asked ≡ None
    of None is = is
    of (Some v) is =
        let whole = ends_with history states in
        let front : List Operation = whole.0 in
        let ended : List Operation = front ++ commit_floor whole.1.0 (inactivity_floor front) ∷ [] in
        let last = last_commit front whole.1.0 metadata (inactivity_floor front) location location
        (subst (λ log. slice_get log location ≡ Some (commit_floor metadata location)) whole.1.1 at)
        (subst (λ log. slice_get (activity_bits log) location ≡ Some true) whole.1.1 bit) in
        let there = StandsAt-log_of asked v history states is in
        let place : ℕ = active_location asked (log_of history) in
        let next : List ℕ = next_key (latest_map history) asked in
        let inner = same_bit front whole.1.0 (inactivity_floor front) place asked v next
        (subst (λ log. slice_get log place ≡ Some (update (ordered asked v next))) whole.1.1 there.update_at)
        (subst (λ log. slice_get (activity_bits log) place ≡ Some true) whole.1.1 there.bit_at) in
        let low = behind_floor front place asked v next inner.0 inner.1 in
        let within = slice_get_within front place (update (ordered asked v next)) inner.0 in
        absurd (omega (arith, last.0, last.1, low, within))
