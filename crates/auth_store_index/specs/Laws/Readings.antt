-- The state of a log is read at its places.
use Rattle.std.proofs.Common.{◌≡◌, ℕ, suc, ◌+◌, Bool, true, false, cond, ◌&&◌, List, [], ◌∷◌, ◌++◌, length, Option}
use Rattle.std.proofs.Common.{None, Some, option_map, slice_get, refl, ap, sym, subst, ◌∙◌, arith, append_assoc}
use Rattle.std.proofs.Common.{length-append, ⊎_elim}
use Rattle.std.proofs.lemmas.Bool.{cases_Bool}
use Rattle.std.specs.Prelude.{is_some}
use Rattle.std.specs.declared.cmp.Ordering.TheVariants.{Less, Equal, Greater}
use Rattle.std.specs.Ordering.{match_ordering, is_lt}
use Rattle.state_ops.specs.Operation.{Operation, delete, update, ordered, commit_floor}
use Rattle.auth_store_parts.specs.Map.{Map, key_order, with_entry, without_key, value_at, next_key, above, first_key}
use Rattle.auth_store_parts.specs.Places.{places_of, placed}
use Rattle.auth_store_parts.specs.History.{History, AreStates, latest_map, log_of, replayed, is_active, is_active_on}
use Rattle.auth_store_parts.specs.History.{active_location}
use Rattle.auth_store_parts.specs.Laws.Lookups.{same, exact}
use Rattle.auth_store_parts.specs.Laws.Logs.{replayed-log_of}
use Rattle.auth_store_parts.specs.Laws.Places.{value_at-places_of, place_found}
use Rattle.auth_store_index.specs.Readings.{value_of, value_read, state_read}
use Rattle.auth_store_index.specs.Sources.{HasUpdate}

read-with_entry : (log : List Operation) (places : Map) (k p : List ℕ)
    → state_read log (with_entry places k p) ≡ with_entry (state_read log places) k (value_read log p)
read-with_entry log [] k p = refl
read-with_entry log (e ∷ places) k p =
    elim (key_order k e.0) as (λ o. state_read log
    (match_ordering o ((k, p) ∷ e ∷ places) ((e.0, p) ∷ places) (e ∷ with_entry places k p))
    ≡ match_ordering o ((k, value_read log p) ∷ state_read log (e ∷ places))
    ((e.0, value_read log p) ∷ state_read log places)
    ((e.0, value_read log e.1) ∷ with_entry (state_read log places) k (value_read log p))) [
      | Less ↦ refl
      | Equal ↦ refl
      | Greater ↦ ap (λ r. (e.0, value_read log e.1) ∷ r) (read-with_entry log places k p)
    ]

read-without_key : (log : List Operation) (places : Map) (k : List ℕ)
    → state_read log (without_key places k) ≡ without_key (state_read log places) k
read-without_key log [] k = refl
read-without_key log (e ∷ places) k =
    elim (same k e.0) as (λ b. state_read log (cond b places (e ∷ without_key places k))
    ≡ cond b (state_read log places) ((e.0, value_read log e.1) ∷ without_key (state_read log places) k)) [
      | true ↦ refl
      | false ↦ ap (λ r. (e.0, value_read log e.1) ∷ r) (read-without_key log places k)
    ]

get_there : (done later : List Operation) (op : Operation) → slice_get (done ++ op ∷ later) (length done) ≡ Some op
get_there [] later op = refl
get_there (d ∷ done) later op = get_there done later op

one_more : (done : List Operation) (op : Operation) → length (done ++ op ∷ []) ≡ length done + 1
one_more done op = length-append done (op ∷ [])

-- operations that stand in a log behind others lead from what is read at some places to what is read at the next ones
read-placed : (log done ops : List Operation) (places : Map) → log ≡ done ++ ops
    → state_read log (placed (length done) places ops) ≡ replayed (state_read log places) ops
read-placed log done [] places is = refl
read-placed log done (delete k ∷ later) places is =
    ap (λ n. state_read log (placed n (without_key places k) later)) (sym (one_more done (delete k)))
    ∙ (read-placed log (done ++ delete k ∷ []) later (without_key places k)
    (is ∙ sym (append_assoc done (delete k ∷ []) later))
    ∙ ap (λ s. replayed s later) (read-without_key log places k))
read-placed log done (update (ordered k v n) ∷ later) places is =
    let op : Operation = update (ordered k v n) in
    let value : value_read log (length done ∷ []) ≡ v =
    ap (λ l. value_of (slice_get l (length done))) is ∙ ap value_of (get_there done later op) in
    ap (λ m. state_read log (placed m (with_entry places k (length done ∷ [])) later)) (sym (one_more done op))
    ∙ (read-placed log (done ++ op ∷ []) later (with_entry places k (length done ∷ []))
    (is ∙ sym (append_assoc done (op ∷ []) later))
    ∙ (ap (λ s. replayed s later) (read-with_entry log places k (length done ∷ []))
    ∙ ap (λ w. replayed (with_entry (state_read log places) k w) later) value))
read-placed log done (commit_floor m f ∷ later) places is =
    ap (λ n. state_read log (placed n places later)) (sym (one_more done (commit_floor m f)))
    ∙ read-placed log (done ++ commit_floor m f ∷ []) later places
    (is ∙ sym (append_assoc done (commit_floor m f ∷ []) later))

pub read-places_of : (log : List Operation) → state_read log (places_of log) ≡ replayed [] log
read-places_of log = read-placed log [] log [] refl

pub read-log_of : (h : History) → AreStates h → state_read (log_of h) (places_of (log_of h)) ≡ latest_map h
read-log_of h s = read-places_of (log_of h) ∙ replayed-log_of h s

-- a key's value is read at its place
pub value_at-read : (log : List Operation) (places : Map) (k : List ℕ)
    → value_at (state_read log places) k ≡ option_map (value_read log) (value_at places k)
value_at-read log [] k = refl
value_at-read log (e ∷ places) k =
    elim (same k e.0) as (λ b. cond b (Some (value_read log e.1)) (value_at (state_read log places) k)
    ≡ option_map (value_read log) (cond b (Some e.1) (value_at places k))) [
      | true ↦ refl
      | false ↦ value_at-read log places k
    ]

above-read : (log : List Operation) (places : Map) (k : List ℕ)
    → above (state_read log places) k ≡ state_read log (above places k)
above-read log [] k = refl
above-read log (e ∷ places) k =
    elim (is_lt (key_order k e.0)) as (λ b. cond b ((e.0, value_read log e.1) ∷ above (state_read log places) k)
    (above (state_read log places) k) ≡ state_read log (cond b (e ∷ above places k) (above places k))) [
      | true ↦ ap (λ r. (e.0, value_read log e.1) ∷ r) (above-read log places k)
      | false ↦ above-read log places k
    ]

first-read : (log : List Operation) (one other : Map)
    → first_key (state_read log one ++ state_read log other) ≡ first_key (one ++ other)
first-read log [] [] = refl
first-read log [] (e ∷ other) = refl
first-read log (e ∷ one) other = refl

-- the next keys are those of the places
pub next_key-read : (log : List Operation) (places : Map) (k : List ℕ)
    → next_key (state_read log places) k ≡ next_key places k
next_key-read log places k =
    ap (λ r. first_key (r ++ state_read log places)) (above-read log places k) ∙ first-read log (above places k) places

pub value_at-replayed : (log : List Operation) (k : List ℕ)
    → value_at (replayed [] log) k ≡ option_map (value_read log) (value_at (places_of log) k)
value_at-replayed log k = ap (λ s. value_at s k) (sym (read-places_of log)) ∙ value_at-read log (places_of log) k

pub next_key-replayed : (log : List Operation) (k : List ℕ) → next_key (replayed [] log) k ≡ next_key (places_of log) k
next_key-replayed log k = ap (λ s. next_key s k) (sym (read-places_of log)) ∙ next_key-read log (places_of log) k

-- an update of the key stands at this location
abbrev IsUpdated : List ℕ → List Operation → ℕ → Type 0
IsUpdated q log at = (v : List ℕ) × (n : List ℕ) × (slice_get log at ≡ Some (update (ordered q v n)))

-- what stands at a key's location is an update of it
updated_where_located : (q : List ℕ) (log : List Operation) → is_some (slice_get log (active_location q log)) ≡ true
    → IsUpdated q log (active_location q log)
updated_where_located q [] is = absurd (cc)
updated_where_located q (op ∷ later) is =
    ⊎_elim
    (λ (on : is_active_on q op later ≡ true). here op refl on)
    (λ (off : is_active_on q op later ≡ false). behind off (updated_where_located q later
    (sym (ap is_some (passed off)) ∙ is)))
    (cases_Bool (is_active_on q op later))
  where
    passed : is_active_on q op later ≡ false
        → slice_get (op ∷ later) (active_location q (op ∷ later)) ≡ slice_get later (active_location q later)
    passed off =
        let there : active_location q (op ∷ later) ≡ suc (active_location q later) =
        ap (λ b. cond b 0 (active_location q later + 1)) off ∙ omega arith in
        ap (slice_get (op ∷ later)) there

    behind : is_active_on q op later ≡ false → IsUpdated q later (active_location q later)
        → IsUpdated q (op ∷ later) (active_location q (op ∷ later))
    behind off found = (found.0, found.1, passed off ∙ found.2)

    both : (a b : Bool) → (a && b) ≡ true → (a ≡ true) × (b ≡ true)
    both true b h = (refl, h)
    both false b h = absurd (cc)

    here : (o : Operation) → o ≡ op → is_active_on q o later ≡ true
        → IsUpdated q (op ∷ later) (active_location q (op ∷ later))
    here (delete k) is on = absurd (let none : false ≡ true = (both (same q k) false on).1 in cc)
    here (commit_floor m f) is on = absurd (let none : false ≡ true = on in cc)
    here (update (ordered k v n)) is on =
        let own : is_active_on q op later ≡ true = subst (λ o. is_active_on q o later ≡ true) is on in
        let first : active_location q (op ∷ later) ≡ 0 = ap (λ b. cond b 0 (active_location q later + 1)) own in
        let key : k ≡ q = sym (exact q k (both (same q k) (is_active (update (ordered k v n)) later) on).0) in (
          v,
          n,
          ap (slice_get (op ∷ later)) first ∙ (ap Some (sym is) ∙ ap (λ x. Some (update (ordered x v n))) key),
        )

-- an update stands at a key's place
pub has_update : (q : List ℕ) (log : List Operation) (place : ℕ) → value_at (places_of log) q ≡ Some (place ∷ [])
    → HasUpdate log place
has_update q log place found =
    let at : active_location q log ≡ place = place_found q log place found in
    let there : IsUpdated q log (active_location q log) = updated_where_located q log
    (one (slice_get log (active_location q log)) (sym (value_at-places_of q log) ∙ found)) in
    (q, there.0, there.1, ap (slice_get log) (sym at) ∙ there.2)
  where
    one : (o : Option Operation) → option_map (λ _. active_location q log ∷ []) o ≡ Some (place ∷ []) → is_some o ≡ true
    one None is = absurd (cc)
    one (Some op) is = refl
