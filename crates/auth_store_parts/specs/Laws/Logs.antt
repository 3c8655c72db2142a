-- The log of a history stands for it.
use Rattle.std.proofs.Common.{◌≡◌, ℕ, Bool, true, false, cond, ◌&&◌, List, [], ◌∷◌, ◌++◌, Option, None, Some, refl, ap}
use Rattle.std.proofs.Common.{sym, ◌∙◌, ⊎_elim, append_assoc, length, length-append, ◌<◌, arith}
use Rattle.std.specs.Prelude.{is_some}
use Rattle.std.specs.Str.{bytes_eq}
use Rattle.std.proofs.lemmas.Bool.{cases_Bool}
use Rattle.std.proofs.lemmas.Map.Lookups.{exact_bytes}
use Rattle.std.proofs.lemmas.Map.Text.{is_eq-slice_cmp}
use Rattle.std.proofs.lemmas.Cmp.{nat_list_cmp_total}
use Rattle.std.specs.FinMap.Entries.{same_entries}
use Rattle.state_ops.specs.Operation.{Operation, delete, update, ordered, commit_floor}
use Rattle.auth_store_parts.specs.Map.{Map, with_entry, without_key, value_at, next_key, key_order}
use Rattle.auth_store_parts.specs.History.{History, latest_map, is_value, is_kept, deletes, updates, batch_operations}
use Rattle.auth_store_parts.specs.History.{inactivity_floor, with_commit, floor_after, last_floor, log_of, replayed}
use Rattle.auth_store_parts.specs.History.{history_from, history_of, IsState, AreStates}
use Rattle.auth_store_parts.specs.Batch as batch
use Rattle.auth_store_parts.specs.Batch.{Word, map_after}
use Rattle.auth_store_parts.specs.Laws.Lookups.{same, exact, value_at-find, none_later, IsState-tail}
use Rattle.auth_store_parts.specs.Laws.Lookups.{IsState-with_entry, IsState-without_key, value_at-with_entry}
use Rattle.auth_store_parts.specs.Laws.Lookups.{value_at-without_key}

pub replayed-append : (s : Map) (xs ys : List Operation) → replayed s (xs ++ ys) ≡ replayed (replayed s xs) ys
replayed-append s [] ys = refl
replayed-append s (delete k ∷ xs) ys = replayed-append (without_key s k) xs ys
replayed-append s (update (ordered k v n) ∷ xs) ys = replayed-append (with_entry s k v) xs ys
replayed-append s (commit_floor m f ∷ xs) ys = replayed-append s xs ys

history_from-append : (s : Map) (h : History) (xs ys : List Operation)
    → history_from s h (xs ++ ys) ≡ history_from (replayed s xs) (history_from s h xs) ys
history_from-append s h [] ys = refl
history_from-append s h (delete k ∷ xs) ys = history_from-append (without_key s k) h xs ys
history_from-append s h (update (ordered k v n) ∷ xs) ys = history_from-append (with_entry s k v) h xs ys
history_from-append s h (commit_floor m f ∷ xs) ys = history_from-append s (record { map = s; metadata = m } ∷ h) xs ys

-- the operations of a batch hold no commit
history_from-deletes : (es new s : Map) (h : History) → history_from s h (deletes es new) ≡ h
history_from-deletes [] new s h = refl
history_from-deletes (e ∷ es) new s h =
    elim (is_some (value_at new e.0)) as (λ b. history_from s h (cond b [] (delete e.0 ∷ []) ++ deletes es new) ≡ h) [
      | true ↦ history_from-deletes es new s h
      | false ↦ history_from-deletes es new (without_key s e.0) h
    ]

history_from-updates : (es old new s : Map) (h : History) → history_from s h (updates es old new) ≡ h
history_from-updates [] old new s h = refl
history_from-updates (e ∷ es) old new s h =
    elim (is_kept old new e.0 e.1) as (λ b. history_from s h
    (cond b [] (update (ordered e.0 e.1 (next_key new e.0)) ∷ []) ++ updates es old new) ≡ h) [
      | true ↦ history_from-updates es old new s h
      | false ↦ history_from-updates es old new (with_entry s e.0 e.1) h
    ]

history_from-batch : (old new s : Map) (h : History) → history_from s h (batch_operations old new) ≡ h
history_from-batch old new s h =
    history_from-append s h (deletes old new) (updates new old new)
    ∙ (history_from-updates new old new (replayed s (deletes old new)) (history_from s h (deletes old new))
    ∙ history_from-deletes old new s h)

-- states stay states
IsState-deletes : (es new s : Map) → IsState s → IsState (replayed s (deletes es new))
IsState-deletes [] new s h = h
IsState-deletes (e ∷ es) new s h =
    elim (is_some (value_at new e.0)) as (λ b. IsState (replayed s (cond b [] (delete e.0 ∷ []) ++ deletes es new))) [
      | true ↦ IsState-deletes es new s h
      | false ↦ IsState-deletes es new (without_key s e.0) (IsState-without_key s e.0 h)
    ]

IsState-updates : (es old new s : Map) → IsState s → IsState (replayed s (updates es old new))
IsState-updates [] old new s h = h
IsState-updates (e ∷ es) old new s h =
    elim (is_kept old new e.0 e.1) as (λ b. IsState (replayed s
    (cond b [] (update (ordered e.0 e.1 (next_key new e.0)) ∷ []) ++ updates es old new))) [
      | true ↦ IsState-updates es old new s h
      | false ↦ IsState-updates es old new (with_entry s e.0 e.1) (IsState-with_entry s e.0 e.1 h)
    ]

pub differ : (f : List ℕ → Bool) (q k : List ℕ) (a b : Bool) → f q ≡ a → f k ≡ b → (a ≡ b → ⊥) → same q k ≡ false
differ f q k a b at_q at_k apart = ⊎_elim (λ t. absurd (apart (sym at_q ∙ (ap f (exact q k t) ∙ at_k)))) (λ e. e)
    (cases_Bool (same q k))

pub true_false : true ≡ false → ⊥
true_false e = cc

pub false_true : false ≡ true → ⊥
false_true e = cc

-- deletes leave the keys of the new state as they are
deletes_keep : (es new s : Map) (q : List ℕ) → IsState s → is_some (value_at new q) ≡ true
    → value_at (replayed s (deletes es new)) q ≡ value_at s q
deletes_keep [] new s q h has = refl
deletes_keep (e ∷ es) new s q h has =
    ⊎_elim
    (λ t. ap (λ b. value_at (replayed s (cond b [] (delete e.0 ∷ []) ++ deletes es new)) q) t
    ∙ deletes_keep es new s q h has)
    (λ f. ap (λ b. value_at (replayed s (cond b [] (delete e.0 ∷ []) ++ deletes es new)) q) f
    ∙ (deletes_keep es new (without_key s e.0) q (IsState-without_key s e.0 h) has
    ∙ (value_at-without_key s e.0 q h
    ∙ ap (λ b. cond b None (value_at s q)) (differ (λ x. is_some (value_at new x)) q e.0 true false has f true_false))))
    (cases_Bool (is_some (value_at new e.0)))

-- and take out the others
deletes_drop : (es new s : Map) (q : List ℕ) → IsState s → is_some (value_at new q) ≡ false
    → (value_at es q ≡ None → value_at s q ≡ None) → value_at (replayed s (deletes es new)) q ≡ None
deletes_drop [] new s q h lacks gone = gone refl
deletes_drop (e ∷ es) new s q h lacks gone =
    ⊎_elim
    (λ t. ap (λ b. value_at (replayed s (cond b [] (delete e.0 ∷ []) ++ deletes es new)) q) t
    ∙ deletes_drop es new s q h lacks (λ none. gone (ap (λ b. cond b (Some e.1) (value_at es q))
    (differ (λ x. is_some (value_at new x)) q e.0 false true lacks t false_true) ∙ none)))
    (λ f. ap (λ b. value_at (replayed s (cond b [] (delete e.0 ∷ []) ++ deletes es new)) q) f
    ∙ deletes_drop es new (without_key s e.0) q (IsState-without_key s e.0 h) lacks
    (λ none. value_at-without_key s e.0 q h ∙ ⊎_elim
    (λ here. ap (λ b. cond b None (value_at s q)) here)
    (λ away. ap (λ b. cond b None (value_at s q)) away ∙ gone (ap (λ b. cond b (Some e.1) (value_at es q)) away ∙ none))
    (cases_Bool (same q e.0))))
    (cases_Bool (is_some (value_at new e.0)))

pub passed_by : (b : Bool) (v : List ℕ) (r : Option (List ℕ)) → cond b (Some v) r ≡ None → (b ≡ false) × (r ≡ None)
passed_by true v r e = absurd (cc)
passed_by false v r e = (refl, e)

-- updates leave the keys that they don't name as they are
updates_keep : (es old new s : Map) (q : List ℕ) → value_at es q ≡ None
    → value_at (replayed s (updates es old new)) q ≡ value_at s q
updates_keep [] old new s q none = refl
updates_keep (e ∷ es) old new s q none =
    let away = passed_by (same q e.0) e.1 (value_at es q) none in
    elim (is_kept old new e.0 e.1) as (λ b. value_at (replayed s
    (cond b [] (update (ordered e.0 e.1 (next_key new e.0)) ∷ []) ++ updates es old new)) q ≡ value_at s q) [
      | true ↦ updates_keep es old new s q away.1
      | false ↦ updates_keep es old new (with_entry s e.0 e.1) q away.1
          ∙ (value_at-with_entry s e.0 e.1 q ∙ ap (λ b. cond b (Some e.1) (value_at s q)) away.0)
    ]

pub equal_bytes : (x y : List ℕ) → bytes_eq x y ≡ true → x ≡ y
equal_bytes x y e = exact x y (is_eq-slice_cmp x y ∙ e)

pub kept_value : (o : Option (List ℕ)) (v : List ℕ) (b : Bool) → (is_value o v && b) ≡ true → o ≡ Some v
kept_value None v b e = absurd (cc)
kept_value (Some w) v b e =
    ⊎_elim (λ t. ap (λ x. Some x) (equal_bytes w v t)) (λ f. absurd (false_true (sym (ap (λ x. x && b) f) ∙ e)))
    (cases_Bool (bytes_eq w v))

-- and give the others their values
updates_set : (es old new s : Map) (q v : List ℕ) → IsState es → value_at es q ≡ Some v → value_at s q ≡ value_at old q
    → value_at (replayed s (updates es old new)) q ≡ Some v
updates_set [] old new s q v h at is_old = absurd (cc)
updates_set (e ∷ es) old new s q v h at is_old =
    ⊎_elim
    (λ here.
    let value : Some e.1 ≡ Some v = sym (ap (λ b. cond b (Some e.1) (value_at es q)) here) ∙ at in
    let later : value_at es q ≡ None = ap (value_at es) (exact q e.0 here) ∙ none_later e es h in
    ⊎_elim
    (λ (kept : is_kept old new e.0 e.1 ≡ true). ap (λ b. value_at
    (replayed s (cond b [] (update (ordered e.0 e.1 (next_key new e.0)) ∷ []) ++ updates es old new)) q) kept
    ∙ (updates_keep es old new s q later ∙ (is_old ∙ (ap (value_at old) (exact q e.0 here)
    ∙ (kept_value (value_at old e.0) e.1 (bytes_eq (next_key old e.0) (next_key new e.0)) kept ∙ value)))))
    (λ (changed : is_kept old new e.0 e.1 ≡ false). ap (λ b. value_at
    (replayed s (cond b [] (update (ordered e.0 e.1 (next_key new e.0)) ∷ []) ++ updates es old new)) q) changed
    ∙ (updates_keep es old new (with_entry s e.0 e.1) q later
    ∙ (value_at-with_entry s e.0 e.1 q ∙ (ap (λ b. cond b (Some e.1) (value_at s q)) here ∙ value))))
    (cases_Bool (is_kept old new e.0 e.1)))
    (λ (away : same q e.0 ≡ false).
    let rest : value_at es q ≡ Some v = sym (ap (λ b. cond b (Some e.1) (value_at es q)) away) ∙ at in
    let held : value_at (with_entry s e.0 e.1) q ≡ value_at old q = value_at-with_entry s e.0 e.1 q
    ∙ (ap (λ b. cond b (Some e.1) (value_at s q)) {x = same q e.0} {y = false} away ∙ is_old) in
    elim (is_kept old new e.0 e.1) as (λ b. value_at (replayed s
    (cond b [] (update (ordered e.0 e.1 (next_key new e.0)) ∷ []) ++ updates es old new)) q ≡ Some v) [
      | true ↦ updates_set es old new s q v (IsState-tail e es h) rest is_old
      | false ↦ updates_set es old new (with_entry s e.0 e.1) q v (IsState-tail e es h) rest held
    ])
    (cases_Bool (same q e.0))

-- what a key has after a batch
value_at-batch : (old new : Map) (q : List ℕ) (at : Option (List ℕ)) → IsState old → IsState new → value_at new q ≡ at
    → value_at (replayed (replayed old (deletes old new)) (updates new old new)) q ≡ at
value_at-batch old new q None h i is =
    updates_keep new old new (replayed old (deletes old new)) q is
    ∙ deletes_drop old new old q h (ap is_some is) (λ none. none)
value_at-batch old new q (Some v) h i is =
    updates_set new old new (replayed old (deletes old new)) q v i is (deletes_keep old new old q h (ap is_some is))

-- the operations of a batch lead from the old state to the new one
pub replayed-batch : (old new : Map) → IsState old → IsState new → replayed old (batch_operations old new) ≡ new
replayed-batch old new h i =
    replayed-append old (deletes old new) (updates new old new)
    ∙ same_entries key_order nat_list_cmp_total exact_bytes (replayed (replayed old (deletes old new))
    (updates new old new)) new
    (IsState-updates new old new (replayed old (deletes old new)) (IsState-deletes old new old h)) i
    (λ q. sym (value_at-find q (replayed (replayed old (deletes old new)) (updates new old new)))
    ∙ (value_at-batch old new q (value_at new q) h i refl ∙ value_at-find q new))

-- a log after its first operation
abbrev log_tail : History → List Operation
log_tail [] = []
log_tail (c ∷ h) = log_tail h ++ with_commit (log_of h) (batch_operations (latest_map h) c.map) c.metadata

log_of-tail : (h : History) → log_of h ≡ commit_floor None 0 ∷ log_tail h
log_of-tail [] = refl
log_of-tail (c ∷ h) = ap (λ l. l ++ with_commit (log_of h) (batch_operations (latest_map h) c.map) c.metadata)
    (log_of-tail h)

pub IsState-latest_map : (h : History) → AreStates h → IsState (latest_map h)
IsState-latest_map [] s = tt
IsState-latest_map (c ∷ h) s = s.0

tail_stands : (h : History) → AreStates h → (history_from [] [] (log_tail h) ≡ h)
    × (replayed [] (log_tail h) ≡ latest_map h)
tail_stands [] s = (refl, refl)
tail_stands (c ∷ h) s =
    let earlier = tail_stands h s.1 in
    let ops : List Operation = batch_operations (latest_map h) c.map in
    let last : List Operation = commit_floor c.metadata (inactivity_floor (log_of h ++ ops)) ∷ [] in
    let regrouped : log_tail h ++ (ops ++ last) ≡ (log_tail h ++ ops)
    ++ last = sym (append_assoc (log_tail h) ops last) in
    let state : replayed [] (log_tail h ++ ops) ≡ c.map =
    replayed-append [] (log_tail h) ops
    ∙ (ap (λ x. replayed x ops) earlier.1 ∙ replayed-batch (latest_map h) c.map (IsState-latest_map h s.1) s.0) in
    let past : history_from [] [] (log_tail h ++ ops) ≡ h =
    history_from-append [] [] (log_tail h) ops
    ∙ (history_from-batch (latest_map h) c.map (replayed [] (log_tail h)) (history_from [] [] (log_tail h))
    ∙ earlier.0) in (
      ap (history_from [] []) regrouped
          ∙ (history_from-append [] [] (log_tail h ++ ops) last
          ∙ (ap (λ x. record { map = x; metadata = c.metadata } ∷ history_from [] [] (log_tail h ++ ops)) state
          ∙ ap (λ x. c ∷ x) past)),
      ap (replayed []) regrouped ∙ (replayed-append [] (log_tail h ++ ops) last ∙ state),
    )

pub history_of-log_of : (h : History) → AreStates h → history_of (log_of h) ≡ h
history_of-log_of h s = ap history_of (log_of-tail h) ∙ (tail_stands h s).0

pub replayed-log_of : (h : History) → AreStates h → replayed [] (log_of h) ≡ latest_map h
replayed-log_of h s = ap (replayed []) (log_of-tail h) ∙ (tail_stands h s).1

-- operations lead from a state to a state
pub IsState-replayed : (s : Map) (operations : List Operation) → IsState s → IsState (replayed s operations)
IsState-replayed s [] h = h
IsState-replayed s (delete key ∷ operations) h =
    IsState-replayed (without_key s key) operations (IsState-without_key s key h)
IsState-replayed s (update (ordered key value next) ∷ operations) h =
    IsState-replayed (with_entry s key value) operations (IsState-with_entry s key value h)
IsState-replayed s (commit_floor metadata floor ∷ operations) h = IsState-replayed s operations h

-- what operations stand for has states
states_from : (state : Map) (history : History) (log : List Operation) → IsState state → AreStates history
    → AreStates (history_from state history log)
states_from state history [] is are = are
states_from state history (delete key ∷ log) is are =
    states_from (without_key state key) history log (IsState-without_key state key is) are
states_from state history (update (ordered key value next) ∷ log) is are =
    states_from (with_entry state key value) history log (IsState-with_entry state key value is) are
states_from state history (commit_floor metadata floor ∷ log) is are =
    states_from state (record { map = state; metadata = metadata } ∷ history) log is (is, are)

pub AreStates-history_of : (log : List Operation) → AreStates (history_of log)
AreStates-history_of [] = tt
AreStates-history_of (operation ∷ log) = states_from [] [] log tt tt

pub IsState-map_after : (words : List Word) (s : Map) → IsState s → IsState (map_after words s)
IsState-map_after [] s h = h
IsState-map_after (batch.put k v ∷ words) s h = IsState-map_after words (with_entry s k v) (IsState-with_entry s k v h)
IsState-map_after (batch.delete k ∷ words) s h = IsState-map_after words (without_key s k) (IsState-without_key s k h)

-- a history is shorter than its log
pub length-log_of : (h : History) → length h < length (log_of h)
length-log_of [] = omega arith
length-log_of (c ∷ h) = let earlier = length-log_of h in simp length-append (omega arith)

-- a commit at the end of operations is their last
pub floor_after-append : (floor recorded : ℕ) (metadata : Option (List ℕ)) (xs : List Operation)
    → floor_after floor (xs ++ commit_floor metadata recorded ∷ []) ≡ recorded
floor_after-append floor recorded metadata [] = refl
floor_after-append floor recorded metadata (delete k ∷ xs) = floor_after-append floor recorded metadata xs
floor_after-append floor recorded metadata (update (ordered k v n) ∷ xs) = floor_after-append floor recorded metadata xs
floor_after-append floor recorded metadata (commit_floor m f ∷ xs) = floor_after-append f recorded metadata xs

-- the floor that a commit after some operations records is that of the log with them
pub last_floor-with_commit : (log changes : List Operation) (metadata : Option (List ℕ))
    → last_floor (log ++ with_commit log changes metadata) ≡ inactivity_floor (log ++ changes)
last_floor-with_commit log changes metadata =
    ap last_floor (sym (append_assoc log changes (commit_floor metadata (inactivity_floor (log ++ changes)) ∷ [])))
    ∙ floor_after-append 0 (inactivity_floor (log ++ changes)) metadata (log ++ changes)
