-- The active update of a key names its value and its next key in the latest state.
use Rattle.std.proofs.Common.{◌≡◌, ℕ, zero, suc, ◌+◌, Bool, true, false, cond, ◌&&◌, not, List, [], ◌∷◌, ◌++◌, Option}
use Rattle.std.proofs.Common.{None, Some, option_map, refl, ap, sym, ◌∙◌, ⊎_elim, arith}
use Rattle.std.specs.Prelude.{is_some, slice_get, unwrap_or, ◌||◌}
use Rattle.std.specs.Str.{bytes_eq}
use Rattle.std.specs.List.{list_any}
use native.Mathlib.Numerals.{unary_clauses}
use Rattle.std.proofs.lemmas.Bool.{cases_Bool}
use Rattle.state_ops.specs.Operation.{Operation, delete, update, ordered, commit_floor}
use Rattle.auth_store_parts.specs.Map.{Map, value_at, next_key, entry_of}
use Rattle.auth_store_parts.specs.History.{History, latest_map, has_key, is_active, is_active_on, activity_bits}
use Rattle.auth_store_parts.specs.History.{is_kept, deletes, updates, batch_operations, inactivity_floor, log_of}
use Rattle.auth_store_parts.specs.History.{active_location, update_fields, active_update, IsState, AreStates, StandsAt}
use Rattle.auth_store_parts.specs.Laws.Lookups.{same, same_self, exact, none_later, IsState-tail}
use Rattle.auth_store_parts.specs.Laws.Logs.{differ, true_false, false_true, passed_by, equal_bytes, kept_value}

abbrev Named : Type 0
Named = Option (List ℕ × List ℕ)

-- what the last operation on a key says: its value and next key, or that it is gone; `found` is what was said before
abbrev said : List ℕ → Named → List Operation → Named
said q found [] = found
said q found (delete k ∷ ops) = said q (cond (same q k) None found) ops
said q found (update (ordered k v n) ∷ ops) = said q (cond (same q k) (Some (v, n)) found) ops
said q found (commit_floor m f ∷ ops) = said q found ops

said-append : (q : List ℕ) (found : Named) (xs ys : List Operation)
    → said q found (xs ++ ys) ≡ said q (said q found xs) ys
said-append q found [] ys = refl
said-append q found (delete k ∷ xs) ys = said-append q (cond (same q k) None found) xs ys
said-append q found (update (ordered k v n) ∷ xs) ys = said-append q (cond (same q k) (Some (v, n)) found) xs ys
said-append q found (commit_floor m f ∷ xs) ys = said-append q found xs ys

-- deletes leave what was said of the keys of the new state
said-deletes-kept : (q : List ℕ) (es new : Map) (found : Named) → is_some (value_at new q) ≡ true
    → said q found (deletes es new) ≡ found
said-deletes-kept q [] new found has = refl
said-deletes-kept q (e ∷ es) new found has =
    ⊎_elim
    (λ t. ap (λ b. said q found (cond b [] (delete e.0 ∷ []) ++ deletes es new)) t
    ∙ said-deletes-kept q es new found has)
    (λ f. ap (λ b. said q found (cond b [] (delete e.0 ∷ []) ++ deletes es new)) f
    ∙ (ap (λ b. said q (cond b None found) (deletes es new))
    (differ (λ x. is_some (value_at new x)) q e.0 true false has f true_false)
    ∙ said-deletes-kept q es new found has))
    (cases_Bool (is_some (value_at new e.0)))

-- and say of the others that they are gone
said-deletes-gone : (q : List ℕ) (es new : Map) (found : Named) → is_some (value_at new q) ≡ false
    → (value_at es q ≡ None → found ≡ None) → said q found (deletes es new) ≡ None
said-deletes-gone q [] new found lacks gone = gone refl
said-deletes-gone q (e ∷ es) new found lacks gone =
    ⊎_elim
    (λ t. ap (λ b. said q found (cond b [] (delete e.0 ∷ []) ++ deletes es new)) t
    ∙ said-deletes-gone q es new found lacks (λ none. gone (ap (λ b. cond b (Some e.1) (value_at es q))
    (differ (λ x. is_some (value_at new x)) q e.0 false true lacks t false_true) ∙ none)))
    (λ f. ap (λ b. said q found (cond b [] (delete e.0 ∷ []) ++ deletes es new)) f
    ∙ said-deletes-gone q es new (cond (same q e.0) None found) lacks
    (λ none. ⊎_elim
    (λ here. ap (λ b. cond b None found) here)
    (λ away. ap (λ b. cond b None found) away ∙ gone (ap (λ b. cond b (Some e.1) (value_at es q)) away ∙ none))
    (cases_Bool (same q e.0))))
    (cases_Bool (is_some (value_at new e.0)))

-- updates leave what was said of the keys that they don't name
said-updates-other : (q : List ℕ) (es old new : Map) (found : Named) → value_at es q ≡ None
    → said q found (updates es old new) ≡ found
said-updates-other q [] old new found none = refl
said-updates-other q (e ∷ es) old new found none =
    let away = passed_by (same q e.0) e.1 (value_at es q) none in
    elim (is_kept old new e.0 e.1) as (λ b. said q found (cond b [] (update (ordered e.0 e.1 (next_key new e.0)) ∷ [])
    ++ updates es old new) ≡ found) [
      | true ↦ said-updates-other q es old new found away.1
      | false ↦ ap (λ b. said q (cond b (Some (e.1, next_key new e.0)) found) (updates es old new)) away.0
          ∙ said-updates-other q es old new found away.1
    ]

-- and name the values and next keys of those that aren't kept
said-updates : (q v : List ℕ) (es old new : Map) (found : Named) → IsState es → value_at es q ≡ Some v
    → said q found (updates es old new) ≡ cond (is_kept old new q v) found (Some (v, next_key new q))
said-updates q v [] old new found h at = absurd (cc)
said-updates q v (e ∷ es) old new found h at =
    ⊎_elim
    (λ here.
    let is : q ≡ e.0 = exact q e.0 here in
    let value : e.1 ≡ v = ap (λ o. unwrap_or o []) (sym (ap (λ b. cond b (Some e.1) (value_at es q)) here) ∙ at) in
    let later : value_at es q ≡ None = ap (value_at es) is ∙ none_later e es h in
    let step : said q found (cond (is_kept old new e.0 e.1) [] (update (ordered e.0 e.1 (next_key new e.0)) ∷ [])
    ++ updates es old new) ≡ cond (is_kept old new e.0 e.1) found (Some (e.1, next_key new e.0)) =
    elim (is_kept old new e.0 e.1) as (λ b. said q found (cond b [] (update (ordered e.0 e.1 (next_key new e.0)) ∷ [])
    ++ updates es old new) ≡ cond b found (Some (e.1, next_key new e.0))) [
      | true ↦ said-updates-other q es old new found later
      | false ↦ ap (λ b. said q (cond b (Some (e.1, next_key new e.0)) found) (updates es old new)) here
          ∙ said-updates-other q es old new (Some (e.1, next_key new e.0)) later
    ] in
    step
    ∙ (ap (λ k. cond (is_kept old new k e.1) found (Some (e.1, next_key new k))) (sym is)
    ∙ ap (λ w. cond (is_kept old new q w) found (Some (w, next_key new q))) value))
    (λ (away : same q e.0 ≡ false).
    let rest : value_at es q ≡ Some v = sym (ap (λ b. cond b (Some e.1) (value_at es q)) away) ∙ at in
    elim (is_kept old new e.0 e.1) as (λ b. said q found (cond b [] (update (ordered e.0 e.1 (next_key new e.0)) ∷ [])
    ++ updates es old new) ≡ cond (is_kept old new q v) found (Some (v, next_key new q))) [
      | true ↦ said-updates q v es old new found (IsState-tail e es h) rest
      | false ↦ ap (λ b. said q (cond b (Some (e.1, next_key new e.0)) found) (updates es old new)) away
          ∙ said-updates q v es old new found (IsState-tail e es h) rest
    ])
    (cases_Bool (same q e.0))

second_true : (a b : Bool) → (a && b) ≡ true → b ≡ true
second_true true b h = h
second_true false b h = absurd (cc)

-- what is kept was said before
said-kept : (q v : List ℕ) (old new : Map) → is_kept old new q v ≡ true → entry_of old q ≡ Some (v, next_key new q)
said-kept q v old new kept =
    let value : value_at old q ≡ Some v = kept_value (value_at old q) v (bytes_eq (next_key old q) (next_key new q))
    kept in
    let next : next_key old q ≡ next_key new q = equal_bytes _ _ (second_true _ _ kept) in
    ap (option_map (λ w. (w, next_key old q))) value ∙ ap (λ n. Some (v, n)) next

said-batch : (q : List ℕ) (old new : Map) (at : Option (List ℕ)) → IsState new → value_at new q ≡ at
    → said q (entry_of old q) (batch_operations old new) ≡ option_map (λ value. (value, next_key new q)) at
said-batch q old new None i is =
    said-append q (entry_of old q) (deletes old new) (updates new old new)
    ∙ (said-updates-other q new old new (said q (entry_of old q) (deletes old new)) is
    ∙ said-deletes-gone q old new (entry_of old q) (ap is_some is)
    (λ none. ap (option_map (λ value. (value, next_key old q))) none))
said-batch q old new (Some v) i is =
    said-append q (entry_of old q) (deletes old new) (updates new old new)
    ∙ (ap (λ found. said q found (updates new old new)) (said-deletes-kept q old new (entry_of old q) (ap is_some is))
    ∙ (said-updates q v new old new (entry_of old q) i is
    ∙ ⊎_elim
    (λ (kept : is_kept old new q v ≡ true). ap (λ b. cond b (entry_of old q) (Some (v, next_key new q))) kept
    ∙ said-kept q v old new kept)
    (λ (changed : is_kept old new q v ≡ false). ap (λ b. cond b (entry_of old q) (Some (v, next_key new q))) changed)
    (cases_Bool (is_kept old new q v))))

said-log : (q : List ℕ) (h : History) → AreStates h → said q None (log_of h) ≡ entry_of (latest_map h) q
said-log q [] s = refl
said-log q (c ∷ h) s =
    let ops : List Operation = batch_operations (latest_map h) c.map in
    let last : List Operation = commit_floor c.metadata (inactivity_floor (log_of h ++ ops)) ∷ [] in
    said-append q None (log_of h) (ops ++ last)
    ∙ (ap (λ found. said q found (ops ++ last)) (said-log q h s.1)
    ∙ (said-append q (entry_of (latest_map h) q) ops last ∙ said-batch q (latest_map h) c.map (value_at c.map q) s.0
    refl))

later_get : (op : Operation) (later : List Operation) (n : ℕ) → slice_get (op ∷ later) (n + 1) ≡ slice_get later n
later_get op later n = simp unary_clauses refl

-- where no operation is about the key, none is active on it
none_active : (q : List ℕ) (log : List Operation) → list_any (has_key q) log ≡ false → active_update q log ≡ None
none_active q [] h = refl
none_active q (op ∷ later) h =
    let parts = neither (has_key q op) (list_any (has_key q) later) h in
    ap (λ b. update_fields (slice_get (op ∷ later) (cond (b && is_active op later) 0 (active_location q later + 1))))
    parts.0 ∙ (ap update_fields (later_get op later (active_location q later)) ∙ none_active q later parts.1)
  where
    neither : (a b : Bool) → (a || b) ≡ false → (a ≡ false) × (b ≡ false)
    neither true b h = absurd (cc)
    neither false b h = (refl, h)

dropped : (s any : Bool) (later found : Named) → (any ≡ false → later ≡ None)
    → cond any later (cond s None found) ≡ cond (s || any) later found
dropped true true later found none = refl
dropped true false later found none = sym (none refl)
dropped false true later found none = refl
dropped false false later found none = refl

picked : (s any own : Bool) (later found entry : Named) → (s ≡ true → own ≡ any)
    → cond any later (cond s entry found) ≡ cond (s || any) (cond (s && not own) entry later) found
picked true true own later found entry is = ap (λ b. cond (not b) entry later) (sym (is refl))
picked true false own later found entry is = ap (λ b. cond (not b) entry later) (sym (is refl))
picked false true own later found entry is = refl
picked false false own later found entry is = refl

-- the last operation on a key is the active one, if any
said-active : (q : List ℕ) (found : Named) (log : List Operation)
    → said q found log ≡ cond (list_any (has_key q) log) (active_update q log) found
said-active q found [] = refl
said-active q found (delete k ∷ later) =
    let inactive : update_fields (slice_get (delete k ∷ later)
    (cond (same q k && false) 0 (active_location q later + 1))) ≡ active_update q later =
    elim (same q k) as (λ b. update_fields (slice_get (delete k ∷ later)
    (cond (b && false) 0 (active_location q later + 1))) ≡ active_update q later) [
      | true ↦ ap update_fields (later_get (delete k) later (active_location q later))
      | false ↦ ap update_fields (later_get (delete k) later (active_location q later))
    ] in
    said-active q (cond (same q k) None found) later
    ∙ (dropped (same q k) (list_any (has_key q) later) (active_update q later) found (none_active q later)
    ∙ ap (λ u. cond (same q k || list_any (has_key q) later) u found) (sym inactive))
said-active q found (update (ordered k v n) ∷ later) =
    let own : Bool = list_any (has_key k) later in
    let counts : update_fields (slice_get (update (ordered k v n) ∷ later)
    (cond (same q k && not own) 0 (active_location q later + 1))) ≡ cond (same q k && not own) (Some (v, n))
    (active_update q later) =
    elim (same q k && not own) as (λ b. update_fields (slice_get (update (ordered k v n) ∷ later)
    (cond b 0 (active_location q later + 1))) ≡ cond b (Some (v, n)) (active_update q later)) [
      | true ↦ refl
      | false ↦ ap update_fields (later_get (update (ordered k v n)) later (active_location q later))
    ] in
    said-active q (cond (same q k) (Some (v, n)) found) later
    ∙ (picked (same q k) (list_any (has_key q) later) own (active_update q later) found (Some (v, n))
    (λ t. ap (λ x. list_any (has_key x) later) (sym (exact q k t)))
    ∙ ap (λ u. cond (same q k || list_any (has_key q) later) u found) (sym counts))
said-active q found (commit_floor m f ∷ later) =
    said-active q found later ∙ ap (λ u. cond (list_any (has_key q) later) u found)
    (sym (ap update_fields (later_get (commit_floor m f) later (active_location q later))))

-- the active update of a key names what the latest state has there, and its next key
pub active_update-log_of : (q : List ℕ) (h : History) → AreStates h
    → active_update q (log_of h) ≡ entry_of (latest_map h) q
active_update-log_of q h s =
    let same_update : cond (list_any (has_key q) (log_of h)) (active_update q (log_of h)) None ≡ active_update q
    (log_of h) =
    ⊎_elim
    (λ t. ap (λ b. cond b (active_update q (log_of h)) None) t)
    (λ f. ap (λ b. cond b (active_update q (log_of h)) None) f ∙ sym (none_active q (log_of h) f))
    (cases_Bool (list_any (has_key q) (log_of h))) in
    sym same_update ∙ (sym (said-active q None (log_of h)) ∙ said-log q h s)

passed : (q : List ℕ) (op : Operation) (later : List Operation) → is_active_on q op later ≡ false
    → active_update q (op ∷ later) ≡ active_update q later
passed q op later off = ap (λ b. update_fields (slice_get (op ∷ later) (cond b 0 (active_location q later + 1)))) off
    ∙ ap update_fields (later_get op later (active_location q later))

stands_later : (q : List ℕ) (op : Operation) (later : List Operation) (u : List ℕ × List ℕ)
    → is_active_on q op later ≡ false → StandsAt q later u → StandsAt q (op ∷ later) u
stands_later q op later u off stands = record {
  update_at = ap (λ b. slice_get (op ∷ later) (cond b 0 (active_location q later + 1))) off
      ∙ (later_get op later (active_location q later) ∙ stands.update_at);
  bit_at = ap (λ b. slice_get (is_active op later ∷ activity_bits later) (cond b 0 (active_location q later + 1))) off
      ∙ (later_bit (is_active op later) (activity_bits later) (active_location q later) ∙ stands.bit_at);
}
  where
    later_bit : (bit : Bool) (bits : List Bool) (n : ℕ) → slice_get (bit ∷ bits) (n + 1) ≡ slice_get bits n
    later_bit bit bits n = simp unary_clauses refl

both_true : (a b : Bool) → (a && b) ≡ true → (a ≡ true) × (b ≡ true)
both_true true b h = (refl, h)
both_true false b h = absurd (cc)

stands_here : (q k v n : List ℕ) (later : List Operation) (u : List ℕ × List ℕ)
    → is_active_on q (update (ordered k v n)) later ≡ true → active_update q (update (ordered k v n) ∷ later) ≡ Some u
    → StandsAt q (update (ordered k v n) ∷ later) u
stands_here q k v n later u on is =
    let parts = both_true (same q k) (is_active (update (ordered k v n)) later) on in
    let here : active_location q (update (ordered k v n) ∷ later)
    ≡ 0 = ap (λ b. cond b 0 (active_location q later + 1)) on in
    let said_u : Some (v, n)
    ≡ Some u = sym (ap (λ p. update_fields (slice_get (update (ordered k v n) ∷ later) p)) here) ∙ is in
    let value : v ≡ u.0 = ap (λ (o : Option (List ℕ × List ℕ)). (unwrap_or o (v, n)).0) said_u in
    let next : n ≡ u.1 = ap (λ (o : Option (List ℕ × List ℕ)). (unwrap_or o (v, n)).1) said_u in
    record {
      update_at = ap (slice_get (update (ordered k v n) ∷ later)) here
          ∙ (ap (λ x. Some (update (ordered x v n))) (sym (exact q k parts.0))
          ∙ (ap (λ x. Some (update (ordered q x n))) value ∙ ap (λ x. Some (update (ordered q u.0 x))) next));
      bit_at = ap (slice_get (is_active (update (ordered k v n)) later ∷ activity_bits later)) here ∙ ap Some parts.1;
    }

pub active_stands : (q : List ℕ) (log : List Operation) (u : List ℕ × List ℕ) → active_update q log ≡ Some u
    → StandsAt q log u
active_stands q [] u is = absurd (cc)
active_stands q (delete k ∷ later) u is =
    let off : is_active_on q (delete k) later ≡ false = elim (same q k) as (λ b. (b && false) ≡ false)
    [ true ↦ refl | false ↦ refl ] in
    stands_later q (delete k) later u off (active_stands q later u (sym (passed q (delete k) later off) ∙ is))
active_stands q (update (ordered k v n) ∷ later) u is =
    ⊎_elim
    (λ on. stands_here q k v n later u on is)
    (λ off. stands_later q (update (ordered k v n)) later u off (active_stands q later u
    (sym (passed q (update (ordered k v n)) later off) ∙ is)))
    (cases_Bool (is_active_on q (update (ordered k v n)) later))
active_stands q (commit_floor m f ∷ later) u is =
    stands_later q (commit_floor m f) later u refl (active_stands q later u
    (sym (passed q (commit_floor m f) later refl) ∙ is))

-- what a store proves of a key that is there stands in its log
pub StandsAt-log_of : (q v : List ℕ) (h : History) → AreStates h → value_at (latest_map h) q ≡ Some v
    → StandsAt q (log_of h) (v, next_key (latest_map h) q)
StandsAt-log_of q v h states at =
    active_stands q (log_of h) (v, next_key (latest_map h) q)
    (active_update-log_of q h states ∙ ap (option_map (λ value. (value, next_key (latest_map h) q))) at)

both_hold : (a b : Bool) → a ≡ true → b ≡ true → (a && b) ≡ true
both_hold a b one other = rw (one, other) refl

names_it : (q v n : List ℕ) (log : List Operation) (location : ℕ)
    → slice_get log location ≡ Some (update (ordered q v n))
    → list_any (has_key q) log ≡ true
names_it q v n [] location is = absurd (cc)
names_it q v n (op ∷ later) zero is =
    let here : op ≡ update (ordered q v n) = cc in
    rw (ap (has_key q) here ∙ same_self q) refl
names_it q v n (op ∷ later) (suc location) is =
    or_later (has_key q op) (list_any (has_key q) later) (names_it q v n later location is)
  where
    or_later : (a b : Bool) → b ≡ true → (a || b) ≡ true
    or_later true b h = refl
    or_later false b h = h

-- an operation before one that is about the key doesn't count for it
not_yet : (q : List ℕ) (op : Operation) (later : List Operation) → list_any (has_key q) later ≡ true
    → is_active_on q op later ≡ false
not_yet q (delete k) later named = elim (same q k) as (λ b. (b && false) ≡ false) [ true ↦ refl | false ↦ refl ]
not_yet q (update (ordered k v n)) later named =
    ⊎_elim
    (λ here. let key : list_any (has_key k) later ≡ true = ap (λ x. list_any (has_key x) later) (sym (exact q k here))
    ∙ named in
    rw (here, key) refl)
    (λ away. ap (λ b. b && not (list_any (has_key k) later)) away)
    (cases_Bool (same q k))
not_yet q (commit_floor m f) later named = refl

-- an active update of a key in a log is the one that counts for the key
pub active_update-active : (q v n : List ℕ) (log : List Operation) (location : ℕ)
    → slice_get log location ≡ Some (update (ordered q v n)) → slice_get (activity_bits log) location ≡ Some true
    → active_update q log ≡ Some (v, n)
active_update-active q v n [] location at bit = absurd (cc)
active_update-active q v n (op ∷ later) zero at bit =
    let here : op ≡ update (ordered q v n) = cc in
    let active : is_active op later ≡ true = cc in
    let on : is_active_on q op later ≡ true = both_hold (has_key q op) (is_active op later) (ap (has_key q) here
    ∙ same_self q) active in
    ap (λ b. update_fields (slice_get (op ∷ later) (cond b 0 (active_location q later + 1)))) on
    ∙ ap (λ o. update_fields (Some o)) here
active_update-active q v n (op ∷ later) (suc location) at bit =
    passed q op later (not_yet q op later (names_it q v n later location at))
    ∙ active_update-active q v n later location at bit

-- an active update in the log of a history is the key's value in the latest state
pub latest-active : (q v n : List ℕ) (h : History) (location : ℕ) → AreStates h
    → slice_get (log_of h) location ≡ Some (update (ordered q v n))
    → slice_get (activity_bits (log_of h)) location ≡ Some true
    → value_at (latest_map h) q ≡ Some v
latest-active q v n h location states at bit =
    first_part (value_at (latest_map h) q) v n (next_key (latest_map h) q)
    (sym (active_update-log_of q h states) ∙ active_update-active q v n (log_of h) location at bit)
  where
    first_part : (found : Option (List ℕ)) (v n m : List ℕ) → option_map {U =
        List ℕ × List ℕ} (λ value. (value, m)) found ≡ Some (v, n) → found ≡ Some v
    first_part None v n m is = absurd (cc)
    first_part (Some w) v n m is = let whole : Some (w, m) ≡ Some (v, n) = is in
        ap (λ (o : Option (List ℕ × List ℕ)). Some (unwrap_or o (v, n)).0) whole

-- it names the key's next key there
pub next-active : (q v n : List ℕ) (h : History) (location : ℕ) → AreStates h
    → slice_get (log_of h) location ≡ Some (update (ordered q v n))
    → slice_get (activity_bits (log_of h)) location ≡ Some true → next_key (latest_map h) q ≡ n
next-active q v n h location states at bit =
    second_part (value_at (latest_map h) q) v n (next_key (latest_map h) q)
    (sym (active_update-log_of q h states) ∙ active_update-active q v n (log_of h) location at bit)
  where
    second_part : (found : Option (List ℕ)) (v n m : List ℕ)
        → option_map {U = List ℕ × List ℕ} (λ value. (value, m)) found ≡ Some (v, n) → m ≡ n
    second_part None v n m is = absurd (cc)
    second_part (Some w) v n m is = let whole : Some (w, m) ≡ Some (v, n) = is in
        ap (λ (o : Option (List ℕ × List ℕ)). (unwrap_or o (v, m)).1) whole

-- and stands at the key's location in the log
pub location-active : (q v n : List ℕ) (log : List Operation) (location : ℕ)
    → slice_get log location ≡ Some (update (ordered q v n)) → slice_get (activity_bits log) location ≡ Some true
    → active_location q log ≡ location
location-active q v n [] location at bit = absurd (cc)
location-active q v n (op ∷ later) zero at bit =
    let here : op ≡ update (ordered q v n) = cc in
    let active : is_active op later ≡ true = cc in
    ap (λ b. cond b 0 (active_location q later + 1))
    (both_hold (has_key q op) (is_active op later) (ap (has_key q) here ∙ same_self q) active)
location-active q v n (op ∷ later) (suc location) at bit =
    ap (λ b. cond b 0 (active_location q later + 1)) (not_yet q op later (names_it q v n later location at))
    ∙ omega (arith, location-active q v n later location at bit)
