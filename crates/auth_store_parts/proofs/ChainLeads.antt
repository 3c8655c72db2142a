-- A batch that passes the walk leads from the old state to the one that its operations lead to.
--
-- The walk is followed from its end. What is left of it builds the entries of the new state that are left, and says of
-- each whole new state with these at its end which operations are told for what is left of the old one.
use Rattle.std.proofs.Common.{◌≡◌, ℕ, Bool, true, false, T, cond, ◌&&◌, not, List, [], ◌∷◌, ◌++◌, Option, None, Some}
use Rattle.std.proofs.Common.{refl, ap, sym, ◌∙◌, subst, append_assoc, ⊎_elim}
use Rattle.std.specs.Prelude.{is_some, unwrap_or, option_map, ◌||◌}
use Rattle.std.proofs.lemmas.Bool.{cases_Bool, and_parts, false_from_ne_true}
use Rattle.std.specs.Cmp.Lexicographic.{bytes_decides}
use Rattle.std.specs.Ordering.{is_lt}
use Rattle.std.specs.Str.{bytes_eq}
use Rattle.state_ops.specs.Operation.{Operation, delete, update, ordered, commit_floor}
use Rattle.auth_store_parts.specs.Map.{Map, key_order, first_key, value_at, next_key, entry_of}
use Rattle.auth_store_parts.specs.History.{IsState, is_value, update_to, deletes, updates, batch_operations, replayed}
use Rattle.auth_store_parts.specs.Chains.{Pointer, first_of, behind, is_at_key, is_past, is_one, closes, ends}
use Rattle.auth_store_parts.specs.Chains.{over_delete, over_update, over_deletes, up_to_update, walk, is_walk}
use Rattle.auth_store_parts.specs.Laws.Logs.{equal_bytes, replayed-batch}
use Rattle.auth_store_parts.specs.Laws.Lookups.{same, exact, none_later, IsState-tail}
use Rattle.auth_store_parts.specs.Laws.Below.{value_at_head, none_below_first}
use Rattle.auth_store_parts.specs.Laws.Neighbours.{next_behind, next_of_last}
use Rattle.auth_store_parts.proofs.Pointers.{transitive, not_itself, at_key, one, behind_past, past_tail, front}

opposite : (b : Bool) → not b ≡ true → b ≡ false
opposite true e = absurd (cc)
opposite false e = refl

-- a pointer that has passed one key and not another: the other is behind the one
between : (p : Pointer) (k l : List ℕ) → is_past p k ≡ true → is_past p l ≡ false
    → (is_lt (key_order l k) ≡ false) × (same l k ≡ false)
between None k l passed left = absurd (cc)
between (Some at) k l passed left = (
  false_from_ne_true _ (λ under. let yes = transitive l k at under passed in absurd (cc)),
  false_from_ne_true _ (λ here.
      let yes : is_lt (key_order l at) ≡ true = ap (λ x. is_lt (key_order x at)) (exact l k here) ∙ passed in absurd (cc)),
)

-- the next key of an entry, told by the first key of a state and by the pointer behind the entry
abbrev next_by : Pointer → Pointer → List ℕ
next_by start None = unwrap_or start []
next_by start (Some k) = k

first_key_is : (s : Map) → first_key s ≡ unwrap_or (first_of s) []
first_key_is [] = refl
first_key_is (e ∷ s) = refl

-- entries that stand at the end of a state; a key that a pointer has not passed is looked up among them
record Rest (state : Map) (p : Pointer) (rest : Map) : Type 0 where
  done : Map
  at : done ++ rest ≡ state
  here : (l : List ℕ) → is_past p l ≡ false → value_at state l ≡ value_at rest l

-- the pointer goes on behind a key
lowered : (state : Map) (k : List ℕ) (p : Pointer) (rest : Map) → is_past p k ≡ true → Rest state (Some k) rest
    → Rest state p rest
lowered state k p rest passed r = record {
  done = r.done;
  at = r.at;
  here = λ l left. r.here l (between p k l passed left).0;
}

-- an entry that the pointer has passed is left out
dropped : (state : Map) (e : List ℕ × List ℕ) (p : Pointer) (rest : Map) → is_past p e.0 ≡ true
    → Rest state p (e ∷ rest) → Rest state p rest
dropped state e p rest passed r = record {
  done = r.done ++ e ∷ [];
  at = append_assoc r.done (e ∷ []) rest ∙ r.at;
  here = λ l left. r.here l left ∙ ap (λ b. cond b (Some e.1) (value_at rest l)) (between p e.0 l passed left).1;
}

behind_entry : (state : Map) (e : List ℕ × List ℕ) (p : Pointer) (rest : Map) → is_past p e.0 ≡ true
    → Rest state (Some e.0) (e ∷ rest) → Rest state p rest
behind_entry state e p rest passed r = dropped state e p rest passed (lowered state e.0 p (e ∷ rest) passed r)

value_here : (state : Map) (e : List ℕ × List ℕ) (rest : Map) → Rest state (Some e.0) (e ∷ rest)
    → value_at state e.0 ≡ Some e.1
value_here state e rest r = r.here e.0 (not_itself e.0) ∙ value_at_head e rest

next_is : (state : Map) (p : Pointer) (e : List ℕ × List ℕ) (rest : Map) → IsState state → Rest state p (e ∷ rest)
    → next_key state e.0 ≡ next_by (first_of state) (first_of rest)
next_is state p e [] h r = next_of_last state r.done e r.at h ∙ first_key_is state
next_is state p e (f ∷ rest) h r = next_behind state r.done e f rest r.at h

sorted_end : (done rest : Map) → IsState (done ++ rest) → IsState rest
sorted_end [] rest h = h
sorted_end (d ∷ done) rest h = sorted_end done rest (IsState-tail d (done ++ rest) h)

sorted_rest : (state : Map) (p : Pointer) (rest : Map) → IsState state → Rest state p rest → IsState rest
sorted_rest state p rest h r = sorted_end r.done rest (subst IsState (sym r.at) h)

-- the first key of a state is not above one that it has
not_above_first : (state : Map) (k v : List ℕ) → IsState state → value_at state k ≡ Some v
    → is_lt (key_order k (first_key state)) ≡ false
not_above_first [] k v h at = absurd (cc)
not_above_first (e ∷ s) k v h at =
    false_from_ne_true _ (λ under. none_below_first e s k v h at (subst T (sym under) tt))

-- behind an entry of a state the chain of its next keys stands at what is left of it
behind_next : (state : Map) (e : List ℕ × List ℕ) (rest : Map) → IsState state → Rest state (Some e.0) (e ∷ rest)
    → behind e.0 (next_key state e.0) ≡ first_of rest
behind_next state e [] h r =
    ap (behind e.0) (next_of_last state r.done e r.at h)
    ∙ ap (λ b. cond b (Some (first_key state)) None) (not_above_first state e.0 e.1 h (value_here state e [] r))
behind_next state e (f ∷ rest) h r =
    ap (behind e.0) (next_behind state r.done e f rest r.at h)
    ∙ ap (λ b. cond b (Some f.0) None) (past_tail e (f ∷ rest) (sorted_rest state (Some e.0) (e ∷ f ∷ rest) h r))

module _ (old : Map) (first_new : Pointer) (h : IsState old) where
  -- What is told.

  told_where : (k v n : List ℕ) (b : Bool) → (is_value (value_at old k) v && bytes_eq (next_key old k) n) ≡ b
      → update_to old k v n ≡ cond b [] (update (ordered k v n) ∷ [])
  told_where k v n b e = ap (λ b. cond b [] (update (ordered k v n) ∷ [])) e

  told_none : (k v n : List ℕ) → value_at old k ≡ Some v → next_key old k ≡ n → update_to old k v n ≡ []
  told_none k v n at next = told_where k v n true
      (ap (λ o. is_value o v && bytes_eq (next_key old k) n) at
      ∙ ap (λ b. b && bytes_eq (next_key old k) n) ((bytes_decides v v).1 refl)
      ∙ (bytes_decides (next_key old k) n).1 next)

  told_new : (k v n : List ℕ) → value_at old k ≡ None → update_to old k v n ≡ update (ordered k v n) ∷ []
  told_new k v n none = told_where k v n false (ap (λ o. is_value o v && bytes_eq (next_key old k) n) none)

  told_changed : (k v n w : List ℕ) → value_at old k ≡ Some w
      → not (bytes_eq w v && bytes_eq (next_key old k) n) ≡ true → update_to old k v n ≡ update (ordered k v n) ∷ []
  told_changed k v n w at other = told_where k v n false
      (ap (λ o. is_value o v && bytes_eq (next_key old k) n) at ∙ opposite _ other)

  -- Entries for what is left of the new state, where this is left of the old one and the new chain's pointer stands
  -- here: at the end of any new state with this first key, they have these operations told.
  record Leads (left : Map) (q : Pointer) (gone came : List Operation) : Type 0 where
    rest : Map
    at : q ≡ first_of rest
    sorted : IsState rest
    told : (new : Map) → IsState new → first_of new ≡ first_new → Rest new (first_of left) rest
        → (deletes left new ≡ gone) × (updates rest old new ≡ came)

  -- an update that closes names the next key that its entry has before these
  link : (k n : List ℕ) (p : Pointer) → closes first_new k n ≡ true → behind k n ≡ p
      → n ≡ next_by first_new p
  link k n p closed at = ⊎_elim
      (λ t. ap (next_by first_new) (sym (ap (λ b. cond b (Some n) None) t) ∙ at))
      (λ f. let start : first_new ≡ Some n =
      at_key first_new n (sym (ap (λ b. b || is_at_key first_new n) f) ∙ closed) in
      sym (ap (λ x. next_by x None) start)
      ∙ ap (next_by first_new) (sym (ap (λ b. cond b (Some n) None) f) ∙ at))
      (cases_Bool (is_lt (key_order k n)))

  -- an entry that stays
  kept : (e : List ℕ × List ℕ) (left : Map) (gone came : List Operation) → Rest old (Some e.0) (e ∷ left)
      → next_by (first_of old) (first_of left) ≡ next_by first_new (first_of left)
      → Leads left (first_of left) gone came → Leads (e ∷ left) (Some e.0) gone came
  kept e left gone came r ends_alike leads =
      let passed : is_past (first_of left) e.0 ≡ true =
      past_tail e left (sorted_rest old (Some e.0) (e ∷ left) h r) in
      record {
        rest = e ∷ leads.rest;
        at = refl;
        sorted = front e leads.rest (ap (λ p. is_past p e.0) (sym leads.at) ∙ passed) leads.sorted;
        told = λ new h_new start r_new.
            let later = leads.told new h_new start (behind_entry new e (first_of left) leads.rest passed r_new) in
            let next : next_key old e.0 ≡ next_key new e.0 =
            next_is old (Some e.0) e left h r ∙ ends_alike
            ∙ ap (λ p. next_by p (first_of left)) (sym start) ∙ ap (next_by (first_of new)) leads.at
            ∙ sym (next_is new (Some e.0) e leads.rest h_new r_new) in (
              ap (λ (o : Option (List ℕ)). cond (is_some o) [] (delete e.0 ∷ []) ++ deletes left new)
                  (value_here new e leads.rest r_new) ∙ later.0,
              ap (λ l. l ++ updates leads.rest old new)
                  (told_none e.0 e.1 (next_key new e.0) (value_here old e left r) next) ∙ later.1,
            );
      }

  -- a state whose first key is above a key lacks it
  lacks : (k : List ℕ) (s : Map) → IsState s → is_past (first_of s) k ≡ true → value_at s k ≡ None
  lacks k s sorted passed = none_later (k, []) s (front (k, []) s passed sorted)

  -- an entry that goes
  gone_one : (e : List ℕ × List ℕ) (left : Map) (q : Pointer) (gone came : List Operation)
      → IsState (e ∷ left) → is_past q e.0 ≡ true → Leads left q gone came
      → Leads (e ∷ left) q (delete e.0 ∷ gone) came
  gone_one e left q gone came sorted passed leads = record {
    rest = leads.rest;
    at = leads.at;
    sorted = leads.sorted;
    told = λ new h_new start r_new.
        let later = leads.told new h_new start
        (lowered new e.0 (first_of left) leads.rest (past_tail e left sorted) r_new) in
        let none : value_at new e.0 ≡ None = r_new.here e.0 (not_itself e.0)
        ∙ lacks e.0 leads.rest leads.sorted (ap (λ p. is_past p e.0) (sym leads.at) ∙ passed) in (
          ap (λ (o : Option (List ℕ)). cond (is_some o) [] (delete e.0 ∷ []) ++ deletes left new) none
              ∙ ap (λ l. delete e.0 ∷ l) later.0,
          later.1,
        );
  }

  -- the new entry of an update
  front_new : (k v n : List ℕ) (s : Map) → behind k n ≡ first_of s → IsState s → IsState ((k, v) ∷ s)
  front_new k v n s at sorted = front (k, v) s (ap (λ p. is_past p k) (sym at) ∙ behind_past k n) sorted

  next_new : (new : Map) (p : Pointer) (k v n : List ℕ) (s : Map) → IsState new → first_of new ≡ first_new
      → Rest new p ((k, v) ∷ s) → closes first_new k n ≡ true → behind k n ≡ first_of s
      → next_key new k ≡ n
  next_new new p k v n s h_new start r closed at =
      next_is new p (k, v) s h_new r ∙ ap (λ x. next_by x (first_of s)) start ∙ sym (link k n (first_of s) closed at)

  -- an entry that comes
  came_one : (k v n : List ℕ) (left : Map) (gone came : List Operation)
      → value_at old k ≡ None → is_past (first_of left) k ≡ true → closes first_new k n ≡ true
      → Leads left (behind k n) gone came → Leads left (Some k) gone (update (ordered k v n) ∷ came)
  came_one k v n left gone came none passed closed leads = record {
    rest = (k, v) ∷ leads.rest;
    at = refl;
    sorted = front_new k v n leads.rest leads.at leads.sorted;
    told = λ new h_new start r_new.
        let later = leads.told new h_new start (dropped new (k, v) (first_of left) leads.rest passed r_new) in
        let next : next_key new k ≡ n =
        next_new new (first_of left) k v n leads.rest h_new start r_new closed leads.at in (
          later.0,
          ap (λ l. l ++ updates leads.rest old new) (ap (update_to old k v) next ∙ told_new k v n none)
              ∙ ap (λ l. update (ordered k v n) ∷ l) later.1,
        );
  }

  -- an entry that changes
  changed_one : (k v n w : List ℕ) (left : Map) (gone came : List Operation) → Rest old (Some k) ((k, w) ∷ left)
      → not (bytes_eq w v && bytes_eq (next_key old k) n) ≡ true → closes first_new k n ≡ true
      → Leads left (behind k n) gone came → Leads ((k, w) ∷ left) (Some k) gone (update (ordered k v n) ∷ came)
  changed_one k v n w left gone came r other closed leads = record {
    rest = (k, v) ∷ leads.rest;
    at = refl;
    sorted = front_new k v n leads.rest leads.at leads.sorted;
    told = λ new h_new start r_new.
        let passed : is_past (first_of left) k ≡ true =
        past_tail (k, w) left (sorted_rest old (Some k) ((k, w) ∷ left) h r) in
        let later = leads.told new h_new start (behind_entry new (k, v) (first_of left) leads.rest passed r_new) in
        let next : next_key new k ≡ n = next_new new (Some k) k v n leads.rest h_new start r_new closed leads.at in (
          ap (λ (o : Option (List ℕ)). cond (is_some o) [] (delete k ∷ []) ++ deletes left new)
              (value_here new (k, v) leads.rest r_new) ∙ later.0,
          ap (λ l. l ++ updates leads.rest old new)
              (ap (update_to old k v) next ∙ told_changed k v n w (value_here old (k, w) left r) other)
              ∙ ap (λ l. update (ordered k v n) ∷ l) later.1,
        );
  }

  -- The walk.

  -- one entry on
  onward : (e : List ℕ × List ℕ) (left : Map) → Rest old (Some e.0) (e ∷ left) → Rest old (first_of left) left
  onward e left r =
      behind_entry old e (first_of left) left (past_tail e left (sorted_rest old (Some e.0) (e ∷ left) h r)) r

  nothing : Leads [] None [] []
  nothing = record { rest = []; at = refl; sorted = tt; told = λ new h_new start r_new. (refl, refl) }

  -- where both chains end the same way, all that is left stays
  all_stay : (left : Map) → Rest old (first_of left) left → first_new ≡ first_of old → Leads left (first_of left) [] []
  all_stay [] r alike = nothing
  all_stay (e ∷ left) r alike =
      kept e left [] [] r (ap (λ p. next_by p (first_of left)) (sym alike)) (all_stay left (onward e left r) alike)

  -- at the end of the walk
  at_end : (left : Map) (q : Pointer) → Rest old (first_of left) left
      → ends (first_of old) first_new (first_of left) q ≡ true → Leads left q [] []
  at_end [] q r e = subst (λ x. Leads [] x [] []) (one None q (and_parts _ _ e).0) nothing
  at_end (f ∷ left) q r e =
      let ends_so = and_parts (is_one (Some f.0) q) _ e in
      subst (λ x. Leads (f ∷ left) x [] []) (one (Some f.0) q ends_so.0)
      (all_stay (f ∷ left) r (one first_new (first_of old) ends_so.1))

  -- over a delete
  gone_here : (k : List ℕ) (go : Pointer → Pointer → Bool) (left : Map) (q : Pointer) (gone came : List Operation)
      → Rest old (first_of left) left
      → ((later : Map) → Rest old (first_of later) later → go (first_of later) q ≡ true → Leads later q gone came)
      → ((is_at_key (first_of left) k && is_past q k) && go (behind k (next_key old k)) q) ≡ true
      → Leads left q (delete k ∷ gone) came
  gone_here k go [] q gone came r inner e = absurd (cc)
  gone_here k go (f ∷ left) q gone came r inner e =
      let goes = and_parts (bytes_eq f.0 k && is_past q k) _ e in
      let stands = and_parts (bytes_eq f.0 k) _ goes.0 in
      let here : f.0 ≡ k = equal_bytes f.0 k stands.0 in
      let later : go (first_of left) q ≡ true =
      ap (λ p. go p q) (sym (behind_next old f left h r)) ∙ ap (λ x. go (behind x (next_key old x)) q) here ∙ goes.1 in
      subst (λ x. Leads (f ∷ left) q (delete x ∷ gone) came) here
      (gone_one f left q gone came (sorted_rest old (Some f.0) (f ∷ left) h r) (ap (is_past q) here ∙ stands.1)
      (inner left (onward f left r) later))

  gone_lead : (k : List ℕ) (go : Pointer → Pointer → Bool) (left : Map) (q : Pointer) (gone came : List Operation)
      → Rest old (first_of left) left
      → ((later : Map) → Rest old (first_of later) later → go (first_of later) q ≡ true → Leads later q gone came)
      → over_delete (entry_of old k) k go (first_of left) q ≡ true
      → Leads left q (delete k ∷ gone) came
  gone_lead k go left q gone came r inner e =
      elim (value_at old k) as (λ o. over_delete
      (option_map (λ value. (value, next_key old k)) o) k go (first_of left) q ≡ true
      → Leads left q (delete k ∷ gone) came) [
        | None ↦ λ e. absurd (cc)
        | Some w ↦ λ e. gone_here k go left q gone came r inner e
      ] e

  -- the entries up to one that changes stay
  alike_inside : (a b : Pointer) (left : Map) (k w : List ℕ) → value_at left k ≡ Some w
      → next_by a (first_of left) ≡ next_by b (first_of left)
  alike_inside a b [] k w at = absurd (cc)
  alike_inside a b (f ∷ left) k w at = refl

  up_to : (k w : List ℕ) (gone came : List Operation)
      → ((later : Map) → Rest old (Some k) ((k, w) ∷ later) → Leads ((k, w) ∷ later) (Some k) gone came)
      → (left : Map) → Rest old (first_of left) left → value_at left k ≡ Some w → Leads left (first_of left) gone came
  up_to k w gone came there [] r at = absurd (cc)
  up_to k w gone came there (f ∷ left) r at =
      ⊎_elim
      (λ here.
      let value : Some w ≡ Some f.1 = sym at ∙ ap (λ b. cond b (Some f.1) (value_at left k)) here in
      let whole : (k, w) ≡ f = ap (λ x. (x, w)) (exact k f.0 here) ∙ ap (λ o. (f.0, unwrap_or o w)) value in
      subst (λ x. Leads (x ∷ left) (Some x.0) gone came) whole
      (there left (subst (λ x. Rest old (Some x.0) (x ∷ left)) (sym whole) r)))
      (λ away.
      let later : value_at left k ≡ Some w = sym (ap (λ b. cond b (Some f.1) (value_at left k)) away) ∙ at in
      kept f left gone came r (alike_inside (first_of old) first_new left k w later)
      (up_to k w gone came there left (onward f left r) later))
      (cases_Bool (same k f.0))

  -- over an update
  came_here : (k v n : List ℕ) (go : Pointer → Pointer → Bool) (left : Map) (q : Pointer) (gone came : List Operation)
      → Rest old (first_of left) left
      → (go (first_of left) (behind k n) ≡ true → Leads left (behind k n) gone came)
      → value_at old k ≡ None
      → (((is_at_key q k && is_past (first_of left) k) && closes first_new k n)
      && go (first_of left) (behind k n)) ≡ true
      → Leads left q gone (update (ordered k v n) ∷ came)
  came_here k v n go left q gone came r inner none e =
      let goes = and_parts ((is_at_key q k && is_past (first_of left) k) && closes first_new k n) _ e in
      let closed = and_parts (is_at_key q k && is_past (first_of left) k) _ goes.0 in
      let stands = and_parts (is_at_key q k) _ closed.0 in
      subst (λ x. Leads left x gone (update (ordered k v n) ∷ came)) (sym (at_key q k stands.0))
      (came_one k v n left gone came none stands.1 closed.1 (inner goes.1))

  changed_here : (k v n w : List ℕ) (go : Pointer → Pointer → Bool) (left : Map) (q : Pointer)
      (gone came : List Operation) → Rest old (first_of left) left
      → ((later : Map) → Rest old (first_of later) later → go (first_of later) (behind k n) ≡ true
      → Leads later (behind k n) gone came)
      → value_at old k ≡ Some w
      → ((not (bytes_eq w v && bytes_eq (next_key old k) n)
      && ((is_one (first_of left) q && not (is_past (first_of left) k)) && closes first_new k n))
      && go (behind k (next_key old k)) (behind k n)) ≡ true
      → Leads left q gone (update (ordered k v n) ∷ came)
  changed_here k v n w go left q gone came r inner at e =
      let goes = and_parts (not (bytes_eq w v && bytes_eq (next_key old k) n) &&
      ((is_one (first_of left) q && not (is_past (first_of left) k)) && closes first_new k n)) _ e in
      let other = and_parts (not (bytes_eq w v && bytes_eq (next_key old k) n)) _ goes.0 in
      let closed = and_parts (is_one (first_of left) q && not (is_past (first_of left) k)) _ other.1 in
      let stands = and_parts (is_one (first_of left) q) _ closed.0 in
      subst (λ x. Leads left x gone (update (ordered k v n) ∷ came)) (one (first_of left) q stands.0)
      (up_to k w gone (update (ordered k v n) ∷ came)
      (λ later r_later. changed_one k v n w later gone came r_later other.0 closed.1
      (inner later (onward (k, w) later r_later)
      (ap (λ p. go p (behind k n)) (sym (behind_next old (k, w) later h r_later)) ∙ goes.1)))
      left r (sym (r.here k (opposite _ stands.1)) ∙ at))

  came_lead : (k v n : List ℕ) (go : Pointer → Pointer → Bool) (left : Map) (q : Pointer) (gone came : List Operation)
      → Rest old (first_of left) left
      → ((later : Map) → Rest old (first_of later) later → go (first_of later) (behind k n) ≡ true
      → Leads later (behind k n) gone came)
      → over_update first_new (entry_of old k) k v n go (first_of left) q ≡ true
      → Leads left q gone (update (ordered k v n) ∷ came)
  came_lead k v n go left q gone came r inner e =
      elim (value_at old k) as (λ o. value_at old k ≡ o → over_update first_new
      (option_map (λ value. (value, next_key old k)) o) k v n go (first_of left) q ≡ true
      → Leads left q gone (update (ordered k v n) ∷ came)) [
        | None ↦ λ none e. came_here k v n go left q gone came r (inner left r) none e
        | Some w ↦ λ at e. changed_here k v n w go left q gone came r inner at e
      ] refl e

  -- over all deletes that are left
  deletes_lead : (gone : List Operation) (left : Map) (q : Pointer) → Rest old (first_of left) left
      → over_deletes old (first_of old) first_new gone (first_of left) q ≡ true → Leads left q gone []
  deletes_lead [] left q r e = at_end left q r e
  deletes_lead (delete k ∷ gone) left q r e =
      gone_lead k (over_deletes old (first_of old) first_new gone) left q gone [] r
      (λ later r_later goes. deletes_lead gone later q r_later goes) e
  deletes_lead (update fields ∷ gone) left q r e = absurd (cc)
  deletes_lead (commit_floor m f ∷ gone) left q r e = absurd (cc)

  -- over the deletes below an update, that update, and the rest
  update_lead : (k v n : List ℕ) (go : List Operation → Pointer → Pointer → Bool) (came : List Operation)
      → ((gone : List Operation) (later : Map) (q : Pointer) → Rest old (first_of later) later
      → go gone (first_of later) q ≡ true → Leads later q gone came)
      → (gone : List Operation) (left : Map) (q : Pointer) → Rest old (first_of left) left
      → up_to_update old first_new k v n go gone (first_of left) q ≡ true
      → Leads left q gone (update (ordered k v n) ∷ came)
  update_lead k v n go came inner [] left q r e =
      came_lead k v n (go []) left q [] came r (λ later r_later goes. inner [] later (behind k n) r_later goes) e
  update_lead k v n go came inner (delete l ∷ gone) left q r e =
      elim (is_lt (key_order l k)) as (λ b. cond b
      (over_delete (entry_of old l) l
      (up_to_update old first_new k v n go gone) (first_of left) q)
      (over_update first_new (entry_of old k) k v n (go (delete l ∷ gone)) (first_of left) q) ≡ true
      → Leads left q (delete l ∷ gone) (update (ordered k v n) ∷ came)) [
        | true ↦ λ e. gone_lead l (up_to_update old first_new k v n go gone) left q gone
            (update (ordered k v n) ∷ came) r
            (λ later r_later goes. update_lead k v n go came inner gone later q r_later goes) e
        | false ↦ λ e. came_lead k v n (go (delete l ∷ gone)) left q (delete l ∷ gone) came r
            (λ later r_later goes. inner (delete l ∷ gone) later (behind k n) r_later goes) e
      ] e
  update_lead k v n go came inner (update fields ∷ gone) left q r e = absurd (cc)
  update_lead k v n go came inner (commit_floor m f ∷ gone) left q r e = absurd (cc)

  -- over all operations that are left
  all_lead : (came gone : List Operation) (left : Map) (q : Pointer) → Rest old (first_of left) left
      → walk old (first_of old) first_new came gone (first_of left) q ≡ true → Leads left q gone came
  all_lead [] gone left q r e = deletes_lead gone left q r e
  all_lead (delete k ∷ came) gone left q r e = absurd (cc)
  all_lead (update (ordered k v n) ∷ came) gone left q r e =
      update_lead k v n (walk old (first_of old) first_new came) came
      (λ gone later q r_later goes. all_lead came gone later q r_later goes) gone left q r e
  all_lead (commit_floor m f ∷ came) gone left q r e = absurd (cc)

  -- the new state whole
  leads_whole : (gone came : List Operation) → Leads old first_new gone came
      → gone ++ came ≡ batch_operations old (replayed old (gone ++ came))
  leads_whole gone came leads =
      let new : Map = leads.rest in
      let told = leads.told new leads.sorted (sym leads.at) (record { done = []; at = refl; here = λ l left. refl }) in
      let said : gone ++ came ≡ batch_operations old new =
      sym (ap (λ l. l ++ updates new old new) told.0 ∙ ap (λ l. gone ++ l) told.1) in
      said ∙ ap (batch_operations old) (sym (ap (replayed old) said ∙ replayed-batch old new h leads.sorted))

-- the law: what passes the walk leads from the old state to the one that it leads to
pub walk_leads : (old : Map) (first_new : Pointer) (gone came : List Operation) → IsState old
    → is_walk old first_new came gone ≡ true
    → gone ++ came ≡ batch_operations old (replayed old (gone ++ came))
walk_leads old first_new gone came h walks =
    leads_whole old first_new h gone came (all_lead old first_new h came gone old first_new
    (record { done = []; at = refl; here = λ l left. refl }) walks)
