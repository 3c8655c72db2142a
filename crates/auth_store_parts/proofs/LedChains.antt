-- What leads from one state to another passes the walk.
use Rattle.std.proofs.Common.{◌≡◌, ℕ, Bool, true, false, T, cond, ◌&&◌, not, List, [], ◌∷◌, ◌++◌, Option, None, Some}
use Rattle.std.proofs.Common.{refl, ap, sym, ◌∙◌, subst, append_assoc, ⊎_elim}
use Rattle.std.specs.Prelude.{is_some, option_map, ◌||◌, if◌then◌else◌}
use Rattle.std.proofs.lemmas.Bool.{cases_Bool, and_from, and_parts, or_right, not-true, false_from_ne_true}
use Rattle.std.proofs.lemmas.Cmp.{nat_list_cmp_total}
use Rattle.std.proofs.lemmas.Map.Lookups.{exact_bytes}
use Rattle.std.specs.Str.{bytes_eq}
use Rattle.std.specs.Cmp.Lexicographic.{bytes_decides}
use Rattle.std.specs.Ordering.{is_lt, ordering_reverse}
use Rattle.std.specs.declared.cmp.Ordering.TheVariants.{Less, Equal, Greater}
use Rattle.std.specs.FinMap.Entries.{below_all}
use Rattle.state_ops.specs.Operation.{Operation, delete, update, ordered, commit_floor}
use Rattle.auth_store_parts.specs.Map.{Map, key_order, value_at, first_key, next_key, entry_of}
use Rattle.auth_store_parts.specs.History.{IsState, is_value, is_kept, deletes, updates}
use Rattle.auth_store_parts.specs.Chains.{Pointer, first_of, behind, is_at_key, is_past, is_one, closes, ends}
use Rattle.auth_store_parts.specs.Chains.{over_delete, over_update, over_deletes, up_to_update, walk, is_walk}
use Rattle.auth_store_parts.specs.Laws.Lookups.{same, exact, none_later, IsState-tail}
use Rattle.auth_store_parts.specs.Laws.Logs.{equal_bytes}
use Rattle.auth_store_parts.specs.Laws.Below.{value_at_head, value_at_behind, none_below_first}
use Rattle.auth_store_parts.specs.Laws.Neighbours.{first, is, next_behind, next_of_last}
use Rattle.auth_store_parts.proofs.Pointers.{transitive, not_itself, one_way, apart, past_tail, front}

second : (a b : Bool) → T (a && b) → T b
second true b p = p
second false b p = absurd p

holds : (b : Bool) → b ≡ true → T b
holds true e = tt
holds false e = absurd (cc)

one_bytes : (x : List ℕ) → bytes_eq x x ≡ true
one_bytes x = (bytes_decides x x).1 refl

one_key : (p q : Pointer) (k : List ℕ) → is_at_key p k ≡ true → is_at_key q k ≡ true → is_one p q ≡ true
one_key None q k at also = absurd (cc)
one_key (Some x) None k at also = absurd (cc)
one_key (Some x) (Some y) k at also = (bytes_decides x y).1 (equal_bytes x k at ∙ sym (equal_bytes y k also))

-- a look-up behind the first entry, of another key
past : (e : List ℕ × List ℕ) (s : Map) (q : List ℕ) → same q e.0 ≡ false → value_at (e ∷ s) q ≡ value_at s q
past e s q away = ap (λ b. cond b (Some e.1) (value_at s q)) away

-- a key that a state has is not one that it lacks
differs : (s : Map) (q k v : List ℕ) → value_at s q ≡ Some v → value_at s k ≡ None → same q k ≡ false
differs s q k v at none = false_from_ne_true (same q k)
    (λ is_so. let there = ap (value_at s) (exact q k is_so) ∙ none in absurd (cc))

-- what a state says of an entry with these behind it: its value, and its next key, which stands behind it or is the
-- first one
record IsAt (s : Map) (e : List ℕ × List ℕ) (rest : Map) : Type 0 where
  here : value_at s e.0 ≡ Some e.1
  next : behind e.0 (next_key s e.0) ≡ first_of rest
  closed : (is_lt (key_order e.0 (next_key s e.0)) || is_at_key (first_of s) (next_key s e.0)) ≡ true

-- and of the entries from one on
abbrev IsRest : Map → Map → Type 0
IsRest s [] = Unit {0}
IsRest s (e ∷ rest) = IsAt s e rest × IsRest s rest

value_at_passed : (done : Map) (e : List ℕ × List ℕ) (rest : Map) → IsState (done ++ e ∷ rest)
    → value_at (done ++ e ∷ rest) e.0 ≡ Some e.1
value_at_passed [] e rest h = value_at_head e rest
value_at_passed (d ∷ done) e rest h =
    value_at_behind d (done ++ e ∷ rest) e.0 e.1 h (value_at_passed done e rest (IsState-tail d (done ++ e ∷ rest) h))

first_some : (s : Map) (q v : List ℕ) → value_at s q ≡ Some v → first_of s ≡ Some (first_key s)
first_some [] q v at = absurd (cc)
first_some (e ∷ s) q v at = refl

-- no key of a state is below its first one
first_least : (s : Map) (q v : List ℕ) → IsState s → value_at s q ≡ Some v
    → is_lt (key_order q (first_key s)) ≡ false
first_least [] q v h at = absurd (cc)
first_least (e ∷ s) q v h at = false_from_ne_true _ (λ under. none_below_first e s q v h at (holds _ under))

is_at : (s done : Map) (e : List ℕ × List ℕ) (rest : Map) → done ++ e ∷ rest ≡ s → IsState s → IsState (e ∷ rest)
    → IsAt s e rest
is_at s done e [] at h sorted =
    let here = subst (λ r. IsState r → value_at r e.0 ≡ Some e.1) at (value_at_passed done e []) h in
    let next : next_key s e.0 ≡ first_key s = next_of_last s done e at h in
    record {
      here = here;
      next = ap (λ b. if b then Some (next_key s e.0) else None)
          (ap (λ k. is_lt (key_order e.0 k)) next ∙ first_least s e.0 e.1 h here);
      closed = or_right _ _ (ap (λ p. is_at_key p (next_key s e.0)) (first_some s e.0 e.1 here)
          ∙ ap (λ k. bytes_eq (first_key s) k) next ∙ one_bytes (first_key s));
    }
is_at s done e (f ∷ rest) at h sorted =
    let next : next_key s e.0 ≡ f.0 = next_behind s done e f rest at h in
    let below : is_lt (key_order e.0 (next_key s e.0)) ≡ true =
    ap (λ k. is_lt (key_order e.0 k)) next ∙ past_tail e (f ∷ rest) sorted in
    record {
      here = subst (λ r. IsState r → value_at r e.0 ≡ Some e.1) at (value_at_passed done e (f ∷ rest)) h;
      next = ap (λ b. if b then Some (next_key s e.0) else None) below ∙ ap (λ k. Some k) next;
      closed = ap (λ b. b || is_at_key (first_of s) (next_key s e.0)) below;
    }

is_rest : (s done rest : Map) → done ++ rest ≡ s → IsState s → IsState rest → IsRest s rest
is_rest s done [] at h sorted = tt
is_rest s done (e ∷ rest) at h sorted = (
  is_at s done e rest at h sorted,
  is_rest s (done ++ e ∷ []) rest (append_assoc done (e ∷ []) rest ∙ at) h (IsState-tail e rest sorted),
)

module _ (old new : Map) where
  abbrev step : List Operation → List Operation → Pointer → Pointer → Bool
  step = walk old (first_of old) (first_of new)

  -- where a delete is below all that is updated, it is the first step
  delete_first : (d : List ℕ) (D : List Operation) (N : Map) (p q : Pointer) → T (below_all key_order d N)
      → step (updates N old new) (delete d ∷ D) p q
      ≡ over_delete (entry_of old d) d (step (updates N old new) D) p q
  delete_first d D [] p q under = refl
  delete_first d D (f ∷ N) p q under =
      elim (is_kept old new f.0 f.1) as (λ b.
      step (cond b [] (update (ordered f.0 f.1 (next_key new f.0)) ∷ []) ++ updates N old new) (delete d ∷ D) p q
      ≡ over_delete (entry_of old d) d
      (step (cond b [] (update (ordered f.0 f.1 (next_key new f.0)) ∷ []) ++ updates N old new) D) p q) [
        | true ↦ delete_first d D N p q (second (is_lt (key_order d f.0)) _ under)
        | false ↦ ap (λ b. if b
            then over_delete (entry_of old d) d
            (up_to_update old (first_of new) f.0 f.1 (next_key new f.0) (step (updates N old new)) D) p q
            else over_update (first_of new) (entry_of old f.0) f.0 f.1 (next_key new f.0)
            (step (updates N old new) (delete d ∷ D)) p q) (is _ (first _ _ under))
      ]

  -- where an update is below all that is deleted, it is the first step
  update_first : (k v n : List ℕ) (U : List Operation) (O : Map) (p q : Pointer) → T (below_all key_order k O)
      → step (update (ordered k v n) ∷ U) (deletes O new) p q
      ≡ over_update (first_of new) (entry_of old k) k v n (step U (deletes O new)) p q
  update_first k v n U [] p q under = refl
  update_first k v n U (e ∷ O) p q under =
      elim (is_some (value_at new e.0)) as (λ b.
      step (update (ordered k v n) ∷ U) (cond b [] (delete e.0 ∷ []) ++ deletes O new) p q
      ≡ over_update (first_of new) (entry_of old k) k v n
      (step U (cond b [] (delete e.0 ∷ []) ++ deletes O new)) p q) [
        | true ↦ update_first k v n U O p q (second (is_lt (key_order k e.0)) _ under)
        | false ↦ ap (λ b. if b
            then over_delete (entry_of old e.0) e.0
            (up_to_update old (first_of new) k v n (step U) (deletes O new)) p q
            else over_update (first_of new) (entry_of old k) k v n
            (step U (delete e.0 ∷ deletes O new)) p q) (one_way k e.0 (is _ (first _ _ under)))
      ]

  -- no delete passes where both pointers are one
  no_delete : (o : Option (List ℕ × List ℕ)) (d : List ℕ) (go : Pointer → Pointer → Bool) (p : Pointer)
      → over_delete o d go p p ≡ true → ⊥
  no_delete None d go p e = cc
  no_delete (Some w) d go p e =
      let at = and_parts (is_at_key p d) (is_past p d) (and_parts (is_at_key p d && is_past p d) _ e).0 in
      apart p d at.0 at.1

  -- where both states have a key with one next key, a walk that passes from behind the key passes from the key itself:
  -- no step is at it
  module _ (k n : List ℕ) (old_closed : (is_lt (key_order k n) || is_at_key (first_of old) n) ≡ true)
      (new_closed : (is_lt (key_order k n) || is_at_key (first_of new) n) ≡ true) where
    ends_kept : (b : Bool) → (b || is_at_key (first_of old) n) ≡ true → (b || is_at_key (first_of new) n) ≡ true
        → ends (first_of old) (first_of new) (if b then Some n else None) (if b then Some n else None) ≡ true
        → is_one (first_of new) (first_of old) ≡ true
    ends_kept true o c e = (and_parts (bytes_eq n n) _ e).1
    ends_kept false o c e = one_key (first_of new) (first_of old) n c o

    not_passed : (l : List ℕ) (b : Bool) → is_lt (key_order k n) ≡ b
        → not (is_past (if b then Some n else None) l) ≡ true → not (is_lt (key_order l k)) ≡ true
    not_passed l true over e = ap not (false_from_ne_true _ (λ under.
        let yes : is_lt (key_order l n) ≡ true = transitive l k n under over in
        let no : is_lt (key_order l n) ≡ false = not-true _ e in cc))
    not_passed l false over e = absurd (cc)

    update_kept : (o : Option (List ℕ × List ℕ)) (l v m : List ℕ) (go : Pointer → Pointer → Bool)
        → over_update (first_of new) o l v m go (behind k n) (behind k n) ≡ true
        → over_update (first_of new) o l v m go (Some k) (Some k) ≡ true
    update_kept None l v m go e =
        let here = (and_parts (is_at_key (behind k n) l && is_past (behind k n) l) _ (and_parts _ _ e).0).0 in
        let at = and_parts (is_at_key (behind k n) l) (is_past (behind k n) l) here in
        absurd (apart (behind k n) l at.0 at.1)
    update_kept (Some w) l v m go e =
        let changed : Bool = not (bytes_eq w.0 v && bytes_eq w.1 m) in
        let all = and_parts (changed && ((is_one (behind k n) (behind k n) && not (is_past (behind k n) l))
        && closes (first_of new) l m)) _ e in
        let front = and_parts changed _ all.0 in
        let right = and_parts (is_one (behind k n) (behind k n) && not (is_past (behind k n) l)) _ front.1 in
        let beyond = (and_parts (is_one (behind k n) (behind k n)) _ right.0).1 in
        and_from _ _ (and_from changed _ front.0 (and_from _ _ (and_from _ _ (one_bytes k)
        (not_passed l (is_lt (key_order k n)) refl beyond)) right.1)) all.1

    kept : (U D : List Operation) → step U D (behind k n) (behind k n) ≡ true → step U D (Some k) (Some k) ≡ true
    kept [] [] e = and_from _ _ (one_bytes k) (ends_kept (is_lt (key_order k n)) old_closed new_closed e)
    kept [] (delete d ∷ D) e =
        absurd (no_delete (entry_of old d) d (over_deletes old (first_of old) (first_of new) D) (behind k n) e)
    kept [] (update fields ∷ D) e = absurd (cc)
    kept [] (commit_floor m f ∷ D) e = absurd (cc)
    kept (delete l ∷ U) D e = absurd (cc)
    kept (update (ordered l v m) ∷ U) [] e = update_kept (entry_of old l) l v m (step U []) e
    kept (update (ordered l v m) ∷ U) (delete d ∷ D) e =
        let go : Pointer → Pointer → Bool = up_to_update old (first_of new) l v m (step U) D in
        let by : Bool → Pointer → Bool = λ b x. if b
        then over_delete (entry_of old d) d go x x
        else over_update (first_of new) (entry_of old l) l v m (step U (delete d ∷ D)) x x in
        elim (is_lt (key_order d l)) as (λ b. by b (behind k n) ≡ true → by b (Some k) ≡ true) [
          | true ↦ λ stops. absurd (no_delete (entry_of old d) d go (behind k n) stops)
          | false ↦ update_kept (entry_of old l) l v m (step U (delete d ∷ D))
        ] e
    kept (update (ordered l v m) ∷ U) (update fields ∷ D) e = absurd (cc)
    kept (update (ordered l v m) ∷ U) (commit_floor x f ∷ D) e = absurd (cc)
    kept (commit_floor m f ∷ U) D e = absurd (cc)

  -- what is known of what is left of both states: at a key of the one, the other has what its whole state has
  record AreRests (O N : Map) : Type 0 where
    old_state : IsState O
    new_state : IsState N
    old_rest : IsRest old O
    new_rest : IsRest new N
    in_new : (q v : List ℕ) → value_at O q ≡ Some v → value_at new q ≡ value_at N q
    in_old : (q v : List ℕ) → value_at N q ≡ Some v → value_at old q ≡ value_at O q

  abbrev IsLed : Map → Map → Type 0
  IsLed O N = step (updates N old new) (deletes O new) (first_of O) (first_of N) ≡ true

  -- a key that only the old state has
  gone : (e : List ℕ × List ℕ) (O N : Map) → IsState (e ∷ N) → AreRests (e ∷ O) N → (AreRests O N → IsLed O N)
      → IsLed (e ∷ O) N
  gone e O N under rests later =
      let at : IsAt old e O = rests.old_rest.0 in
      let none : value_at N e.0 ≡ None = none_later e N under in
      let lacks : value_at new e.0 ≡ None = rests.in_new e.0 e.1 (value_at_head e O) ∙ none in
      let led : IsLed O N = later (record {
        old_state = IsState-tail e O rests.old_state;
        new_state = rests.new_state;
        old_rest = rests.old_rest.1;
        new_rest = rests.new_rest;
        in_new = λ q v there. rests.in_new q v (value_at_behind e O q v rests.old_state there);
        in_old = λ q v there. rests.in_old q v there ∙ past e O q (differs N q e.0 v there none);
      }) in
      ap (λ (o : Option (List ℕ)). step (updates N old new) (cond (is_some o) [] (delete e.0 ∷ []) ++ deletes O new)
      (Some e.0) (first_of N)) lacks
      ∙ delete_first e.0 (deletes O new) N (Some e.0) (first_of N) (first _ _ under)
      ∙ ap (λ o. over_delete (option_map (λ value. (value, next_key old e.0)) o) e.0
      (step (updates N old new) (deletes O new)) (Some e.0) (first_of N)) at.here
      ∙ and_from _ _ (and_from _ _ (one_bytes e.0) (past_tail e N under))
      (ap (λ p. step (updates N old new) (deletes O new) p (first_of N)) at.next ∙ led)

  -- a key that only the new state has
  came : (f : List ℕ × List ℕ) (O N : Map) → IsState (f ∷ O) → AreRests O (f ∷ N) → (AreRests O N → IsLed O N)
      → IsLed O (f ∷ N)
  came f O N under rests later =
      let at : IsAt new f N = rests.new_rest.0 in
      let n : List ℕ = next_key new f.0 in
      let none : value_at O f.0 ≡ None = none_later f O under in
      let lacks : value_at old f.0 ≡ None = rests.in_old f.0 f.1 (value_at_head f N) ∙ none in
      let led : IsLed O N = later (record {
        old_state = rests.old_state;
        new_state = IsState-tail f N rests.new_state;
        old_rest = rests.old_rest;
        new_rest = rests.new_rest.1;
        in_new = λ q v there. rests.in_new q v there ∙ past f N q (differs O q f.0 v there none);
        in_old = λ q v there. rests.in_old q v (value_at_behind f N q v rests.new_state there);
      }) in
      ap (λ (o : Option (List ℕ)). step (cond (is_value o f.1 && bytes_eq (next_key old f.0) n) []
      (update (ordered f.0 f.1 n) ∷ []) ++ updates N old new) (deletes O new) (first_of O) (Some f.0)) lacks
      ∙ update_first f.0 f.1 n (updates N old new) O (first_of O) (Some f.0) (first _ _ under)
      ∙ ap (λ o. over_update (first_of new) (option_map (λ value. (value, next_key old f.0)) o)
      f.0 f.1 n (step (updates N old new) (deletes O new)) (first_of O) (Some f.0)) lacks
      ∙ and_from _ _ (and_from _ _ (and_from _ _ (one_bytes f.0) (past_tail f O under)) at.closed)
      (ap (λ q. step (updates N old new) (deletes O new) (first_of O) q) at.next ∙ led)

  -- a key that both states have
  stays : (k v w : List ℕ) (O N : Map) → AreRests ((k, v) ∷ O) ((k, w) ∷ N) → (AreRests O N → IsLed O N)
      → IsLed ((k, v) ∷ O) ((k, w) ∷ N)
  stays k v w O N rests later =
      let old_at : IsAt old (k, v) O = rests.old_rest.0 in
      let new_at : IsAt new (k, w) N = rests.new_rest.0 in
      let n : List ℕ = next_key new k in
      let led : IsLed O N = later (record {
        old_state = IsState-tail (k, v) O rests.old_state;
        new_state = IsState-tail (k, w) N rests.new_state;
        old_rest = rests.old_rest.1;
        new_rest = rests.new_rest.1;
        in_new = λ q u there. rests.in_new q u (value_at_behind (k, v) O q u rests.old_state there)
            ∙ past (k, w) N q (differs O q k u there (none_later (k, v) O rests.old_state));
        in_old = λ q u there. rests.in_old q u (value_at_behind (k, w) N q u rests.new_state there)
            ∙ past (k, v) O q (differs N q k u there (none_later (k, w) N rests.new_state));
      }) in
      let go : Pointer → Pointer → Bool = step (updates N old new) (deletes O new) in
      let goes : go (behind k (next_key old k)) (behind k n) ≡ true =
      ap (λ p. go p (behind k n)) old_at.next ∙ (ap (go (first_of O)) new_at.next ∙ led) in
      let by : Bool → Bool = λ b. step (cond b [] (update (ordered k w n) ∷ []) ++ updates N old new)
      (deletes O new) (Some k) (Some k) in
      ap (λ (o : Option (List ℕ)). step (updates ((k, w) ∷ N) old new)
      (cond (is_some o) [] (delete k ∷ []) ++ deletes O new) (Some k) (Some k)) new_at.here
      ∙ ⊎_elim
      (λ (same_so : is_kept old new k w ≡ true).
      let next : next_key old k ≡ n =
      equal_bytes (next_key old k) n (and_parts (is_value (value_at old k) w) _ same_so).1 in
      ap by same_so ∙ kept k n
      (ap (λ x. is_lt (key_order k x) || is_at_key (first_of old) x) (sym next) ∙ old_at.closed) new_at.closed
      (updates N old new) (deletes O new) (ap (λ x. go (behind k x) (behind k n)) (sym next) ∙ goes))
      (λ (changed : is_kept old new k w ≡ false).
      ap by changed ∙ update_first k w n (updates N old new) O (Some k) (Some k) (first _ _ rests.old_state)
      ∙ ap (λ o. over_update (first_of new) (option_map (λ value. (value, next_key old k)) o)
      k w n go (Some k) (Some k)) old_at.here
      ∙ and_from _ _ (and_from _ _
      (ap not (ap (λ o. is_value o w && bytes_eq (next_key old k) n) (sym old_at.here) ∙ changed))
      (and_from _ _ (and_from _ _ (one_bytes k) (ap not (not_itself k))) new_at.closed)) goes)
      (cases_Bool (is_kept old new k w))

  -- the operations of what is left of both states pass the walk
  merge_new : (N : Map) → AreRests [] N → IsLed [] N
  merge_new [] rests = refl
  merge_new (f ∷ N) rests = came f [] N tt rests (merge_new N)

  merge_step : (e : List ℕ × List ℕ) (O : Map) → ((N : Map) → AreRests O N → IsLed O N)
      → (N : Map) → AreRests (e ∷ O) N → IsLed (e ∷ O) N
  merge_step e O earlier [] rests = gone e O [] tt rests (earlier [])
  merge_step e O earlier (f ∷ N) rests =
      elim (key_order e.0 f.0) as (λ o. key_order e.0 f.0 ≡ o → IsLed (e ∷ O) (f ∷ N)) [
        | Less ↦ λ o. gone e O (f ∷ N) (front e (f ∷ N) (ap is_lt o) rests.new_state) rests (earlier (f ∷ N))
        | Equal ↦ λ o. subst (λ k. AreRests ((k, e.1) ∷ O) (f ∷ N) → IsLed ((k, e.1) ∷ O) (f ∷ N))
            (sym (exact_bytes e.0 f.0 o)) (λ rests. stays f.0 e.1 f.1 O N rests (earlier N)) rests
        | Greater ↦ λ o.
            let under : is_lt (key_order f.0 e.0) ≡ true =
            ap is_lt (nat_list_cmp_total.antisymm f.0 e.0 ∙ ap ordering_reverse o) in
            came f (e ∷ O) N (front f (e ∷ O) under rests.old_state) rests (merge_step e O earlier N)
      ] refl

  merge : (O N : Map) → AreRests O N → IsLed O N
  merge [] N rests = merge_new N rests
  merge (e ∷ O) N rests = merge_step e O (merge O) N rests

-- the operations that lead from an old state to a new one pass the walk
pub led_walk : (old new : Map) → IsState old → IsState new
    → is_walk old (first_of new) (updates new old new) (deletes old new) ≡ true
led_walk old new h_old h_new = merge old new old new (record {
  old_state = h_old;
  new_state = h_new;
  old_rest = is_rest old [] old refl h_old h_old;
  new_rest = is_rest new [] new refl h_new h_new;
  in_new = λ q v at. refl;
  in_old = λ q v at. refl;
})
