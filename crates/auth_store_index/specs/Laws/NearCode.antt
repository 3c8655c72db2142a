-- Maps of the code that tell a batch by few keys.
use Rattle.std.proofs.Common.{◌≡◌, ℕ, zero, suc, arith, Bool, true, false, T, cond, subst, not, ◌&&◌, List, [], ◌∷◌}
use Rattle.std.proofs.Common.{◌++◌, ◌-◌, ◌+◌, ◌<◌, ◌≤◌, Option, None, Some, slice_get, drop, length, get_or, refl, ap}
use Rattle.std.proofs.Common.{sym, ◌∙◌, append_assoc, append-nil}
use Rattle.std.specs.Prelude.{is_some, filter, map, ◌||◌}
use Rattle.std.proofs.lemmas.List.{at_drop_more, at_drop_all}
use Rattle.std.specs.declared.cmp.Ordering.{Ordering}
use Rattle.std.specs.declared.cmp.Ordering.TheVariants.{Less, Equal, Greater}
use Rattle.std.specs.declared.ops.Bound.TheVariants.{Excluded, Unbounded}
use Rattle.std.specs.Ordering.{is_lt, is_gt, is_le}
use Rattle.std.specs.BTreeMap.Range.{range_contains}
use Rattle.state_ops.specs.Operation.{Operation, delete}
use Rattle.auth_store_parts.specs.Map.{Map, state_of, key_order, value_at, with_entry, first_key, next_key}
use Rattle.auth_store_parts.specs.Batch.{Word, map_after}
use Rattle.auth_store_parts.specs.History.{IsState, update_to, updates, batch_operations}
use Rattle.auth_store_parts.specs.Laws.Lookups.{IsState-tail}
use Rattle.auth_store_parts.specs.Laws.Below.{IsBelow}
use Rattle.auth_store_parts.specs.Chains.{first_of}
use Rattle.auth_store_index.specs.Near.{below, between, last_key, prev_key, key_of, staying, with_found, with_gone}
use Rattle.auth_store_index.specs.Near.{gone_after, with_kept, near_after, next_near, next_round, IsTold}
use Rattle.auth_store_index.specs.Laws.Prevs.{last_append}
use Rattle.auth_store_index.specs.Laws.Near.{next_told, next_round_told}
use Rattle.auth_store_index.specs.Laws.Told.{near_told, near_tell}

-- ---- a walk over entries for the first that stays
pub stays_first : {K X : Type 0} (key : K → List ℕ)
    (value : X → List ℕ) (gone : Map) (left rest : List (K × X)) (k : K) (x : X)
    (whole : Option (List ℕ)) → left ≡ (k, x) ∷ rest → false ≡ is_some (value_at gone (key k))
    → first_of (staying gone (state_of key value left)) ≡ whole → Some (key k) ≡ whole
stays_first key value gone left rest k x whole steps stays here =
    ap (λ b. first_of (cond (not b) ((key k, value x)
    ∷ staying gone (state_of key value rest)) (staying gone (state_of key value rest)))) stays
    ∙ (ap (λ l. first_of (staying gone (state_of key value l))) (sym steps) ∙ here)

pub goes_first : {K X : Type 0} (key : K → List ℕ)
    (value : X → List ℕ) (gone : Map) (left rest : List (K × X)) (k : K) (x : X)
    (whole : Option (List ℕ)) → left ≡ (k, x) ∷ rest → true ≡ is_some (value_at gone (key k))
    → first_of (staying gone (state_of key value left)) ≡ whole
    → first_of (staying gone (state_of key value rest)) ≡ whole
goes_first key value gone left rest k x whole steps goes here =
    ap (λ b. first_of (cond (not b) ((key k, value x)
    ∷ staying gone (state_of key value rest)) (staying gone (state_of key value rest)))) goes
    ∙ (ap (λ l. first_of (staying gone (state_of key value l))) (sym steps) ∙ here)

-- ---- the first of entries, before others
pub first_here : (k : List ℕ) (one other : Map) → Some k ≡ first_of one → k ≡ first_key (one ++ other)
first_here k [] other is = absurd (cc)
first_here k (e ∷ one) other is = inner (is)
  where
    unwrap : Option (List ℕ) → List ℕ
    unwrap None = k
    unwrap (Some q) = q

    inner : Some k ≡ Some e.0 → k ≡ e.0
    inner h = ap unwrap h

pub first_there : (one other : Map) → None ≡ first_of one → first_key other ≡ first_key (one ++ other)
first_there [] other is = refl
first_there (e ∷ one) other is = absurd (cc)

-- ---- the last of entries
last_at : {K X : Type 0} (key : K → List ℕ) (value : X → List ℕ) (es : List (K × X)) (n : ℕ) (x : K × X)
    → n + 1 ≡ length es → slice_get es n ≡ Some x → key x.0 ≡ last_key (state_of key value es)
last_at key value [] n x len is = absurd (cc)
last_at {K = K} {X = X} key value (e ∷ []) zero x len is = ap (λ o. key (of o)) (sym is)
  where
    of : Option (K × X) → K
    of None = x.0
    of (Some y) = y.0
last_at key value (e ∷ []) (suc n) x len is = absurd (cc)
last_at key value (e ∷ f ∷ es) zero x len is = absurd (omega (arith, len))
last_at key value (e ∷ f ∷ es) (suc n) x len is = last_at key value (f ∷ es) n x (omega (arith, len)) is

there_at : {A : Type 0} (xs : List A) (x : A) → slice_get xs (length xs - 1) ≡ Some x → (length xs - 1) + 1 ≡ length xs
there_at [] x is = absurd (cc)
there_at (y ∷ xs) x is = omega arith

module _ {K X : Type 0} (key : K → List ℕ) (value : X → List ℕ) (cmp : K → K → Ordering)
    (ordered : (a b : K) → cmp a b ≡ key_order (key a) (key b)) where
  pub state_of-below : (es : List (K × X)) (k : K)
      → state_of key value (filter (λ e. range_contains cmp Unbounded (Excluded k) e.0) es)
      ≡ below (state_of key value es) (key k)
  state_of-below [] k = refl
  state_of-below (e ∷ es) k =
      rw (← ordered k e.0) (elim (cmp k e.0) as (λ o. state_of key value
      (cond (true && not (is_le o)) (e ∷ filter (λ x. range_contains cmp Unbounded (Excluded k) x.0) es)
      (filter (λ x. range_contains cmp Unbounded (Excluded k) x.0) es)) ≡ cond (is_gt o)
      ((key e.0, value e.1) ∷ below (state_of key value es) (key k)) (below (state_of key value es) (key k))) [
        | Less ↦ state_of-below es k
        | Equal ↦ state_of-below es k
        | Greater ↦ ap (λ s. (key e.0, value e.1) ∷ s) (state_of-below es k)
      ])

  up_to : (o : Ordering) → not (is_le o) ≡ is_gt o
  up_to Less = refl
  up_to Equal = refl
  up_to Greater = refl

  pub state_of-between : (es : List (K × X)) (k l : K)
      → state_of key value (filter (λ e. range_contains cmp (Excluded k) (Excluded l) e.0) es)
      ≡ between (state_of key value es) (key k) (key l)
  state_of-between [] k l = refl
  state_of-between (e ∷ es) k l =
      ap (λ b. state_of key value (cond b (e ∷ filter (λ x. range_contains cmp (Excluded k) (Excluded l) x.0) es)
      (filter (λ x. range_contains cmp (Excluded k) (Excluded l) x.0) es))) test
      ∙ of (is_lt (key_order (key k) (key e.0)) && is_gt (key_order (key l) (key e.0))) (state_of-between es k l)
    where
      test : (is_lt (cmp k e.0) && not (is_le (cmp l e.0)))
          ≡ (is_lt (key_order (key k) (key e.0)) && is_gt (key_order (key l) (key e.0)))
      test = ap (λ o. is_lt o && not (is_le (cmp l e.0))) (ordered k e.0)
          ∙ ap (λ b. is_lt (key_order (key k) (key e.0)) && b) (up_to (cmp l e.0) ∙ ap is_gt (ordered l e.0))

      of : (b : Bool)
          → state_of key value (filter (λ x. range_contains cmp (Excluded k) (Excluded l) x.0) es)
          ≡ between (state_of key value es) (key k) (key l)
          → state_of key value (cond b (e ∷ filter (λ x. range_contains cmp (Excluded k) (Excluded l) x.0) es)
          (filter (λ x. range_contains cmp (Excluded k) (Excluded l) x.0) es))
          ≡ cond b ((key e.0, value e.1) ∷ between (state_of key value es) (key k) (key l))
          (between (state_of key value es) (key k) (key l))
      of true rest = ap (λ s. (key e.0, value e.1) ∷ s) rest
      of false rest = rest

  -- the last entry of the range below is the one before
  pub prev_below : (es range rest : List (K × X)) (k : K) (found : K × X)
      → range ≡ filter (λ e. range_contains cmp Unbounded (Excluded k) e.0) es → range ≡ rest ++ found ∷ []
      → key found.0 ≡ prev_key (state_of key value es) (key k)
  prev_below es range rest k found is ends =
      sym (ap (λ b. last_key (state_of key value es ++ b))
      (sym (state_of-below es k) ∙ (ap (state_of key value) (sym is ∙ ends) ∙ last_map rest))
      ∙ (ap last_key (sym (append_assoc (state_of key value es) (state_of key value rest) ((key found.0, value found.1)
      ∷ [])))
      ∙ last_append (state_of key value es ++ state_of key value rest) (key found.0, value found.1) []))
    where
      last_map : (rest : List (K × X)) → state_of key value (rest ++ found ∷ [])
          ≡ state_of key value rest ++ (key found.0, value found.1) ∷ []
      last_map [] = refl
      last_map (e ∷ rest) = ap (λ s. (key e.0, value e.1) ∷ s) (last_map rest)

  -- where none is below, the last of all is
  pub prev_last : (es range : List (K × X)) (k : K) (found : K × X)
      → range ≡ filter (λ e. range_contains cmp Unbounded (Excluded k) e.0) es → range ≡ []
      → slice_get es (length es - 1) ≡ Some found → key found.0 ≡ prev_key (state_of key value es) (key k)
  prev_last es range k found is none last =
      last_at key value es (length es - 1) found (there_at es found last) last
      ∙ (sym (ap last_key (append-nil (state_of key value es)))
      ∙ ap (λ b. last_key (state_of key value es ++ b))
      (ap (state_of key value) (sym none ∙ is) ∙ state_of-below es k))

-- ---- keys that go
pub gone_none : (old puts gone : Map) (k : List ℕ) → false ≡ is_some (value_at puts k) → None ≡ value_at old k
    → gone ≡ with_gone old puts gone k
gone_none old puts gone k none absent =
    ap (with_found gone k) absent ∙ ap (λ b. cond b gone (with_found gone k (value_at old k))) none

pub gone_some : (old puts gone next : Map) (k v : List ℕ) → false ≡ is_some (value_at puts k) → Some v ≡ value_at old k
    → next ≡ with_entry gone k v → next ≡ with_gone old puts gone k
gone_some old puts gone next k v none there is =
    is ∙ (ap (with_found gone k) there ∙ ap (λ b. cond b gone (with_found gone k (value_at old k))) none)

-- ---- keys that are near
pub kept_some : (old gone near next : Map) (k v : List ℕ) → false ≡ is_some (value_at gone k)
    → false ≡ is_some (value_at near k)
    → value_at old k ≡ Some v → next ≡ with_entry near k v → next ≡ with_kept old gone near k
kept_some old gone near next k v none nor there is =
    is ∙ (ap (with_found near k) (sym there)
    ∙ (ap (λ b. cond b near (with_found near k (value_at old k))) nor
    ∙ ap (λ b. cond (b || is_some (value_at near k)) near (with_found near k (value_at old k))) none))

-- ---- words are passed
pub gone_passed : {W : Type 0}
    (says : W → Word) (old puts : Map) (items : List W) (at : ℕ) (word : W) (before after whole : Map)
    → at < length items → word ≡ get_or items at word → after ≡ with_gone old puts before (key_of (says word))
    → gone_after old puts before (map says (drop at items)) ≡ whole
    → gone_after old puts after (map says (drop (at + 1) items)) ≡ whole
gone_passed says old puts items at word before after whole within is does here =
    ap (λ g. gone_after old puts g (map says (drop (at + 1) items))) does
    ∙ (ap (λ w. gone_after old puts before (map says (w ∷ drop (at + 1) items))) is
    ∙ (sym (at_drop_more (λ ws. gone_after old puts before (map says ws)) items at word within) ∙ here))

pub gone_ended : {W : Type 0} (says : W → Word) (old puts : Map) (items : List W) (at : ℕ) (after whole : Map)
    → length items ≤ at → gone_after old puts after (map says (drop at items)) ≡ whole → after ≡ whole
gone_ended says old puts items at after whole past here =
    sym (at_drop_all (λ ws. gone_after old puts after (map says ws)) items at past) ∙ here

pub near_passed : {W : Type 0}
    (says : W → Word) (old gone : Map) (items : List W) (at : ℕ) (word : W) (before after whole : Map)
    → at < length items → word ≡ get_or items at word
    → after ≡ with_kept old gone before (prev_key old (key_of (says word)))
    → near_after old gone before (map says (drop at items)) ≡ whole
    → near_after old gone after (map says (drop (at + 1) items)) ≡ whole
near_passed says old gone items at word before after whole within is does here =
    ap (λ n. near_after old gone n (map says (drop (at + 1) items))) does
    ∙ (ap (λ w. near_after old gone before (map says (w ∷ drop (at + 1) items))) is
    ∙ (sym (at_drop_more (λ ws. near_after old gone before (map says ws)) items at word within) ∙ here))

pub near_ended : {W : Type 0} (says : W → Word) (old gone : Map) (items : List W) (at : ℕ) (after whole : Map)
    → length items ≤ at → near_after old gone after (map says (drop at items)) ≡ whole → after ≡ whole
near_ended says old gone items at after whole past here =
    sym (at_drop_all (λ ws. near_after old gone after (map says ws)) items at past) ∙ here

-- ---- a delete for each key that goes
pub goes_passed : {K X : Type 0} (key : K → List ℕ)
    (value : X → List ℕ) (before after all : List Operation) (k l : K) (x : X)
    (left rest : List (K × X)) → after ≡ before ++ delete (key l) ∷ [] → key l ≡ key k → left ≡ (k, x) ∷ rest
    → before ++ map (λ e. delete e.0) (state_of key value left) ≡ all
    → after ++ map (λ e. delete e.0) (state_of key value rest) ≡ all
goes_passed key value before after all k l x left rest pushed copied steps here =
    let behind : List Operation = map (λ e. delete e.0) (state_of key value rest) in
    ap (λ m. m ++ behind) pushed
    ∙ (append_assoc before (delete (key l) ∷ []) behind
    ∙ (ap (λ q. before ++ delete q ∷ behind) copied
    ∙ (ap (λ es. before ++ map (λ e. delete e.0) (state_of key value es)) (sym steps) ∙ here)))

-- ---- an update for each key that is near
first_part : (a b : Bool) → T (a && b) → T a
first_part true b p = tt
first_part false b p = p

-- neighbours ascend
pub neighbours : (passed : Map) (e f : List ℕ × List ℕ) (rest near : Map) → passed ++ e ∷ f ∷ rest ≡ near → IsState near
    → IsBelow e.0 f.0
neighbours passed e f rest near is h = of passed (subst IsState (sym is) h)
  where
    of : (passed : Map) → IsState (passed ++ e ∷ f ∷ rest) → IsBelow e.0 f.0
    of [] h = first_part _ _ (first_part _ _ h)
    of (d ∷ passed) h = of passed (IsState-tail d (passed ++ e ∷ f ∷ rest) h)

pub less_of : (o p : Ordering) → o ≡ p → T (is_lt p) → o ≡ Less
less_of o Less is t = is
less_of o Equal is t = absurd t
less_of o Greater is t = absurd t

-- one entry more is passed, whose next key is told by the one behind it
pub near_updated : (old gone near new passed : Map)
    (e f : List ℕ × List ℕ) (rest : Map) (before after said : List Operation)
    (next : List ℕ) → IsTold old gone near new → passed ++ e ∷ f ∷ rest ≡ near → next ≡ next_near old gone e.0 f.0
    → after ≡ before ++ update_to old e.0 e.1 next
    → before ++ updates (e ∷ f ∷ rest) old new ≡ said → after ++ updates (f ∷ rest) old new ≡ said
near_updated old gone near new passed e f rest before after said next told is tells does whole =
    let real : next_key new e.0 ≡ next =
    next_told old gone near new told passed e f rest is (neighbours passed e f rest near is told.near_is) ∙ sym tells in
    ap (λ l. l ++ updates (f ∷ rest) old new) does
    ∙ (append_assoc before (update_to old e.0 e.1 next) (updates (f ∷ rest) old new)
    ∙ (ap (λ n. before ++ (update_to old e.0 e.1 n ++ updates (f ∷ rest) old new)) (sym real) ∙ whole))

-- the last one is passed, whose next key is told by the first one
pub last_updated : (old gone near new passed : Map) (e : List ℕ × List ℕ) (before after said : List Operation)
    (next least : List ℕ) → IsTold old gone near new → passed ++ e ∷ [] ≡ near → least ≡ first_key near
    → next ≡ next_round old gone e.0 least → after ≡ before ++ update_to old e.0 e.1 next
    → before ++ updates (e ∷ []) old new ≡ said → after ≡ said
last_updated old gone near new passed e before after said next least told is first tells does whole =
    let real : next_key new e.0 ≡ next =
    next_round_told old gone near new told passed e is ∙ (ap (next_round old gone e.0) (sym first) ∙ sym tells) in
    does ∙ (ap (λ n. before ++ update_to old e.0 e.1 n) (sym real)
    ∙ (ap (λ l. before ++ l) (sym (append-nil (update_to old e.0 e.1 (next_key new e.0)))) ∙ whole))

-- ---- a whole batch
pub near_joined : (words : List Word) (old puts gone near state : Map) (first second third : List Operation)
    → IsState old
    → old ≡ state → puts ≡ map_after words [] → gone ≡ gone_after old puts [] words
    → near ≡ near_after old gone puts words
    → first ≡ [] → second ≡ first ++ map (λ e. delete e.0) gone
    → ((new : Map) → IsTold old gone near new → third ≡ second ++ updates near old new)
    → third ≡ batch_operations state (map_after words state)
near_joined words old puts gone near state first second third h same is_puts is_gone is_near none one other =
    let new : Map = map_after words old in
    let base : List Word → Map = λ ws. map_after ws [] in
    let lost : Map = gone_after old (base words) [] words in
    let is_lost : gone ≡ lost = is_gone ∙ ap (λ p. gone_after old p [] words) is_puts in
    let is_some_near : near ≡ near_after old lost (base words) words =
    is_near ∙ (ap (λ g. near_after old g puts words) is_lost ∙ ap (λ p. near_after old lost p words) is_puts) in
    let told : IsTold old gone near new =
    subst (λ g. IsTold old g near new) (sym is_lost)
    (subst (λ n. IsTold old lost n new) (sym is_some_near) (near_told words old h)) in
    other new told
    ∙ (ap (λ l. l ++ updates near old new) (one ∙ ap (λ l. l ++ map (λ e. delete e.0) gone) none)
    ∙ (ap (λ g. map (λ e. delete e.0) g ++ updates near old new) is_lost
    ∙ (ap (λ n. map (λ e. delete e.0) lost ++ updates n old new) is_some_near
    ∙ (sym (near_tell words old h)
    ∙ ap (λ s. batch_operations s (map_after words s)) same))))
