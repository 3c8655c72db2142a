-- What a batch leaves as it is, and the bits of its operations.
use Rattle.std.proofs.Common.{◌≡◌, ℕ, Bool, true, false, cond, not, ◌&&◌, List, [], ◌∷◌, ◌++◌, Option, None, Some, refl}
use Rattle.std.proofs.Common.{ap, sym, ◌∙◌, ⊎_elim, append_assoc}
use Rattle.std.specs.Prelude.{◌||◌, is_some, map, filter}
use Rattle.std.specs.Str.{bytes_eq}
use Rattle.std.specs.List.{list_any}
use Rattle.std.proofs.lemmas.Bool.{cases_Bool}
use Rattle.std.proofs.lemmas.List.Folds.{list_any-append}
use Rattle.std.proofs.lemmas.Map.Text.{is_eq-slice_cmp}
use Rattle.state_ops.specs.Operation.{Operation, delete, update, ordered, commit_floor}
use Rattle.auth_store_parts.specs.Map.{Map, with_entry, without_key, value_at, next_key}
use Rattle.auth_store_parts.specs.Batch as batch
use Rattle.auth_store_parts.specs.Batch.{Word, map_after}
use Rattle.auth_store_parts.specs.History.{IsState, is_value, is_kept, has_key, deletes, updates, batch_operations}
use Rattle.auth_store_parts.specs.History.{activity_bits}
use Rattle.auth_store_parts.specs.Laws.Lookups.{same, same_self, none_later, IsState-tail, IsState-with_entry}
use Rattle.auth_store_parts.specs.Laws.Lookups.{IsState-without_key, value_at-with_entry, value_at-without_key}
use Rattle.auth_store_parts.specs.Laws.Logs.{passed_by}
use Rattle.auth_store_parts.specs.Laws.Below.{value_at_head, value_at_behind}
use Rattle.auth_store_parts.specs.Laws.Logs.{IsState-map_after}
use Rattle.auth_store_index.specs.Touched.{names, is_no_delete, is_touched}
use Rattle.auth_store_index.specs.Laws.Nexts.{next_stays}

neither : (a b : Bool) → (a || b) ≡ false → (a ≡ false) × (b ≡ false)
neither true b h = absurd (cc)
neither false b h = (refl, h)

-- a key that no word names stays as it is
pub unnamed : (words : List Word) (s : Map) (q : List ℕ) → IsState s → list_any (names q) words ≡ false
    → value_at (map_after words s) q ≡ value_at s q
unnamed [] s q is none = refl
unnamed (batch.put k v ∷ words) s q is none =
    let parts = neither (same q k) (list_any (names q) words) none in
    unnamed words (with_entry s k v) q (IsState-with_entry s k v is) parts.1
    ∙ (value_at-with_entry s k v q ∙ ap (λ b. cond b (Some v) (value_at s q)) parts.0)
unnamed (batch.delete k ∷ words) s q is none =
    let parts = neither (same q k) (list_any (names q) words) none in
    unnamed words (without_key s k) q (IsState-without_key s k is) parts.1
    ∙ (value_at-without_key s k q is ∙ ap (λ b. cond b None (value_at s q)) parts.0)

same_bytes : (x y : List ℕ) → x ≡ y → bytes_eq x y ≡ true
same_bytes x y is = ap (bytes_eq x) (sym is) ∙ (sym (is_eq-slice_cmp x x) ∙ same_self x)

-- a key that has the value and the next key that it had is kept
pub as_before : (old new : Map) (q v : List ℕ) → value_at old q ≡ Some v → next_key old q ≡ next_key new q
    → is_kept old new q v ≡ true
as_before old new q v at next =
    ap (λ o. is_value o v && bytes_eq (next_key old q) (next_key new q)) at
    ∙ (ap (λ b. b && bytes_eq (next_key old q) (next_key new q)) (same_bytes v v refl)
    ∙ same_bytes (next_key old q) (next_key new q) next)

-- and so is one that no word names, where its next key stays
pub unnamed_kept : (words : List Word) (s : Map) (q v : List ℕ) → IsState s → list_any (names q) words ≡ false
    → value_at (map_after words s) q ≡ Some v → next_key s q ≡ next_key (map_after words s) q
    → is_kept s (map_after words s) q v ≡ true
unnamed_kept words s q v is none at next =
    as_before s (map_after words s) q v (sym (unnamed words s q is none) ∙ at) next

-- updates of some entries are all, where the others are kept
pub updates_where : (test : List ℕ → Bool) (es old new : Map) → IsState es
    → ((q v : List ℕ) → value_at es q ≡ Some v → test q ≡ false → is_kept old new q v ≡ true)
    → updates (filter (λ e. test e.0) es) old new ≡ updates es old new
updates_where test [] old new is kept = refl
updates_where test (e ∷ es) old new is kept =
    let rest : updates (filter (λ x. test x.0) es) old new ≡ updates es old new =
    updates_where test es old new (IsState-tail e es is) (λ q v at. kept q v (value_at_behind e es q v is at)) in
    let own : List Operation = cond (is_kept old new e.0 e.1) [] (update (ordered e.0 e.1 (next_key new e.0)) ∷ []) in
    ⊎_elim
    (λ yes. ap (λ b. updates (cond b (e ∷ filter (λ x. test x.0) es) (filter (λ x. test x.0) es)) old new) yes
    ∙ ap (λ r. own ++ r) rest)
    (λ no. ap (λ b. updates (cond b (e ∷ filter (λ x. test x.0) es) (filter (λ x. test x.0) es)) old new) no
    ∙ (rest ∙ ap (λ b. cond b [] (update (ordered e.0 e.1 (next_key new e.0)) ∷ []) ++ updates es old new)
    (sym (kept e.0 e.1 (value_at_head e es) no))))
    (cases_Bool (test e.0))

-- deletes for some entries are all, where the others stay
pub deletes_where : (test : List ℕ → Bool) (es new : Map) → IsState es
    → ((q v : List ℕ) → value_at es q ≡ Some v → test q ≡ false → is_some (value_at new q) ≡ true)
    → deletes (filter (λ e. test e.0) es) new ≡ deletes es new
deletes_where test [] new is kept = refl
deletes_where test (e ∷ es) new is kept =
    let rest : deletes (filter (λ x. test x.0) es) new ≡ deletes es new =
    deletes_where test es new (IsState-tail e es is) (λ q v at. kept q v (value_at_behind e es q v is at)) in
    let own : List Operation = cond (is_some (value_at new e.0)) [] (delete e.0 ∷ []) in
    ⊎_elim
    (λ yes. ap (λ b. deletes (cond b (e ∷ filter (λ x. test x.0) es) (filter (λ x. test x.0) es)) new) yes
    ∙ ap (λ r. own ++ r) rest)
    (λ no. ap (λ b. deletes (cond b (e ∷ filter (λ x. test x.0) es) (filter (λ x. test x.0) es)) new) no
    ∙ (rest ∙ ap (λ b. cond b [] (delete e.0 ∷ []) ++ deletes es new) (sym (kept e.0 e.1 (value_at_head e es) no))))
    (cases_Bool (test e.0))

-- a key that the entries lack isn't updated
updates_none : (q : List ℕ) (es old new : Map) → value_at es q ≡ None
    → list_any (has_key q) (updates es old new) ≡ false
updates_none q [] old new none = refl
updates_none q (e ∷ es) old new none =
    let away = passed_by (same q e.0) e.1 (value_at es q) none in
    elim (is_kept old new e.0 e.1) as (λ b. list_any (has_key q)
    (cond b [] (update (ordered e.0 e.1 (next_key new e.0)) ∷ []) ++ updates es old new) ≡ false) [
      | true ↦ updates_none q es old new away.1
      | false ↦ ap (λ b. b || list_any (has_key q) (updates es old new)) away.0 ∙ updates_none q es old new away.1
    ]

updates_bits : (es old new : Map) (m : Option (List ℕ)) (f : ℕ) → IsState es
    → activity_bits (updates es old new ++ commit_floor m f ∷ [])
    ≡ map is_no_delete (updates es old new ++ commit_floor m f ∷ [])
updates_bits [] old new m f is = refl
updates_bits (e ∷ es) old new m f is =
    let rest : activity_bits (updates es old new ++ commit_floor m f ∷ [])
    ≡ map is_no_delete (updates es old new ++ commit_floor m f
    ∷ []) = updates_bits es old new m f (IsState-tail e es is) in
    let last : not (list_any (has_key e.0) (updates es old new ++ commit_floor m f ∷ [])) ≡ true =
    ap not (list_any-append (has_key e.0) (updates es old new) (commit_floor m f ∷ [])
    ∙ ap (λ b. b || (false || false)) (updates_none e.0 es old new (none_later e es is))) in
    elim (is_kept old new e.0 e.1) as (λ b. activity_bits
    ((cond b [] (update (ordered e.0 e.1 (next_key new e.0)) ∷ []) ++ updates es old new) ++ commit_floor m f ∷ [])
    ≡ map is_no_delete
    ((cond b [] (update (ordered e.0 e.1 (next_key new e.0)) ∷ []) ++ updates es old new) ++ commit_floor m f ∷ [])) [
      | true ↦ rest
      | false ↦ ap (λ b. b ∷ activity_bits (updates es old new ++ commit_floor m f ∷ [])) last
          ∙ ap (λ r. true ∷ r) rest
    ]

deletes_bits : (es new : Map) (behind : List Operation) → activity_bits behind ≡ map is_no_delete behind
    → activity_bits (deletes es new ++ behind) ≡ map is_no_delete (deletes es new ++ behind)
deletes_bits [] new behind is = is
deletes_bits (e ∷ es) new behind is =
    elim (is_some (value_at new e.0)) as (λ b. activity_bits ((cond b [] (delete e.0 ∷ []) ++ deletes es new) ++ behind)
    ≡ map is_no_delete ((cond b [] (delete e.0 ∷ []) ++ deletes es new) ++ behind)) [
      | true ↦ deletes_bits es new behind is
      | false ↦ ap (λ r. false ∷ r) (deletes_bits es new behind is)
    ]

-- of a batch with its commit all count but the deletes
pub batch_bits : (old new : Map) (m : Option (List ℕ)) (f : ℕ) → IsState new
    → activity_bits (batch_operations old new ++ commit_floor m f ∷ []) ≡ map is_no_delete (batch_operations old new
    ++ commit_floor m f ∷ [])
batch_bits old new m f is =
    let whole = append_assoc (deletes old new) (updates new old new) (commit_floor m f ∷ []) in
    ap activity_bits whole
    ∙ (deletes_bits old new (updates new old new ++ commit_floor m f ∷ []) (updates_bits new old new m f is)
    ∙ ap (map is_no_delete) (sym whole))

untouched : (a b c : Bool) → (a || (not b || not c)) ≡ false → (a ≡ false) × ((b ≡ true) × (c ≡ true))
untouched true b c h = absurd (cc)
untouched false true true h = (refl, (refl, refl))
untouched false true false h = absurd (cc)
untouched false false c h = absurd (cc)

-- the keys that a batch touches tell its operations
pub touched_tell : (words : List Word) (old : Map) → IsState old
    → let new : Map = map_after words old in
    batch_operations old new ≡ deletes (filter (λ e. list_any (names e.0) words) old) new
    ++ updates (filter (λ e. is_touched words old new e.0) new) old new
touched_tell words old is =
    let new : Map = map_after words old in
    let is_new : IsState new = IsState-map_after words old is in
    let gone : deletes (filter (λ e. list_any (names e.0) words) old) new ≡ deletes old new =
    deletes_where (λ q. list_any (names q) words) old new is
    (λ q v at none. ap is_some (unnamed words old q is none ∙ at)) in
    let come : updates (filter (λ e. is_touched words old new e.0) new) old new ≡ updates new old new =
    updates_where (is_touched words old new) new old new is_new
    (λ q v at none. let parts = untouched (list_any (names q) words) (is_some (value_at new (next_key old q)))
    (is_some (value_at old (next_key new q))) none in
    unnamed_kept words old q v is parts.0 at (next_stays old new q is is_new parts.1.0 parts.1.1)) in
    sym (ap (λ l. l ++ updates (filter (λ e. is_touched words old new e.0) new) old new) gone
    ∙ ap (λ l. deletes old new ++ l) come)
