-- What the operations of a batch leave out.
use Rattle.std.proofs.Common.{◌≡◌, ℕ, Bool, true, false, cond, ◌+◌, List, [], ◌∷◌}
use Rattle.std.proofs.Common.{◌++◌, length, Option, None, Some, refl, ap, sym, ◌∙◌, ⊎_elim, arith}
use Rattle.std.specs.Prelude.{is_some, unwrap_or, ◌||◌}
use Rattle.std.specs.List.{filter, list_any}
use Rattle.std.proofs.lemmas.List.{length-append}
use Rattle.std.proofs.lemmas.List.Elements.{filter-append}
use Rattle.std.proofs.lemmas.Bool.{cases_Bool}
use Rattle.state_ops.specs.Operation.{Operation, commit_floor, delete, update, ordered}
use Rattle.auth_store_parts.specs.Map.{Map, value_at, next_key}
use Rattle.auth_store_parts.specs.History.{History, log_of, latest_map, inactivity_floor, has_key, is_commit, is_kept}
use Rattle.auth_store_parts.specs.History.{deletes, updates, batch_operations, IsState}
use Rattle.auth_store_parts.specs.Laws.Lookups.{same, exact, none_later, IsState-tail}
use Rattle.auth_store_parts.specs.Laws.Logs.{differ, true_false, passed_by}

any-append : (f : Operation → Bool) (xs ys : List Operation) → list_any f xs ≡ false → list_any f ys ≡ false
    → list_any f (xs ++ ys) ≡ false
any-append f [] ys left right = right
any-append f (x ∷ xs) ys left right = none_of (f x) (list_any f xs) (list_any f (xs ++ ys)) left
    (any-append f xs ys (tail_of (f x) (list_any f xs) left) right)
  where
    tail_of : (a b : Bool) → (a || b) ≡ false → b ≡ false
    tail_of true b h = absurd (cc)
    tail_of false b h = h

    none_of : (a b c : Bool) → (a || b) ≡ false → c ≡ false → (a || c) ≡ false
    none_of true b c h e = absurd (cc)
    none_of false b c h e = e

deletes_no_commit : (es new : Map) → list_any is_commit (deletes es new) ≡ false
deletes_no_commit [] new = refl
deletes_no_commit (e ∷ es) new = elim (is_some (value_at new e.0)) as
    (λ b. list_any is_commit (cond b [] (delete e.0 ∷ []) ++ deletes es new) ≡ false) [
      | true ↦ deletes_no_commit es new
      | false ↦ deletes_no_commit es new
    ]

updates_no_commit : (es old new : Map) → list_any is_commit (updates es old new) ≡ false
updates_no_commit [] old new = refl
updates_no_commit (e ∷ es) old new = elim (is_kept old new e.0 e.1) as
    (λ b. list_any is_commit (cond b [] (update (ordered e.0 e.1 (next_key new e.0)) ∷ []) ++ updates es old new) ≡ false) [
      | true ↦ updates_no_commit es old new
      | false ↦ updates_no_commit es old new
    ]

pub no_commit : (old new : Map) → list_any is_commit (batch_operations old new) ≡ false
no_commit old new = any-append is_commit (deletes old new) (updates new old new) (deletes_no_commit old new)
    (updates_no_commit new old new)

-- where none passes, none is kept
none_kept : (operations : List Operation) → list_any is_commit operations ≡ false → filter is_commit operations ≡ []
none_kept [] none = refl
none_kept (operation ∷ operations) none = drop (is_commit operation) (list_any is_commit operations) none
    (none_kept operations)
  where
    drop : (is any : Bool) → (is || any) ≡ false → (any ≡ false → filter is_commit operations ≡ [])
        → cond is (operation ∷ filter is_commit operations) (filter is_commit operations) ≡ []
    drop true any none later = absurd (cc)
    drop false any none later = later none

-- a log has a commit for each of its history and the one that it begins with
pub commits_counted : (history : History) → length (filter is_commit (log_of history)) ≡ length history + 1
commits_counted [] = refl
commits_counted (commit ∷ history) =
    let before : List Operation = log_of history in
    let operations : List Operation = batch_operations (latest_map history) commit.map in
    let last : List Operation = commit_floor commit.metadata (inactivity_floor (before ++ operations)) ∷ [] in
    let whole : filter is_commit (before ++ (operations ++ last)) ≡ filter is_commit before
    ++ (filter is_commit operations ++ last) =
    filter-append is_commit before (operations ++ last)
    ∙ ap (λ kept. filter is_commit before ++ kept) (filter-append is_commit operations last) in
    let none : filter is_commit operations ≡ [] = none_kept operations (no_commit (latest_map history) commit.map) in
    let long : length (filter is_commit before ++ last) ≡ length (filter is_commit before) + 1 = length-append
    (filter is_commit before) last in
    ap length (whole ∙ ap (λ kept. filter is_commit before ++ (kept ++ last)) none)
    ∙ (long ∙ omega (arith, commits_counted history))

-- a key of the new state isn't deleted
deletes_not : (q : List ℕ) (es new : Map) → is_some (value_at new q) ≡ true
    → list_any (has_key q) (deletes es new) ≡ false
deletes_not q [] new has = refl
deletes_not q (e ∷ es) new has =
    ⊎_elim
    (λ t. ap (λ b. list_any (has_key q) (cond b [] (delete e.0 ∷ []) ++ deletes es new)) t ∙ deletes_not q es new has)
    (λ f. ap (λ b. list_any (has_key q) (cond b [] (delete e.0 ∷ []) ++ deletes es new)) f
    ∙ (ap (λ b. b || list_any (has_key q) (deletes es new)) (differ (λ x. is_some (value_at new x)) q e.0 true false has
    f true_false) ∙ deletes_not q es new has))
    (cases_Bool (is_some (value_at new e.0)))

-- nor one that the old state lacks
deletes_none : (q : List ℕ) (es new : Map) → value_at es q ≡ None → list_any (has_key q) (deletes es new) ≡ false
deletes_none q [] new none = refl
deletes_none q (e ∷ es) new none =
    let away = passed_by (same q e.0) e.1 (value_at es q) none in
    elim (is_some (value_at new e.0)) as (λ b. list_any (has_key q) (cond b [] (delete e.0 ∷ []) ++ deletes es new) ≡
    false) [
      | true ↦ deletes_none q es new away.1
      | false ↦ ap (λ b. b || list_any (has_key q) (deletes es new)) away.0 ∙ deletes_none q es new away.1
    ]

-- a key that the new state lacks isn't updated
updates_none : (q : List ℕ) (es old new : Map) → value_at es q ≡ None
    → list_any (has_key q) (updates es old new) ≡ false
updates_none q [] old new none = refl
updates_none q (e ∷ es) old new none =
    let away = passed_by (same q e.0) e.1 (value_at es q) none in
    elim (is_kept old new e.0 e.1) as (λ b. list_any (has_key q)
    (cond b [] (update (ordered e.0 e.1 (next_key new e.0)) ∷ []) ++ updates es old new) ≡ false) [
      | true ↦ updates_none q es old new away.1
      | false ↦ ap (λ b. b || list_any (has_key q) (updates es old new)) away.0 ∙ updates_none q es old new away.1
    ]

-- nor one that is kept
updates_not : (q v : List ℕ) (es old new : Map) → IsState es → value_at es q ≡ Some v → is_kept old new q v ≡ true
    → list_any (has_key q) (updates es old new) ≡ false
updates_not q v [] old new h at kept = absurd (cc)
updates_not q v (e ∷ es) old new h at kept =
    ⊎_elim
    (λ here.
    let is : q ≡ e.0 = exact q e.0 here in
    let value : Some e.1 ≡ Some v = sym (ap (λ b. cond b (Some e.1) (value_at es q)) here) ∙ at in
    let own : e.1 ≡ v = ap (λ (o : Option (List ℕ)). unwrap_or o v) value in
    let stays : is_kept old new e.0 e.1 ≡ true = ap (λ k. is_kept old new k e.1) (sym is)
    ∙ (ap (is_kept old new q) own ∙ kept) in
    ap (λ b. list_any (has_key q) (cond b [] (update (ordered e.0 e.1 (next_key new e.0)) ∷ []) ++ updates es old new)) stays
    ∙ updates_none q es old new (ap (value_at es) is ∙ none_later e es h))
    (λ (away : same q e.0 ≡ false).
    let rest : value_at es q ≡ Some v = sym (ap (λ b. cond b (Some e.1) (value_at es q)) away) ∙ at in
    elim (is_kept old new e.0 e.1) as (λ b. list_any (has_key q)
    (cond b [] (update (ordered e.0 e.1 (next_key new e.0)) ∷ []) ++ updates es old new) ≡ false) [
      | true ↦ updates_not q v es old new (IsState-tail e es h) rest kept
      | false ↦ ap (λ b. b || list_any (has_key q) (updates es old new)) away
          ∙ updates_not q v es old new (IsState-tail e es h) rest kept
    ])
    (cases_Bool (same q e.0))

pub kept_untouched : (old new : Map) (q v : List ℕ) → IsState new → value_at new q ≡ Some v → is_kept old new q v ≡ true
    → list_any (has_key q) (batch_operations old new) ≡ false
kept_untouched old new q v h at kept =
    any-append (has_key q) (deletes old new) (updates new old new) (deletes_not q old new (ap is_some at))
    (updates_not q v new old new h at kept)

pub absent_untouched : (old new : Map) (q : List ℕ) → value_at old q ≡ None → value_at new q ≡ None
    → list_any (has_key q) (batch_operations old new) ≡ false
absent_untouched old new q before after =
    any-append (has_key q) (deletes old new) (updates new old new) (deletes_none q old new before)
    (updates_none q new old new after)
