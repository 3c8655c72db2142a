-- Places that follow a batch in two steps are those that follow its operations one by one, and can be taken back.
use Rattle.std.proofs.Common.{◌≡◌, ℕ, ◌+◌, Bool, true, false, cond, List, [], ◌∷◌, ◌++◌, Option, None, Some, refl, ap}
use Rattle.std.proofs.Common.{sym, subst, ◌∙◌, ◌⊎◌, inl, inr}
use Rattle.std.specs.Prelude.{◌||◌, IsSome, is_some}
use Rattle.std.specs.List.{list_any}
use Rattle.std.specs.FinMap.Entries.{same_entries}
use Rattle.std.proofs.lemmas.Bool.{cases_Bool}
use Rattle.std.proofs.lemmas.Cmp.{nat_list_cmp_total}
use Rattle.std.proofs.lemmas.Map.Lookups.{exact_bytes}
use Rattle.std.proofs.lemmas.List.Folds.{list_any-append}
use Rattle.state_ops.specs.Operation.{Operation, delete, update, ordered, commit_floor}
use Rattle.auth_store_parts.specs.Map.{Map, key_order, value_at, with_entry, without_key, next_key}
use Rattle.auth_store_parts.specs.History.{IsState, is_kept, deletes, updates, batch_operations}
use Rattle.auth_store_parts.specs.Places.{placed}
use Rattle.auth_store_parts.specs.Staged.{updated, without_deleted, is_delete_of, is_update_of, AreApart, Earlier}
use Rattle.auth_store_parts.specs.Staged.{put_back, taken_back, CanTakeBack, AreEarlier}
use Rattle.auth_store_parts.specs.Laws.Lookups.{same, exact, same_self, IsState-with_entry, IsState-without_key}
use Rattle.auth_store_parts.specs.Laws.Lookups.{value_at-with_entry, value_at-without_key, value_at-find}
use Rattle.auth_store_parts.specs.Laws.Logs.{passed_by}

-- states that have the same at each key are one
pub one_state : (s t : Map) → IsState s → IsState t → ((q : List ℕ) → value_at s q ≡ value_at t q) → s ≡ t
one_state s t is_s is_t alike =
    same_entries key_order nat_list_cmp_total exact_bytes s t is_s is_t
    (λ q. sym (value_at-find q s) ∙ (alike q ∙ value_at-find q t))

abbrev Place : Type 0
Place = Option (List ℕ)

-- what operations leave at a key, the first of which stands at `start`: all of them, and the updates alone
abbrev said : List ℕ → ℕ → Place → List Operation → Place
said q start found [] = found
said q start found (delete k ∷ later) = said q (start + 1) (cond (same q k) None found) later
said q start found (update (ordered k v n) ∷ later) =
    said q (start + 1) (cond (same q k) (Some (start ∷ [])) found) later
said q start found (commit_floor m f ∷ later) = said q (start + 1) found later

abbrev given : List ℕ → ℕ → Place → List Operation → Place
given q start found [] = found
given q start found (delete k ∷ later) = given q (start + 1) found later
given q start found (update (ordered k v n) ∷ later) =
    given q (start + 1) (cond (same q k) (Some (start ∷ [])) found) later
given q start found (commit_floor m f ∷ later) = given q (start + 1) found later

-- a list of places that is a state stays one
pub IsState-placed : (start : ℕ) (places : Map) (operations : List Operation) → IsState places
    → IsState (placed start places operations)
IsState-placed start places [] is = is
IsState-placed start places (delete k ∷ later) is =
    IsState-placed (start + 1) (without_key places k) later (IsState-without_key places k is)
IsState-placed start places (update (ordered k v n) ∷ later) is =
    IsState-placed (start + 1) (with_entry places k (start ∷ [])) later (IsState-with_entry places k (start ∷ []) is)
IsState-placed start places (commit_floor m f ∷ later) is = IsState-placed (start + 1) places later is

pub IsState-updated : (start : ℕ) (places : Map) (operations : List Operation) → IsState places
    → IsState (updated start places operations)
IsState-updated start places [] is = is
IsState-updated start places (delete k ∷ later) is = IsState-updated (start + 1) places later is
IsState-updated start places (update (ordered k v n) ∷ later) is =
    IsState-updated (start + 1) (with_entry places k (start ∷ [])) later (IsState-with_entry places k (start ∷ []) is)
IsState-updated start places (commit_floor m f ∷ later) is = IsState-updated (start + 1) places later is

pub IsState-without_deleted : (places : Map) (operations : List Operation) → IsState places
    → IsState (without_deleted places operations)
IsState-without_deleted places [] is = is
IsState-without_deleted places (delete k ∷ later) is =
    IsState-without_deleted (without_key places k) later (IsState-without_key places k is)
IsState-without_deleted places (update (ordered k v n) ∷ later) is = IsState-without_deleted places later is
IsState-without_deleted places (commit_floor m f ∷ later) is = IsState-without_deleted places later is

value_at-placed : (q : List ℕ) (start : ℕ) (places : Map) (operations : List Operation) → IsState places
    → value_at (placed start places operations) q ≡ said q start (value_at places q) operations
value_at-placed q start places [] is = refl
value_at-placed q start places (delete k ∷ later) is =
    value_at-placed q (start + 1) (without_key places k) later (IsState-without_key places k is)
    ∙ ap (λ found. said q (start + 1) found later) (value_at-without_key places k q is)
value_at-placed q start places (update (ordered k v n) ∷ later) is =
    value_at-placed q (start + 1) (with_entry places k (start ∷ [])) later (IsState-with_entry places k (start ∷ []) is)
    ∙ ap (λ found. said q (start + 1) found later) (value_at-with_entry places k (start ∷ []) q)
value_at-placed q start places (commit_floor m f ∷ later) is = value_at-placed q (start + 1) places later is

value_at-updated : (q : List ℕ) (start : ℕ) (places : Map) (operations : List Operation)
    → value_at (updated start places operations) q ≡ given q start (value_at places q) operations
value_at-updated q start places [] = refl
value_at-updated q start places (delete k ∷ later) = value_at-updated q (start + 1) places later
value_at-updated q start places (update (ordered k v n) ∷ later) =
    value_at-updated q (start + 1) (with_entry places k (start ∷ [])) later
    ∙ ap (λ found. given q (start + 1) found later) (value_at-with_entry places k (start ∷ []) q)
value_at-updated q start places (commit_floor m f ∷ later) = value_at-updated q (start + 1) places later

dropped : (s any : Bool) (found : Place) → cond any None (cond s None found) ≡ cond (s || any) None found
dropped true true found = refl
dropped true false found = refl
dropped false any found = refl

value_at-without_deleted : (q : List ℕ) (places : Map) (operations : List Operation) → IsState places
    → value_at (without_deleted places operations) q
    ≡ cond (list_any (is_delete_of q) operations) None (value_at places q)
value_at-without_deleted q places [] is = refl
value_at-without_deleted q places (delete k ∷ later) is =
    value_at-without_deleted q (without_key places k) later (IsState-without_key places k is)
    ∙ (ap (cond (list_any (is_delete_of q) later) None) (value_at-without_key places k q is)
    ∙ dropped (same q k) (list_any (is_delete_of q) later) (value_at places q))
value_at-without_deleted q places (update (ordered k v n) ∷ later) is = value_at-without_deleted q places later is
value_at-without_deleted q places (commit_floor m f ∷ later) is = value_at-without_deleted q places later is

neither : (a b : Bool) → (a || b) ≡ false → (a ≡ false) × (b ≡ false)
neither true b h = absurd (cc)
neither false b h = (refl, h)

-- a key that is not updated has nothing once it is deleted, and else what it had
not_updated : (q : List ℕ) (start : ℕ) (found : Place) (operations : List Operation)
    → list_any (is_update_of q) operations ≡ false
    → said q start found operations ≡ cond (list_any (is_delete_of q) operations) None found
not_updated q start found [] none = refl
not_updated q start found (delete k ∷ later) none =
    not_updated q (start + 1) (cond (same q k) None found) later none
    ∙ dropped (same q k) (list_any (is_delete_of q) later) found
not_updated q start found (update (ordered k v n) ∷ later) none =
    let parts = neither (same q k) (list_any (is_update_of q) later) none in
    ap (λ b. said q (start + 1) (cond b (Some (start ∷ [])) found) later) parts.0
    ∙ not_updated q (start + 1) found later parts.1
not_updated q start found (commit_floor m f ∷ later) none = not_updated q (start + 1) found later none

-- of a key that is not deleted the updates say all
not_deleted : (q : List ℕ) (start : ℕ) (found : Place) (operations : List Operation)
    → list_any (is_delete_of q) operations ≡ false → said q start found operations ≡ given q start found operations
not_deleted q start found [] none = refl
not_deleted q start found (delete k ∷ later) none =
    let parts = neither (same q k) (list_any (is_delete_of q) later) none in
    ap (λ b. said q (start + 1) (cond b None found) later) parts.0 ∙ not_deleted q (start + 1) found later parts.1
not_deleted q start found (update (ordered k v n) ∷ later) none =
    not_deleted q (start + 1) (cond (same q k) (Some (start ∷ [])) found) later none
not_deleted q start found (commit_floor m f ∷ later) none = not_deleted q (start + 1) found later none

-- updates first and deletes last lead to what all operations in their order lead to
pub in_two_steps : (start : ℕ) (places : Map) (operations : List Operation) → IsState places → AreApart operations
    → without_deleted (updated start places operations) operations ≡ placed start places operations
in_two_steps start places operations is apart =
    let first : Map = updated start places operations in
    let is_first : IsState first = IsState-updated start places operations is in
    one_state (without_deleted first operations) (placed start places operations)
    (IsState-without_deleted first operations is_first) (IsState-placed start places operations is)
    (λ q. value_at-without_deleted q first operations is_first
    ∙ (ap (cond (list_any (is_delete_of q) operations) None) (value_at-updated q start places operations)
    ∙ (alike q (cases_Bool (list_any (is_delete_of q) operations))
    ∙ sym (value_at-placed q start places operations is))))
  where
    alike : (q : List ℕ)
        → (list_any (is_delete_of q) operations ≡ true) ⊎ (list_any (is_delete_of q) operations ≡ false)
        → cond (list_any (is_delete_of q) operations) None (given q start (value_at places q) operations)
        ≡ said q start (value_at places q) operations
    alike q (inl gone) =
        ap (λ b. cond b None (given q start (value_at places q) operations)) gone
        ∙ sym (not_updated q start (value_at places q) operations (apart q gone)
        ∙ ap (λ b. cond b None (value_at places q)) gone)
    alike q (inr stays) =
        ap (λ b. cond b None (given q start (value_at places q) operations)) stays
        ∙ sym (not_deleted q start (value_at places q) operations stays)

-- the last one is put back first
pub taken_back-last : (places : Map) (earlier : List Earlier) (last : Earlier)
    → taken_back places (earlier ++ last ∷ []) ≡ taken_back (put_back places last) earlier
taken_back-last places [] last = refl
taken_back-last places (one ∷ later) last = ap (λ p. put_back p one) (taken_back-last places later last)

pub CanTakeBack-last : (places : Map) (earlier : List Earlier) (last : Earlier)
    → (IsSome last.1 → IsSome (value_at places last.0)) → CanTakeBack (put_back places last) earlier
    → CanTakeBack places (earlier ++ last ∷ [])
CanTakeBack-last places [] last there can = (tt, there)
CanTakeBack-last places (one ∷ later) last there can = (
  CanTakeBack-last places later last there can.0,
  λ some. subst (λ p. IsSome (value_at p one.0)) (sym (taken_back-last places later last)) (can.1 some),
)

pub CanTakeBack-front : (places : Map) (earlier : List Earlier) (last : Earlier)
    → CanTakeBack places (earlier ++ last ∷ [])
    → (IsSome last.1 → IsSome (value_at places last.0)) × CanTakeBack (put_back places last) earlier
CanTakeBack-front places [] last can = (can.1, tt)
CanTakeBack-front places (one ∷ later) last can =
    let rest = CanTakeBack-front places later last can.0 in
    (rest.0, (rest.1, λ some. subst (λ p. IsSome (value_at p one.0)) (taken_back-last places later last) (can.1 some)))

-- a key that gets another place, and gets back what it had
restored : (a : Bool) (x : List ℕ) (r : Place) → cond a None (cond a (Some x) r) ≡ cond a None r
restored true x r = refl
restored false x r = refl

given_again : (a : Bool) (x y : List ℕ) (r : Place) → cond a (Some y) (cond a (Some x) r) ≡ cond a (Some y) r
given_again true x y r = refl
given_again false x y r = refl

as_it_was : (places : Map) (k q : List ℕ) (had : Place) → value_at places k ≡ had
    → cond (same q k) had (value_at places q) ≡ value_at places q
as_it_was places k q had is =
    elim (same q k) as (λ b. same q k ≡ b → cond b had (value_at places q) ≡ value_at places q) [
      | true ↦ λ at. sym (ap (value_at places) (exact q k at) ∙ is)
      | false ↦ λ _. refl
    ] refl

pub back_again : (places : Map) (k x : List ℕ) (had : Place) → IsState places → value_at places k ≡ had
    → put_back (with_entry places k x) (k, had) ≡ places
back_again places k x None is had =
    let next : Map = with_entry places k x in
    let is_next : IsState next = IsState-with_entry places k x is in
    one_state (without_key next k) places (IsState-without_key next k is_next) is
    (λ q. value_at-without_key next k q is_next ∙ (ap (cond (same q k) None) (value_at-with_entry places k x q)
    ∙ (restored (same q k) x (value_at places q) ∙ as_it_was places k q None had)))
back_again places k x (Some y) is had =
    let next : Map = with_entry places k x in
    let is_next : IsState next = IsState-with_entry places k x is in
    one_state (with_entry next k y) places (IsState-with_entry next k y is_next) is
    (λ q. value_at-with_entry next k y q ∙ (ap (cond (same q k) (Some y)) (value_at-with_entry places k x q)
    ∙ (given_again (same q k) x y (value_at places q) ∙ as_it_was places k q (Some y) had)))

-- a key that has nothing is put back as such
pub nothing_again : (places : Map) (k : List ℕ) → IsState places → value_at places k ≡ None
    → without_key places k ≡ places
nothing_again places k is none =
    one_state (without_key places k) places (IsState-without_key places k is) is
    (λ q. value_at-without_key places k q is ∙ as_it_was places k q None none)

there_after : (places : Map) (k x : List ℕ) → IsSome (value_at (with_entry places k x) k)
there_after places k x =
    subst IsSome (sym (value_at-with_entry places k x k ∙ ap (λ b. cond b (Some x) (value_at places k)) (same_self k)))
    refl

-- one more that is remembered leads back as well, where the key got another place
pub earlier_given : (first places : Map) (earlier : List Earlier) (k x : List ℕ) (had : Place) → IsState places
    → value_at places k ≡ had → AreEarlier first places earlier
    → AreEarlier first (with_entry places k x) (earlier ++ (k, had) ∷ [])
earlier_given first places earlier k x had is at are =
    let back : put_back (with_entry places k x) (k, had) ≡ places = back_again places k x had is at in
    record {
      back = taken_back-last (with_entry places k x) earlier (k, had)
          ∙ (ap (λ p. taken_back p earlier) back ∙ are.back);
      can = CanTakeBack-last (with_entry places k x) earlier (k, had) (λ _. there_after places k x)
          (subst (λ p. CanTakeBack p earlier) (sym back) are.can);
    }

-- and where it got none, since it has nothing yet
pub earlier_kept : (first places : Map) (earlier : List Earlier) (k : List ℕ) (had : Place) → IsState places
    → value_at places k ≡ had → value_at places k ≡ None → AreEarlier first places earlier
    → AreEarlier first places (earlier ++ (k, had) ∷ [])
earlier_kept first places earlier k None is at none are =
    let back : without_key places k ≡ places = nothing_again places k is none in
    record {
      back = taken_back-last places earlier (k, None) ∙ (ap (λ p. taken_back p earlier) back ∙ are.back);
      can = CanTakeBack-last places earlier (k, None) (λ some. absurd (cc))
          (subst (λ p. CanTakeBack p earlier) (sym back) are.can);
    }
earlier_kept first places earlier k (Some y) is at none are =
    absurd (let wrong : ◌≡◌ {A = Place} None (Some y) = sym none ∙ at in cc)

-- a key that the new state has is not deleted, and one that it lacks is not updated
not_deleted_there : (q : List ℕ) (es new : Map) → is_some (value_at new q) ≡ true
    → list_any (is_delete_of q) (deletes es new) ≡ false
not_deleted_there q [] new there = refl
not_deleted_there q (e ∷ es) new there =
    let rest = not_deleted_there q es new there in
    elim (same q e.0) as (λ b. same q e.0 ≡ b → list_any (is_delete_of q) (deletes (e ∷ es) new) ≡ false) [
      | true ↦ λ at.
          let has : is_some (value_at new e.0) ≡ true =
          ap (λ k. is_some (value_at new k)) (sym (exact q e.0 at)) ∙ there in
          ap (λ b. list_any (is_delete_of q) (cond b [] (delete e.0 ∷ []) ++ deletes es new)) has ∙ rest
      | false ↦ λ away. elim (is_some (value_at new e.0)) as (λ b. list_any (is_delete_of q)
          (cond b [] (delete e.0 ∷ []) ++ deletes es new) ≡ false) [
            | true ↦ rest
            | false ↦ ap (λ b. b || list_any (is_delete_of q) (deletes es new)) away ∙ rest
          ]
    ] refl

no_update : (q : List ℕ) (es new : Map) → list_any (is_update_of q) (deletes es new) ≡ false
no_update q [] new = refl
no_update q (e ∷ es) new =
    elim (is_some (value_at new e.0)) as (λ b. list_any (is_update_of q)
    (cond b [] (delete e.0 ∷ []) ++ deletes es new) ≡ false) [
      | true ↦ no_update q es new
      | false ↦ no_update q es new
    ]

no_delete : (q : List ℕ) (es old new : Map) → list_any (is_delete_of q) (updates es old new) ≡ false
no_delete q [] old new = refl
no_delete q (e ∷ es) old new =
    elim (is_kept old new e.0 e.1) as (λ b. list_any (is_delete_of q)
    (cond b [] (update (ordered e.0 e.1 (next_key new e.0)) ∷ []) ++ updates es old new) ≡ false) [
      | true ↦ no_delete q es old new
      | false ↦ no_delete q es old new
    ]

not_updated_gone : (q : List ℕ) (es old new : Map) → value_at es q ≡ None
    → list_any (is_update_of q) (updates es old new) ≡ false
not_updated_gone q [] old new none = refl
not_updated_gone q (e ∷ es) old new none =
    let away = passed_by (same q e.0) e.1 (value_at es q) none in
    let rest = not_updated_gone q es old new away.1 in
    elim (is_kept old new e.0 e.1) as (λ b. list_any (is_update_of q)
    (cond b [] (update (ordered e.0 e.1 (next_key new e.0)) ∷ []) ++ updates es old new) ≡ false) [
      | true ↦ rest
      | false ↦ ap (λ b. b || list_any (is_update_of q) (updates es old new)) away.0 ∙ rest
    ]

both_false : (a b c : Bool) → a ≡ false → b ≡ false → ((a || b) || (c || false)) ≡ (c || false)
both_false a b c no_a no_b = ap (λ x. (x || b) || (c || false)) no_a ∙ ap (λ x. x || (c || false)) no_b

lacking : (o : Place) → is_some o ≡ false → o ≡ None
lacking None h = refl
lacking (Some x) h = absurd (cc)

-- a batch deletes no key that it updates
pub batch_apart : (old new : Map) (metadata : Option (List ℕ)) (floor : ℕ)
    → AreApart (batch_operations old new ++ commit_floor metadata floor ∷ [])
batch_apart old new metadata floor q deleted =
    let gone = deletes old new in
    let put = updates new old new in
    let end : List Operation = commit_floor metadata floor ∷ [] in
    let split : (p : Operation → Bool)
    → list_any p ((gone ++ put) ++ end) ≡ ((list_any p gone || list_any p put) || list_any p end) =
    λ p. list_any-append p (gone ++ put) end ∙ ap (λ b. b || list_any p end) (list_any-append p gone put) in
    elim (is_some (value_at new q)) as (λ b. is_some (value_at new q) ≡ b
    → list_any (is_update_of q) ((gone ++ put) ++ end) ≡ false) [
      | true ↦ λ there.
          let none : list_any (is_delete_of q) ((gone ++ put) ++ end) ≡ false =
          split (is_delete_of q) ∙ both_false (list_any (is_delete_of q) gone) (list_any (is_delete_of q) put) false
          (not_deleted_there q old new there) (no_delete q new old new) in
          absurd (let wrong : ◌≡◌ {A = Bool} true false = sym deleted ∙ none in cc)
      | false ↦ λ lacks.
          split (is_update_of q) ∙ both_false (list_any (is_update_of q) gone) (list_any (is_update_of q) put) false
          (no_update q old new) (not_updated_gone q new old new (lacking (value_at new q) lacks))
    ] refl
