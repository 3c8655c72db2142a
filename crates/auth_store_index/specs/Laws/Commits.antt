-- What a commit makes of the bits, the floor and the places of a log.
use Rattle.std.proofs.Common.{◌≡◌, ℕ, zero, suc, ◌+◌, ◌≤◌, ◌<◌, Bool, true, List, [], ◌∷◌, ◌++◌, drop, length}
use Rattle.std.proofs.Common.{length-append, Option, Some, slice_get, refl, ap, sym, subst, ◌∙◌, arith, cond, ⊎_elim}
use Rattle.std.proofs.lemmas.Bool.{cases_Bool}
use Rattle.std.proofs.lemmas.Map.Lookups.{exact_bytes}
use Rattle.std.proofs.lemmas.Cmp.{nat_list_cmp_total}
use Rattle.std.specs.FinMap.Entries.{same_entries}
use Rattle.auth_store_parts.specs.Map.{Map, key_order, value_at, with_entry}
use Rattle.auth_store_parts.specs.Laws.Lookups.{same, exact, value_at-find, IsState-with_entry, value_at-with_entry}
use Rattle.std.specs.Prelude.{map}
use Rattle.std.proofs.lemmas.List.{map-append}
use Rattle.std.proofs.lemmas.Grind.{flat_map-append}
use Rattle.std.specs.List.{AllByRecursion}
use Rattle.state_ops.specs.Operation.{Operation, delete, update, ordered, commit_floor}
use Rattle.auth_store_parts.specs.Places.{places_of}
use Rattle.auth_store_parts.specs.History.{History, Commit, IsState, latest_map, batch_operations, activity_bits}
use Rattle.auth_store_parts.specs.History.{inactivity_floor, last_floor, log_of, with_commit, appended, replayed}
use Rattle.auth_store_parts.specs.Laws.Logs.{last_floor-with_commit}
use Rattle.auth_store_parts.specs.Laws.Places.{length-activity_bits}
use Rattle.auth_store_index.specs.Growth.{cleared, taken, taken_by, committed, first_set}
use Rattle.auth_store_index.specs.Touched.{is_no_delete, IsSaid}
use Rattle.auth_store_index.specs.Laws.Bits.{bits_grow}
use Rattle.auth_store_index.specs.Laws.Floors.{IsActiveAt, active-taken, active_in_committed, ends-log_of}
use Rattle.auth_store_index.specs.Laws.Floors.{last_floor-committed, next_floor}
use Rattle.auth_store_index.specs.Laws.Touching.{batch_bits}

last_of : (front : List Operation) (m : Option (List ℕ)) (f last : ℕ)
    → last + 1 ≡ length (front ++ commit_floor m f ∷ [])
    → length front ≡ last
last_of front m f last is = omega (arith, is, length-append front (commit_floor m f ∷ []))

-- the bits of the log of a history that goes on
pub bits_after : (h : History) (last : ℕ) → last + 1 ≡ length (log_of h) → (ops : List Operation)
    → activity_bits (log_of h ++ ops)
    ≡ cleared (activity_bits (log_of h) ++ activity_bits ops) (taken (places_of (log_of h)) last ops)
bits_after h last is ops =
    let e = ends-log_of h in
    subst (λ (log : List Operation). last + 1 ≡ length log → activity_bits (log ++ ops)
    ≡ cleared (activity_bits log ++ activity_bits ops) (taken (places_of log) last ops)) (sym e.whole)
    (λ at. bits_grow e.front ops e.metadata (inactivity_floor e.front)
    ∙ ap (λ n. cleared (activity_bits (committed e.front e.metadata) ++ activity_bits ops)
    (taken (places_of (committed e.front e.metadata)) n ops))
    (last_of e.front e.metadata (inactivity_floor e.front) last at)) is

within : (log : List Operation) (place : ℕ) → IsActiveAt log place → place < length log
within log place is = subst (λ n. place < n) (length-activity_bits log) (some_within (activity_bits log) place is)
  where
    some_within : (bits : List Bool) (at : ℕ) → slice_get bits at ≡ Some true → at < length bits
    some_within [] at is = absurd (cc)
    some_within (b ∷ bits) zero is = omega arith
    some_within (b ∷ bits) (suc at) is = let rest : at < length bits = some_within bits at is in omega (arith, rest)

each : (P Q : ℕ → Type 0) (ps : List ℕ) → ((p : ℕ) → P p → Q p) → AllByRecursion P ps → AllByRecursion Q ps
each P Q [] leads all = tt
each P Q (p ∷ ps) leads all = (leads p all.0, each P Q ps leads all.1)

-- what is taken out of the log of a history stands at its floor or behind it, and in it
pub taken_after : (h : History) (last : ℕ) → last + 1 ≡ length (log_of h) → (ops : List Operation)
    → AllByRecursion (λ place. (last_floor (log_of h) ≤ place)
    × (place < length (log_of h))) (taken (places_of (log_of h)) last ops)
taken_after h last is ops =
    let e = ends-log_of h in
    subst (λ (log : List Operation). last + 1 ≡ length log
    → AllByRecursion (λ place. (last_floor log ≤ place)
    × (place < length log)) (taken (places_of log) last ops)) (sym e.whole)
    (λ at. let log : List Operation = committed e.front e.metadata in
    each (IsActiveAt log) (λ place. (last_floor log ≤ place) × (place < length log)) (taken (places_of log) last ops)
    (λ p active. (active_in_committed e.front e.metadata p active, within log p active))
    (subst (λ n. AllByRecursion (IsActiveAt log) (taken (places_of log) n ops))
    (last_of e.front e.metadata (inactivity_floor e.front) last at)
    (active-taken e.front ops e.metadata (inactivity_floor e.front)))) is

-- the floor of the log of a history that goes on with changes and a commit
pub floor_after_commit : (h : History) (changes : List Operation) (m : Option (List ℕ))
    → last_floor (log_of h ++ with_commit (log_of h) changes m)
    ≡ last_floor (log_of h)
    + first_set (drop (last_floor (log_of h)) (activity_bits (log_of h ++ with_commit (log_of h) changes m)))
floor_after_commit h changes m =
    let e = ends-log_of h in
    subst (λ (log : List Operation). last_floor (log ++ with_commit log changes m)
    ≡ last_floor log + first_set (drop (last_floor log) (activity_bits (log ++ with_commit log changes m))))
    (sym e.whole)
    (let log : List Operation = committed e.front e.metadata in
    last_floor-with_commit log changes m
    ∙ (next_floor e.front changes e.metadata m (inactivity_floor e.front) (inactivity_floor (log ++ changes))
    ∙ ap (λ n. n + first_set (drop n (activity_bits (log ++ with_commit log changes m))))
    (sym (last_floor-committed e.front e.metadata))))

-- a batch with its commit
pub commit_bits : (h : History) (c : Commit) (last : ℕ) → IsState c.map → last + 1 ≡ length (log_of h)
    → let log : List Operation = log_of h in
    let said : List Operation = appended log (latest_map h) c.map c.metadata in
    activity_bits (log_of (c ∷ h))
    ≡ cleared (activity_bits log ++ map is_no_delete said) (taken (places_of log) last said)
commit_bits h c last is at =
    let log : List Operation = log_of h in
    let said : List Operation = appended log (latest_map h) c.map c.metadata in
    bits_after h last at said
    ∙ ap (λ bits. cleared (activity_bits log ++ bits) (taken (places_of log) last said))
    (batch_bits (latest_map h) c.map c.metadata (inactivity_floor (log ++ batch_operations (latest_map h) c.map)) is)

-- the floor of a batch's commit, from the bits before and those of its changes
pub next_commit_floor : (h : History) (c : Commit) (last : ℕ) → IsState c.map → last + 1 ≡ length (log_of h)
    → let log : List Operation = log_of h in
    let changes : List Operation = batch_operations (latest_map h) c.map in
    let bits : List Bool = activity_bits log ++ (map is_no_delete changes ++ true ∷ []) in
    last_floor (log_of (c ∷ h)) ≡ last_floor log
    + first_set (drop (last_floor log) (cleared bits (taken (places_of log) last changes ++ last ∷ [])))
next_commit_floor h c last is at =
    let log : List Operation = log_of h in
    let changes : List Operation = batch_operations (latest_map h) c.map in
    let close : Operation = commit_floor c.metadata (inactivity_floor (log ++ changes)) in
    let walk : List Bool → ℕ = λ bits. last_floor log + first_set (drop (last_floor log) bits) in
    floor_after_commit h changes c.metadata
    ∙ (ap walk (commit_bits h c last is at)
    ∙ (ap (λ b. walk (cleared (activity_bits log ++ b) (taken (places_of log) last (changes ++ close ∷ []))))
    (map-append is_no_delete changes (close ∷ []))
    ∙ ap (λ ps. walk (cleared (activity_bits log ++ (map is_no_delete changes ++ true ∷ [])) ps))
    (flat_map-append (taken_by (places_of log) last) changes (close ∷ []))))

-- an entry that is there already changes nothing
pub with_same : (s : Map) (k v : List ℕ) → IsState s → value_at s k ≡ Some v → with_entry s k v ≡ s
with_same s k v is at =
    same_entries key_order nat_list_cmp_total exact_bytes (with_entry s k v) s (IsState-with_entry s k v is) is
    (λ q. sym (value_at-find q (with_entry s k v)) ∙ (value_at-with_entry s k v q ∙ (⊎_elim
    (λ yes. ap (λ b. cond b (Some v) (value_at s q)) yes ∙ (sym at ∙ ap (value_at s) (sym (exact q k yes))))
    (λ away. ap (λ b. cond b (Some v) (value_at s q)) away)
    (cases_Bool (same q k))
    ∙ value_at-find q s)))

-- updates that say again what is so
pub again : (s : Map) (ops : List Operation) → IsState s → AllByRecursion (IsSaid s) ops → replayed s ops ≡ s
again s [] is all = refl
again s (delete k ∷ ops) is all = absurd all.0
again s (update (ordered k v n) ∷ ops) is all =
    let same_state : with_entry s k v ≡ s = with_same s k v is all.0 in
    ap (λ x. replayed x ops) same_state ∙ again s ops is all.1
again s (commit_floor m f ∷ ops) is all = absurd all.0
