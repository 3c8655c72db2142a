-- What is active in a log, and what is taken out of it, stands at its floor or behind it.
use Rattle.std.proofs.Common.{◌≡◌, ℕ, zero, suc, ◌+◌, ◌*◌, ◌/◌, ◌≤◌, Bool, true, false, cond, not, ◌&&◌, List, [], ◌∷◌}
use Rattle.std.proofs.Common.{◌++◌, drop, length, Option, None, Some, slice_get, inl, inr, ◌⊎◌, ⊎_elim, refl, ap, sym}
use Rattle.std.proofs.Common.{subst, ◌∙◌, arith, append_assoc}
use Rattle.std.specs.Prelude.{◌||◌, map}
use Rattle.std.specs.List.{list_any, AllByRecursion}
use Rattle.std.proofs.lemmas.Bool.{cases_Bool}
use Rattle.std.proofs.lemmas.List.Folds.{list_any-append}
use Rattle.std.proofs.Math.Nat.{mul-div-le}
use Rattle.state_ops.specs.Operation.{Operation, delete, update, ordered, commit_floor}
use Rattle.auth_store_parts.specs.Places.{places_of}
use Rattle.auth_store_parts.specs.History.{History, latest_map, batch_operations, has_key, is_commit, is_active}
use Rattle.auth_store_parts.specs.History.{is_active_on, is_active_update, activity_bits, inactivity_floor, last_floor}
use Rattle.auth_store_parts.specs.History.{log_of}
use Rattle.auth_store_parts.specs.Laws.Logs.{floor_after-append}
use Rattle.auth_store_parts.specs.Laws.Floors.{floor_rises}
use Rattle.auth_store_index.specs.Growth.{taken, committed, first_set}
use Rattle.auth_store_index.specs.Laws.Bits.{place_in, commit_in, out, out_by, taken-out}

-- the operation at this place of a log counts
abbrev pub IsActiveAt : List Operation → ℕ → Type 0
IsActiveAt log place = slice_get (activity_bits log) place ≡ Some true

all-raised : (op : Operation) (later : List Operation) (ps : List ℕ) → AllByRecursion (IsActiveAt later) ps
    → AllByRecursion (IsActiveAt (op ∷ later)) (map suc ps)
all-raised op later [] all = tt
all-raised op later (p ∷ ps) all = (all.0, all-raised op later ps all.1)

all-append : (log : List Operation) (ps qs : List ℕ) → AllByRecursion (IsActiveAt log) ps
    → AllByRecursion (IsActiveAt log) qs → AllByRecursion (IsActiveAt log) (ps ++ qs)
all-append log [] qs one other = other
all-append log (p ∷ ps) qs one other = (one.0, all-append log ps qs one.1 other)

here_or_behind : (a : Bool) (op : Operation) (later : List Operation) (ps : List ℕ)
    → (a ≡ true → is_active op later ≡ true) → AllByRecursion (IsActiveAt later) ps
    → AllByRecursion (IsActiveAt (op ∷ later)) (cond a (0 ∷ []) (map suc ps))
here_or_behind true op later ps counts all = (ap Some (counts refl), tt)
here_or_behind false op later ps counts all = all-raised op later ps all

second : (a b : Bool) → (a && b) ≡ true → b ≡ true
second true b h = h
second false b h = absurd (cc)

active-place_in : (k : List ℕ) (log : List Operation) → AllByRecursion (IsActiveAt log) (place_in k log)
active-place_in k [] = tt
active-place_in k (op ∷ later) =
    here_or_behind (is_active_on k op later) op later (place_in k later)
    (second (has_key k op) (is_active op later)) (active-place_in k later)

active-commit_in : (log : List Operation) → AllByRecursion (IsActiveAt log) (commit_in log)
active-commit_in [] = tt
active-commit_in (op ∷ later) =
    here_or_behind (is_commit op && is_active op later) op later (commit_in later)
    (second (is_commit op) (is_active op later)) (active-commit_in later)

active-out_by : (log : List Operation) (o : Operation) → AllByRecursion (IsActiveAt log) (out_by log o)
active-out_by log (delete k) = active-place_in k log
active-out_by log (update (ordered k v n)) = active-place_in k log
active-out_by log (commit_floor m f) = active-commit_in log

active-out : (log ops : List Operation) → AllByRecursion (IsActiveAt log) (out log ops)
active-out log [] = tt
active-out log (o ∷ ops) = all-append log (out_by log o) (out log ops) (active-out_by log o) (active-out log ops)

-- what is taken out of a log was active
pub active-taken : (front ops : List Operation) (m : Option (List ℕ)) (f : ℕ)
    → let log : List Operation = front ++ commit_floor m f ∷ [] in
    AllByRecursion (IsActiveAt log) (taken (places_of log) (length front) ops)
active-taken front ops m f =
    subst (AllByRecursion (IsActiveAt (front ++ commit_floor m f ∷ []))) (sym (taken-out front ops m f))
    (active-out (front ++ commit_floor m f ∷ []) ops)

-- before a commit the first bit that is set is that of the first active update
bit_before_commit : (op : Operation) (later : List Operation) (m : Option (List ℕ)) (f : ℕ)
    → is_active op (later ++ commit_floor m f ∷ []) ≡ is_active_update op later
bit_before_commit (delete k) later m f = refl
bit_before_commit (update (ordered k v n)) later m f =
    ap not (list_any-append (has_key k) later (commit_floor m f ∷ [])) ∙ or_false (list_any (has_key k) later)
  where
    or_false : (a : Bool) → not (a || (false || false)) ≡ not a
    or_false true = refl
    or_false false = refl
bit_before_commit (commit_floor n g) later m f =
    ap not (list_any-append is_commit later (commit_floor m f ∷ [])) ∙ or_true (list_any is_commit later)
  where
    or_true : (a : Bool) → not (a || true) ≡ false
    or_true true = refl
    or_true false = refl

pub floor_of_bits : (log : List Operation) (m : Option (List ℕ)) (f : ℕ)
    → inactivity_floor log ≡ first_set (activity_bits (log ++ commit_floor m f ∷ []))
floor_of_bits [] m f = refl
floor_of_bits (op ∷ later) m f =
    ap (λ n. cond (is_active_update op later) 0 (n + 1)) (floor_of_bits later m f)
    ∙ ap (λ b. cond b 0 (first_set (activity_bits (later ++ commit_floor m f ∷ [])) + 1))
    (sym (bit_before_commit op later m f))

-- an active update stands at the floor, before the commit
pub record IsUpdateAtFloor (front : List Operation) (m : Option (List ℕ)) (f : ℕ) : Type 0 where
  pub key : List ℕ
  pub value : List ℕ
  pub next : List ℕ
  pub at : slice_get (front ++ commit_floor m f ∷ []) (inactivity_floor front) ≡ Some (update (ordered key value next))
  pub bit : IsActiveAt (front ++ commit_floor m f ∷ []) (inactivity_floor front)

-- what stands at the floor of a log that a commit ends: the commit, or an active update
pub update_at_floor : (front : List Operation) (m : Option (List ℕ)) (f : ℕ)
    → (inactivity_floor front ≡ length front) ⊎ IsUpdateAtFloor front m f
update_at_floor [] m f = inl refl
update_at_floor (op ∷ later) m f =
    ⊎_elim here (λ away. ⊎_elim (λ ended. inl (last away ended)) (λ found. inr (behind away found))
    (update_at_floor later m f))
    (cases_Bool (is_active_update op later))
  where
    floor_here : is_active_update op later ≡ true → inactivity_floor (op ∷ later) ≡ 0
    floor_here counts = ap (λ b. cond b 0 (inactivity_floor later + 1)) counts

    floor_there : is_active_update op later ≡ false → inactivity_floor (op ∷ later) ≡ suc (inactivity_floor later)
    floor_there away = ap (λ b. cond b 0 (inactivity_floor later + 1)) away ∙ omega arith

    last : is_active_update op later ≡ false → inactivity_floor later ≡ length later
        → inactivity_floor (op ∷ later) ≡ length (op ∷ later)
    last away ended = floor_there away ∙ ap suc ended

    at_start : (o : Operation) → o ≡ op → is_active_update o later ≡ true → IsUpdateAtFloor (op ∷ later) m f
    at_start (delete k) is counts = absurd (let none : false ≡ true = counts in cc)
    at_start (commit_floor n g) is counts = absurd (let none : false ≡ true = counts in cc)
    at_start (update (ordered k v n)) is counts =
        let own : is_active_update op later ≡ true = subst (λ o. is_active_update o later ≡ true) is counts in
        record {
          key = k;
          value = v;
          next = n;
          at = ap (λ i. slice_get (op ∷ (later ++ commit_floor m f ∷ [])) i) (floor_here own) ∙ ap Some (sym is);
          bit = ap (λ i. slice_get (activity_bits (op ∷ (later ++ commit_floor m f ∷ []))) i) (floor_here own)
              ∙ ap Some (bit_before_commit op later m f ∙ own);
        }

    here : is_active_update op later ≡ true
        → (inactivity_floor (op ∷ later) ≡ length (op ∷ later)) ⊎ IsUpdateAtFloor (op ∷ later) m f
    here counts = inr (at_start op refl counts)

    behind : is_active_update op later ≡ false → IsUpdateAtFloor later m f → IsUpdateAtFloor (op ∷ later) m f
    behind away found = record {
      key = found.key;
      value = found.value;
      next = found.next;
      at = ap (λ i. slice_get (op ∷ (later ++ commit_floor m f ∷ [])) i) (floor_there away) ∙ found.at;
      bit = ap (λ i. slice_get (activity_bits (op ∷ (later ++ commit_floor m f ∷ []))) i) (floor_there away)
          ∙ found.bit;
    }

-- the first bit that is set, looked for from a place before it on
first_set_from : (bits : List Bool) (start : ℕ) → start ≤ first_set bits
    → first_set bits ≡ start + first_set (drop start bits)
first_set_from bits zero within = omega arith
first_set_from [] (suc start) within = absurd (omega (arith, within))
first_set_from (true ∷ bits) (suc start) within = absurd (omega (arith, within))
first_set_from (false ∷ bits) (suc start) within =
    let rest : first_set bits ≡ start + first_set (drop start bits) =
    first_set_from bits start (omega (arith, within)) in
    omega (arith, rest)

-- no bit before it is set
set_behind : (bits : List Bool) (place : ℕ) → slice_get bits place ≡ Some true → first_set bits ≤ place
set_behind [] place is = absurd (cc)
set_behind (true ∷ bits) place is = omega arith
set_behind (false ∷ bits) zero is = absurd (cc)
set_behind (false ∷ bits) (suc place) is = let rest : first_set bits ≤ place = set_behind bits place is in
    omega (arith, rest)

-- what is active before a commit that records the floor stands at the floor or behind it
pub active_behind_floor : (front : List Operation) (m : Option (List ℕ)) (f : ℕ) (place : ℕ)
    → IsActiveAt (front ++ commit_floor m f ∷ []) place → inactivity_floor front ≤ place
active_behind_floor front m f place is =
    subst (λ n. n ≤ place) (sym (floor_of_bits front m f))
    (set_behind (activity_bits (front ++ commit_floor m f ∷ [])) place is)

-- the log of a history ends with a commit that records the floor
pub record Ends (log : List Operation) : Type 0 where
  pub front : List Operation
  pub metadata : Option (List ℕ)
  pub whole : log ≡ committed front metadata

pub ends-log_of : (h : History) → Ends (log_of h)
ends-log_of [] = record { front = []; metadata = None; whole = refl }
ends-log_of (c ∷ h) =
    let ops : List Operation = batch_operations (latest_map h) c.map in
    record {
      front = log_of h ++ ops;
      metadata = c.metadata;
      whole = sym (append_assoc (log_of h) ops (commit_floor c.metadata (inactivity_floor (log_of h ++ ops)) ∷ []));
    }

pub last_floor-committed : (front : List Operation) (m : Option (List ℕ))
    → last_floor (committed front m) ≡ inactivity_floor front
last_floor-committed front m = floor_after-append 0 (inactivity_floor front) m front

-- what is active in a log stands at the floor that its last commit records or behind it
pub active_in_committed : (front : List Operation) (m : Option (List ℕ)) (place : ℕ)
    → IsActiveAt (committed front m) place → last_floor (committed front m) ≤ place
active_in_committed front m place is = subst (λ n. n ≤ place) (sym (last_floor-committed front m))
    (active_behind_floor front m (inactivity_floor front) place is)

pub active_in_log_of : (h : History) (place : ℕ) → IsActiveAt (log_of h) place → last_floor (log_of h) ≤ place
active_in_log_of h place is =
    let e = ends-log_of h in
    subst (λ log. last_floor log ≤ place) (sym e.whole)
    (active_in_committed e.front e.metadata place (subst (λ log. IsActiveAt log place) e.whole is))

-- and behind the chunks before the floor
pub behind_chunks : (width floor chunks place : ℕ) → chunks ≤ floor / (8 * width) → floor ≤ place
    → 8 * width * chunks ≤ place
behind_chunks width floor chunks place few behind =
    let up : 8 * width * chunks ≤ 8 * width
    * (floor / (8 * width)) = mul-mono (8 * width) chunks (floor / (8 * width)) few in
    omega (arith, up, mul-div-le floor (8 * width), behind)
  where
    mul-mono : (k a b : ℕ) → a ≤ b → k * a ≤ k * b
    mul-mono k a b le = search (arith, le)

-- the next floor, from the bits of the log with the next commit: the first that is set from the floor before on
pub next_floor : (front changes : List Operation) (m n : Option (List ℕ)) (f g : ℕ)
    → let log : List Operation = front ++ commit_floor m f ∷ [] in
    let bits : List Bool = activity_bits (log ++ (changes ++ commit_floor n g ∷ [])) in
    inactivity_floor (log ++ changes) ≡ inactivity_floor front + first_set (drop (inactivity_floor front) bits)
next_floor front changes m n f g =
    let log : List Operation = front ++ commit_floor m f ∷ [] in
    let whole : activity_bits ((log ++ changes) ++ commit_floor n g ∷ [])
    ≡ activity_bits (log ++ (changes ++ commit_floor n g ∷ [])) =
    ap activity_bits (append_assoc log changes (commit_floor n g ∷ [])) in
    let is : inactivity_floor (log ++ changes) ≡ first_set (activity_bits (log ++ (changes ++ commit_floor n g ∷ []))) =
    floor_of_bits (log ++ changes) n g ∙ ap first_set whole in
    let one = floor_rises front (commit_floor m f ∷ []) in
    let other = floor_rises log changes in
    is ∙ first_set_from (activity_bits (log ++ (changes ++ commit_floor n g ∷ []))) (inactivity_floor front)
    (omega (arith, one, other, is))
