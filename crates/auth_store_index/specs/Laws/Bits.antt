-- The bits of a log that grows.
use Rattle.std.proofs.Common.{◌≡◌, ℕ, zero, suc, ◌+◌, Bool, true, false, cond, not, ◌&&◌, List, [], ◌∷◌, ◌++◌, length}
use Rattle.std.proofs.Common.{Option, None, Some, option_map, slice_get, refl, ap, sym, ◌∙◌, ⊎_elim}
use Rattle.std.specs.Prelude.{◌||◌, unwrap_or, map, slice_set}
use Rattle.std.specs.List.{list_any}
use native.Mathlib.Numerals.{unary_clauses}
use Rattle.std.proofs.lemmas.Bool.{cases_Bool}
use Rattle.std.proofs.lemmas.List.Folds.{list_any-append}
use Rattle.state_ops.specs.Operation.{Operation, delete, update, ordered, commit_floor}
use Rattle.auth_store_parts.specs.Places.{places_of}
use Rattle.auth_store_parts.specs.History.{has_key, is_commit, is_active, is_active_on, active_location, activity_bits}
use Rattle.auth_store_parts.specs.Laws.Lookups.{same, exact}
use Rattle.auth_store_parts.specs.Laws.Places.{value_at-places_of}
use Rattle.auth_store_index.specs.Growth.{cleared, place_at, taken}

-- the place of a key's active update, alone, or nothing
abbrev pub place_in : List ℕ → List Operation → List ℕ
place_in key [] = []
place_in key (op ∷ later) = cond (is_active_on key op later) (0 ∷ []) (map suc (place_in key later))

-- the place of the last commit
abbrev pub commit_in : List Operation → List ℕ
commit_in [] = []
commit_in (op ∷ later) = cond (is_commit op && is_active op later) (0 ∷ []) (map suc (commit_in later))

-- what operations take out of a log
abbrev pub out_by : List Operation → Operation → List ℕ
out_by log (delete k) = place_in k log
out_by log (update (ordered k v n)) = place_in k log
out_by log (commit_floor m f) = commit_in log

abbrev pub out : List Operation → List Operation → List ℕ
out log [] = []
out log (op ∷ ops) = out_by log op ++ out log ops

-- whether the place 0 is among them
abbrev has_zero : List ℕ → Bool
has_zero [] = false
has_zero (zero ∷ ps) = true
has_zero (suc n ∷ ps) = has_zero ps

-- the others, each one less
abbrev lowered : List ℕ → List ℕ
lowered [] = []
lowered (zero ∷ ps) = lowered ps
lowered (suc n ∷ ps) = n ∷ lowered ps

has_zero-append : (ps qs : List ℕ) → has_zero (ps ++ qs) ≡ (has_zero ps || has_zero qs)
has_zero-append [] qs = refl
has_zero-append (zero ∷ ps) qs = refl
has_zero-append (suc n ∷ ps) qs = has_zero-append ps qs

lowered-append : (ps qs : List ℕ) → lowered (ps ++ qs) ≡ lowered ps ++ lowered qs
lowered-append [] qs = refl
lowered-append (zero ∷ ps) qs = lowered-append ps qs
lowered-append (suc n ∷ ps) qs = ap (λ r. n ∷ r) (lowered-append ps qs)

has_zero-raised : (ps : List ℕ) → has_zero (map suc ps) ≡ false
has_zero-raised [] = refl
has_zero-raised (p ∷ ps) = has_zero-raised ps

lowered-raised : (ps : List ℕ) → lowered (map suc ps) ≡ ps
lowered-raised [] = refl
lowered-raised (p ∷ ps) = ap (λ r. p ∷ r) (lowered-raised ps)

cleared_first : (bit : Bool) (bits : List Bool) (ps : List ℕ)
    → cleared (bit ∷ bits) ps ≡ (bit && not (has_zero ps)) ∷ cleared bits (lowered ps)
cleared_first bit bits [] = ap (λ b. b ∷ bits) (and_true bit)
  where
    and_true : (b : Bool) → b ≡ (b && true)
    and_true true = refl
    and_true false = refl
cleared_first bit bits (zero ∷ ps) = cleared_first false bits ps
    ∙ ap (λ b. b ∷ cleared bits (lowered ps)) (and_false bit)
  where
    and_false : (b : Bool) → false ≡ (b && false)
    and_false true = refl
    and_false false = refl
cleared_first bit bits (suc n ∷ ps) = cleared_first bit (slice_set bits n false) ps

-- a key that no operation has has no place
none_in : (k : List ℕ) (log : List Operation) → list_any (has_key k) log ≡ false → place_in k log ≡ []
none_in k [] none = refl
none_in k (op ∷ later) none =
    let parts = neither (has_key k op) (list_any (has_key k) later) none in
    ap (λ b. cond (b && is_active op later) (0 ∷ []) (map suc (place_in k later))) parts.0
    ∙ ap (map suc) (none_in k later parts.1)
  where
    neither : (a b : Bool) → (a || b) ≡ false → (a ≡ false) × (b ≡ false)
    neither true b h = absurd (cc)
    neither false b h = (refl, h)

none_commit : (log : List Operation) → list_any is_commit log ≡ false → commit_in log ≡ []
none_commit [] none = refl
none_commit (op ∷ later) none =
    let parts = neither (is_commit op) (list_any is_commit later) none in
    ap (λ b. cond (b && is_active op later) (0 ∷ []) (map suc (commit_in later))) parts.0
    ∙ ap (map suc) (none_commit later parts.1)
  where
    neither : (a b : Bool) → (a || b) ≡ false → (a ≡ false) × (b ≡ false)
    neither true b h = absurd (cc)
    neither false b h = (refl, h)

is_none : (a any : Bool) → (a && not any) ≡ true → (a ≡ true) × (any ≡ false)
is_none true true h = absurd (cc)
is_none true false h = (refl, refl)
is_none false any h = absurd (cc)

-- behind what is active on a key none is
none_behind : (k : List ℕ) (op : Operation) (later : List Operation) → is_active_on k op later ≡ true
    → place_in k later ≡ []
none_behind k (delete l) later on = absurd (never (same k l) on)
  where
    never : (b : Bool) → (b && false) ≡ true → ⊥
    never true h = cc
    never false h = cc
none_behind k (update (ordered l v n)) later on =
    let parts = is_none (same k l) (list_any (has_key l) later) on in
    none_in k later (ap (λ x. list_any (has_key x) later) (exact k l parts.0) ∙ parts.1)
none_behind k (commit_floor m f) later on = absurd (cc)

none_behind_commit : (op : Operation) (later : List Operation) → (is_commit op && is_active op later) ≡ true
    → commit_in later ≡ []
none_behind_commit (delete l) later on = absurd (cc)
none_behind_commit (update (ordered l v n)) later on = absurd (cc)
none_behind_commit (commit_floor m f) later on =
    none_commit later (is_none true (list_any is_commit later) on).1

-- a place at the front of a log, or one behind it
has_zero-here : (here : Bool) (ps : List ℕ) → has_zero (cond here (0 ∷ []) (map suc ps)) ≡ here
has_zero-here true ps = refl
has_zero-here false ps = has_zero-raised ps

lowered-here : (here : Bool) (ps : List ℕ) → (here ≡ true → ps ≡ []) → lowered (cond here (0 ∷ []) (map suc ps)) ≡ ps
lowered-here true ps none = sym (none refl)
lowered-here false ps none = lowered-raised ps

lowered-out_by : (op o : Operation) (later : List Operation) → lowered (out_by (op ∷ later) o) ≡ out_by later o
lowered-out_by op (delete k) later = lowered-here (is_active_on k op later) (place_in k later) (none_behind k op later)
lowered-out_by op (update (ordered k v n)) later =
    lowered-here (is_active_on k op later) (place_in k later) (none_behind k op later)
lowered-out_by op (commit_floor m f) later =
    lowered-here (is_commit op && is_active op later) (commit_in later) (none_behind_commit op later)

lowered-out : (op : Operation) (later ops : List Operation) → lowered (out (op ∷ later) ops) ≡ out later ops
lowered-out op later [] = refl
lowered-out op later (o ∷ ops) =
    lowered-append (out_by (op ∷ later) o) (out (op ∷ later) ops)
    ∙ (ap (λ r. r ++ lowered (out (op ∷ later) ops)) (lowered-out_by op o later)
    ∙ ap (λ r. out_by later o ++ r) (lowered-out op later ops))

-- whether a later operation makes an operation count no more
abbrev touches : Operation → (Operation → Bool)
touches (delete k) = λ _. false
touches (update (ordered k v n)) = has_key k
touches (commit_floor m f) = is_commit

same-sym : (k l : List ℕ) → same k l ≡ same l k
same-sym k l =
    ⊎_elim
    (λ yes. ap (λ x. same x l) (exact k l yes) ∙ ap (same l) (sym (exact k l yes)))
    (λ no. ⊎_elim
    (λ yes. ap (λ x. same x l) (sym (exact l k yes)) ∙ ap (same l) (exact l k yes))
    (λ nor. no ∙ sym nor)
    (cases_Bool (same l k)))
    (cases_Bool (same k l))

and_false : (b : Bool) → false ≡ (b && false)
and_false true = refl
and_false false = refl

and_swap : (a b : Bool) → (a && b) ≡ (b && a)
and_swap true true = refl
and_swap true false = refl
and_swap false true = refl
and_swap false false = refl

and_true : (b : Bool) → b ≡ (b && true)
and_true true = refl
and_true false = refl

-- an operation takes out the first place where the first operation was active and it touches it
hit : (op o : Operation) (later : List Operation)
    → has_zero (out_by (op ∷ later) o) ≡ (is_active op later && touches op o)
hit (delete l) (delete k) later = has_zero-here (same k l && false) (place_in k later) ∙ sym (and_false (same k l))
hit (delete l) (update (ordered k w m)) later =
    has_zero-here (same k l && false) (place_in k later) ∙ sym (and_false (same k l))
hit (delete l) (commit_floor m f) later = has_zero-here false (commit_in later)
hit (update (ordered l v n)) (delete k) later =
    let counts : Bool = not (list_any (has_key l) later) in
    has_zero-here (same k l && counts) (place_in k later) ∙ (and_swap (same k l) counts
    ∙ ap (λ b. counts && b) (same-sym k l))
hit (update (ordered l v n)) (update (ordered k w m)) later =
    let counts : Bool = not (list_any (has_key l) later) in
    has_zero-here (same k l && counts) (place_in k later) ∙ (and_swap (same k l) counts
    ∙ ap (λ b. counts && b) (same-sym k l))
hit (update (ordered l v n)) (commit_floor m f) later =
    has_zero-here false (commit_in later) ∙ and_false (not (list_any (has_key l) later))
hit (commit_floor m f) (delete k) later =
    has_zero-here false (place_in k later) ∙ and_false (not (list_any is_commit later))
hit (commit_floor m f) (update (ordered k w n)) later =
    has_zero-here false (place_in k later) ∙ and_false (not (list_any is_commit later))
hit (commit_floor m f) (commit_floor n g) later =
    has_zero-here (not (list_any is_commit later)) (commit_in later) ∙ and_true (not (list_any is_commit later))

hit_any : (op : Operation) (later ops : List Operation)
    → has_zero (out (op ∷ later) ops) ≡ (is_active op later && list_any (touches op) ops)
hit_any op later [] = and_false (is_active op later)
hit_any op later (o ∷ ops) =
    has_zero-append (out_by (op ∷ later) o) (out (op ∷ later) ops)
    ∙ (ap (λ b. b || has_zero (out (op ∷ later) ops)) (hit op o later)
    ∙ (ap (λ b. (is_active op later && touches op o) || b) (hit_any op later ops)
    ∙ joined (is_active op later) (touches op o) (list_any (touches op) ops)))
  where
    joined : (a b c : Bool) → ((a && b) || (a && c)) ≡ (a && (b || c))
    joined true b c = refl
    joined false b c = refl

-- an operation counts after more came as long as none of those touches it
is_active-append : (op : Operation) (later ops : List Operation)
    → is_active op (later ++ ops) ≡ (is_active op later && not (list_any (touches op) ops))
is_active-append (delete k) later ops = refl
is_active-append (update (ordered k v n)) later ops =
    ap not (list_any-append (has_key k) later ops) ∙ not_or (list_any (has_key k) later) (list_any (has_key k) ops)
  where
    not_or : (a b : Bool) → not (a || b) ≡ (not a && not b)
    not_or true b = refl
    not_or false b = refl
is_active-append (commit_floor m f) later ops =
    ap not (list_any-append is_commit later ops) ∙ not_or (list_any is_commit later) (list_any is_commit ops)
  where
    not_or : (a b : Bool) → not (a || b) ≡ (not a && not b)
    not_or true b = refl
    not_or false b = refl

out-nil : (ops : List Operation) → out [] ops ≡ []
out-nil [] = refl
out-nil (delete k ∷ ops) = out-nil ops
out-nil (update (ordered k v n) ∷ ops) = out-nil ops
out-nil (commit_floor m f ∷ ops) = out-nil ops

-- the bits of a log that goes on
bits_out : (log ops : List Operation)
    → activity_bits (log ++ ops) ≡ cleared (activity_bits log ++ activity_bits ops) (out log ops)
bits_out [] ops = ap (cleared (activity_bits ops)) (sym (out-nil ops))
bits_out (op ∷ later) ops =
    let rest : List Bool = activity_bits later ++ activity_bits ops in
    let counts : is_active op (later ++ ops) ≡ (is_active op later && not (has_zero (out (op ∷ later) ops))) =
    is_active-append op later ops
    ∙ (as_hit (is_active op later) (list_any (touches op) ops)
    ∙ ap (λ b. is_active op later && not b) (sym (hit_any op later ops))) in
    ap (λ b. b ∷ activity_bits (later ++ ops)) counts
    ∙ (ap (λ bits. (is_active op later && not (has_zero (out (op ∷ later) ops))) ∷ bits)
    (bits_out later ops ∙ ap (cleared rest) (sym (lowered-out op later ops)))
    ∙ sym (cleared_first (is_active op later) rest (out (op ∷ later) ops)))
  where
    as_hit : (a t : Bool) → (a && not t) ≡ (a && not (a && t))
    as_hit true t = refl
    as_hit false t = refl

later_get : (op : Operation) (later : List Operation) (n : ℕ) → slice_get (op ∷ later) (n + 1) ≡ slice_get later n
later_get op later n = simp unary_clauses refl

add_suc : (n : ℕ) → n + 1 ≡ suc n
add_suc n = simp unary_clauses refl

-- the place of a key among all places
spot : (k : List ℕ) (log : List Operation)
    → unwrap_or (option_map (λ _. active_location k log ∷ []) (slice_get log (active_location k log))) []
    ≡ place_in k log
spot k [] = refl
spot k (op ∷ later) =
    elim (is_active_on k op later) as (λ b. unwrap_or (option_map (λ _. cond b 0 (active_location k later + 1) ∷ [])
    (slice_get (op ∷ later) (cond b 0 (active_location k later + 1)))) []
    ≡ cond b (0 ∷ []) (map suc (place_in k later))) [
      | true ↦ refl
      | false ↦ ap (λ found. unwrap_or (option_map (λ _. (active_location k later + 1) ∷ []) found) [])
          (later_get op later (active_location k later))
          ∙ (raised (active_location k later) (slice_get later (active_location k later)) ∙ ap (map suc) (spot k later))
    ]
  where
    raised : (n : ℕ) (found : Option Operation) → unwrap_or (option_map (λ _. (n + 1) ∷ []) found) []
        ≡ map suc (unwrap_or (option_map (λ _. n ∷ []) found) [])
    raised n None = refl
    raised n (Some op) = ap (λ m. m ∷ []) (add_suc n)

pub place_at-places_of : (k : List ℕ) (log : List Operation) → place_at (places_of log) k ≡ place_in k log
place_at-places_of k log = ap (λ found. unwrap_or found []) (value_at-places_of k log) ∙ spot k log

-- the last commit of a log that ends with it
pub commit_last : (front : List Operation) (m : Option (List ℕ)) (f : ℕ)
    → commit_in (front ++ commit_floor m f ∷ []) ≡ length front ∷ []
commit_last [] m f = refl
commit_last (op ∷ front) m f =
    ap (λ b. cond b (0 ∷ []) (map suc (commit_in (front ++ commit_floor m f ∷ [])))) (not_last op)
    ∙ ap (map suc) (commit_last front m f)
  where
    or_true : (a : Bool) → not (a || true) ≡ false
    or_true true = refl
    or_true false = refl

    not_last : (op : Operation) → (is_commit op && is_active op (front ++ commit_floor m f ∷ [])) ≡ false
    not_last (delete k) = refl
    not_last (update (ordered k v n)) = refl
    not_last (commit_floor n g) = ap not (list_any-append is_commit front (commit_floor m f ∷ []))
        ∙ or_true (list_any is_commit front)

-- what is taken out, by the places
pub taken-out : (front ops : List Operation) (m : Option (List ℕ)) (f : ℕ)
    → taken (places_of (front ++ commit_floor m f ∷ [])) (length front) ops ≡ out (front ++ commit_floor m f ∷ []) ops
taken-out front [] m f = refl
taken-out front (delete k ∷ ops) m f =
    ap (λ r. r ++ taken (places_of (front ++ commit_floor m f ∷ [])) (length front) ops)
    (place_at-places_of k (front ++ commit_floor m f ∷ []))
    ∙ ap (λ r. place_in k (front ++ commit_floor m f ∷ []) ++ r) (taken-out front ops m f)
taken-out front (update (ordered k v n) ∷ ops) m f =
    ap (λ r. r ++ taken (places_of (front ++ commit_floor m f ∷ [])) (length front) ops)
    (place_at-places_of k (front ++ commit_floor m f ∷ []))
    ∙ ap (λ r. place_in k (front ++ commit_floor m f ∷ []) ++ r) (taken-out front ops m f)
taken-out front (commit_floor n g ∷ ops) m f =
    ap (λ r. r ++ taken (places_of (front ++ commit_floor m f ∷ [])) (length front) ops)
    (sym (commit_last front m f))
    ∙ ap (λ r. commit_in (front ++ commit_floor m f ∷ []) ++ r) (taken-out front ops m f)

pub bits_grow : (front ops : List Operation) (m : Option (List ℕ)) (f : ℕ)
    → let log : List Operation = front ++ commit_floor m f ∷ [] in
    activity_bits (log ++ ops)
    ≡ cleared (activity_bits log ++ activity_bits ops) (taken (places_of log) (length front) ops)
bits_grow front ops m f =
    bits_out (front ++ commit_floor m f ∷ []) ops
    ∙ ap (cleared (activity_bits (front ++ commit_floor m f ∷ []) ++ activity_bits ops)) (sym (taken-out front ops m f))
