-- The records of a beginning of a log, and what of it is committed.
use Rattle.std.proofs.Common.{◌≡◌, ℕ, zero, suc, ◌+◌, ◌-◌, ◌*◌, ◌/◌, ◌<◌, ◌≤◌, Bool, true, false, cond, List, [], ◌∷◌}
use Rattle.std.proofs.Common.{◌++◌, map, length, take, drop}
use Rattle.std.proofs.Common.{refl, sym, ◌∙◌, ap, subst, ◌⊎◌, inl, inr, ⊎_elim, min, append_assoc, arith}
use Rattle.std.specs.Prelude.{is_some, ◌||◌}
use Rattle.std.specs.List.{list_any}
use Rattle.std.proofs.lemmas.Bool.{cases_lt, cases_Bool, or_parts}
use Rattle.std.proofs.lemmas.List.{append-nil, take-append-drop, take-append-le, take_all, take_min, take-take}
use Rattle.std.proofs.lemmas.List.{drop-take, length-append, length-take}
use Rattle.std.proofs.lemmas.List.{length-take-le}
use Rattle.std.proofs.lemmas.Nat.{div-mul-add}
use Rattle.std.proofs.lemmas.List.Folds.{list_any-append}
use Rattle.std.proofs.lemmas.Grind.{flat_map-append}
use Rattle.std.proofs.Math.Seq.{take-append-add, take-append_seam, drop-append_seam, take-length}
use Rattle.std.proofs.Math.Nat.{le-div_iff_mul-le, div-mul-le_self, div-eq_of_eq-mul_left, lt-div-mul-add}
use Rattle.std.proofs.Math.Nat.{le_of_mul-le-mul_right, mul-le-mul_right}
use Rattle.state_ops.specs.Operation.{Operation, delete, update, ordered, commit_floor}
use Rattle.auth_store_parts.specs.Map.{Map, value_at, next_key}
use Rattle.auth_store_parts.specs.History.{History, Commit, latest_map, log_of, deletes, updates, is_kept}
use Rattle.auth_store_parts.specs.History.{batch_operations, inactivity_floor, is_commit}
use Rattle.auth_store_log.specs.Records.{Format, record_size, record_of, is_commit_found, is_commit_record, pieces}
use Rattle.auth_store_log.specs.Records.{whole_records, up_to_last, committed}
use Rattle.auth_store_log.specs.Records.{log_bytes, history_bytes, IsRecorded, AreRecorded}

or_false : (a b : Bool) → b ≡ false → (a || b) ≡ a
or_false true b none = refl
or_false false b none = none

or_true : (a b : Bool) → b ≡ true → (a || b) ≡ true
or_true true b is = refl
or_true false b is = is

module _ {A : Type 0} (passes : A → Bool) where
  none_passes : (xs : List A) → list_any passes xs ≡ false → up_to_last passes xs ≡ 0
  none_passes [] none = refl
  none_passes (x ∷ xs) none = ap (λ b. cond b (suc (up_to_last passes xs)) 0) none

  any_last : (xs : List A) (x : A) → passes x ≡ true → list_any passes (xs ++ x ∷ []) ≡ true
  any_last [] x is = or_false (passes x) false refl ∙ is
  any_last (y ∷ xs) x is = or_true (passes y) (list_any passes (xs ++ x ∷ [])) (any_last xs x is)

  pub last_passes : (xs : List A) (x : A) → passes x ≡ true → up_to_last passes (xs ++ x ∷ []) ≡ suc (length xs)
  last_passes [] x is = ap (λ b. cond b (suc 0) 0) (any_last [] x is)
  last_passes (y ∷ xs) x is =
      ap (λ b. cond b (suc (up_to_last passes (xs ++ x ∷ []))) 0) (any_last (y ∷ xs) x is)
      ∙ ap suc (last_passes xs x is)

  pub then_none : (xs ys : List A) → list_any passes ys ≡ false → up_to_last passes (xs ++ ys) ≡ up_to_last passes xs
  then_none [] ys none = none_passes ys none
  then_none (x ∷ xs) ys none =
      let any : list_any passes (xs ++ ys) ≡ list_any passes xs =
      list_any-append passes xs ys ∙ or_false (list_any passes xs) (list_any passes ys) none in
      ap (λ b. cond (passes x || b) (suc (up_to_last passes (xs ++ ys))) 0) any
      ∙ ap (λ n. cond (list_any passes (x ∷ xs)) (suc n) 0) (then_none xs ys none)

  pub up_to_last-le : (xs : List A) → up_to_last passes xs ≤ length xs
  up_to_last-le [] = omega arith
  up_to_last-le (x ∷ xs) = by (list_any passes (x ∷ xs)) (up_to_last-le xs)
    where
      by : (b : Bool) → up_to_last passes xs ≤ length xs → cond b (suc (up_to_last passes xs)) 0 ≤ suc (length xs)
      by true earlier = omega (arith, earlier)
      by false earlier = omega arith

  -- none passes behind the last one that does
  behind_last : (xs : List A) → list_any passes (drop (up_to_last passes xs) xs) ≡ false
  behind_last [] = refl
  behind_last (x ∷ xs) =
      let P : Bool → List A = λ b. drop (cond b (suc (up_to_last passes xs)) 0) (x ∷ xs) in
      ⊎_elim
      (λ some. ap (λ b. list_any passes (P b)) some ∙ behind_last xs)
      (λ none. ap (λ b. list_any passes (P b)) none ∙ none)
      (cases_Bool (list_any passes (x ∷ xs)))

  pub none_front : (n : ℕ) (xs : List A) → list_any passes xs ≡ false → list_any passes (take n xs) ≡ false
  none_front n xs none =
      let whole : (list_any passes (take n xs) || list_any passes (drop n xs)) ≡ false =
      sym (list_any-append passes (take n xs) (drop n xs)) ∙ ap (list_any passes) (take-append-drop n xs) ∙ none in
      (or_parts _ _ whole).0

  -- a beginning that has the last one that passes has it as the last
  pub up_to_last-take : (n : ℕ) (xs : List A) → up_to_last passes xs ≤ n
      → up_to_last passes (take n xs) ≡ up_to_last passes xs
  up_to_last-take n xs from =
      let last = up_to_last passes xs in
      let front : List A = take last xs in
      let rest : List A = drop last xs in
      let there : length front ≡ last = length-take-le last xs (up_to_last-le xs) in
      let none = behind_last xs in
      let count : n ≡ length front + (n - last) = omega (arith, there, from) in
      let cut : take n xs ≡ front ++ take (n - last) rest =
      ap (λ l. take n l) (sym (take-append-drop last xs)) ∙ ap (λ k. take k (front ++ rest)) count
      ∙ take-append-add front rest (n - last) in
      ap (up_to_last passes) cut ∙ then_none front (take (n - last) rest) (none_front (n - last) rest none)
      ∙ sym (then_none front rest none) ∙ ap (up_to_last passes) (take-append-drop last xs)

-- the pieces of a beginning are the first of the pieces
pieces-take : (size count more n : ℕ) (bytes : List ℕ) → count * size ≤ n → count ≤ more
    → pieces size count (take n bytes) ≡ take count (pieces size more bytes)
pieces-take size zero more n bytes within fewer = refl
pieces-take size (suc count) zero n bytes within fewer = absurd (omega (arith, fewer))
pieces-take size (suc count) (suc more) n bytes within fewer =
    let split : n ≡ size + (n - size) = omega (arith, within) in
    let rest : drop size (take n bytes) ≡ take (n - size) (drop size bytes) =
    ap (λ k. drop size (take k bytes)) split ∙ drop-take size (n - size) bytes in
    ap (λ l. l ∷ pieces size count (drop size (take n bytes))) (take-take size n bytes (omega (arith, within)))
    ∙ ap (λ l. take size bytes ∷ pieces size count l) rest
    ∙ ap (λ l. take size bytes
    ∷ l) (pieces-take size count more (n - size) (drop size bytes) (omega (arith, within)) (omega (arith, fewer)))

-- no operation of a batch is a commit
deletes_none : (es new : Map) → list_any is_commit (deletes es new) ≡ false
deletes_none [] new = refl
deletes_none (e ∷ es) new = elim (is_some (value_at new e.0)) as
    (λ b. list_any is_commit (cond b [] (delete e.0 ∷ []) ++ deletes es new) ≡ false) [
      | true ↦ deletes_none es new
      | false ↦ deletes_none es new
    ]

updates_none : (es old new : Map) → list_any is_commit (updates es old new) ≡ false
updates_none [] old new = refl
updates_none (e ∷ es) old new = elim (is_kept old new e.0 e.1) as
    (λ b. list_any is_commit (cond b [] (update (ordered e.0 e.1 (next_key new e.0)) ∷ []) ++ updates es old new)
    ≡ false) [
      | true ↦ updates_none es old new
      | false ↦ updates_none es old new
    ]

pub batch_none : (old new : Map) → list_any is_commit (batch_operations old new) ≡ false
batch_none old new =
    list_any-append is_commit (deletes old new) (updates new old new)
    ∙ or_false (list_any is_commit (deletes old new)) (list_any is_commit (updates new old new))
    (updates_none new old new)
    ∙ deletes_none old new

-- the last operation of the log of a history is a commit
pub log_ends : (history : History) → up_to_last is_commit (log_of history) ≡ length (log_of history)
log_ends [] = refl
log_ends (commit ∷ history) =
    let log = log_of history in
    let changes = batch_operations (latest_map history) commit.map in
    let last : Operation = commit_floor commit.metadata (inactivity_floor (log ++ changes)) in
    let parts : (log ++ changes) ++ last ∷ [] ≡ log_of (commit ∷ history) = append_assoc log changes (last ∷ []) in
    ap (up_to_last is_commit) (sym parts) ∙ last_passes is_commit (log ++ changes) last refl
    ∙ omega (arith, length-append (log ++ changes) (last ∷ []), ap length parts)

mul_above : (n m : ℕ) → 0 < m → n < (n / m + 1) * m
mul_above n m some = let above = lt-div-mul-add {a = n} {b = m} some in omega (arith, above)

count_within : (n count size len : ℕ) → n * size ≤ len → len ≤ count * size → 0 < size → n ≤ count
count_within n count size len low high some = le_of_mul-le-mul_right {k = size} (omega (arith, low, high)) some

times_within : (m n size len : ℕ) → m ≤ n → n * size ≤ len → m * size ≤ len
times_within m n size len fewer low = let more = mul-le-mul_right {m = m} {n = n} size fewer in omega (arith, more, low)

pub length-pieces : (size count : ℕ) (bytes : List ℕ) → length (pieces size count bytes) ≡ count
length-pieces size zero bytes = refl
length-pieces size (suc count) bytes = ap suc (length-pieces size count (drop size bytes))

module _ (format : Format) where
  some_size : 0 < record_size format
  some_size = omega arith

  commit_again : (operation : Operation) → IsRecorded format operation
      → is_commit_record format (record_of format operation) ≡ is_commit operation
  unfolding is_commit_record
  commit_again operation is = ap is_commit_found is.again

  any_recorded : (log : List Operation) → AreRecorded format log
      → list_any (is_commit_record format) (map (record_of format) log) ≡ list_any is_commit log
  any_recorded [] are = refl
  any_recorded (operation ∷ log) are =
      ap (λ b. b || list_any (is_commit_record format) (map (record_of format) log)) (commit_again operation are.0)
      ∙ ap (λ b. is_commit operation || b) (any_recorded log are.1)

  last_recorded : (log : List Operation) → AreRecorded format log
      → up_to_last (is_commit_record format) (map (record_of format) log) ≡ up_to_last is_commit log
  last_recorded [] are = refl
  last_recorded (operation ∷ log) are =
      ap (λ b. cond b (suc (up_to_last (is_commit_record format) (map (record_of format) log))) 0)
      (any_recorded (operation ∷ log) are)
      ∙ ap (λ n. cond (list_any is_commit (operation ∷ log)) (suc n) 0) (last_recorded log are.1)

  are_front : (n : ℕ) (log : List Operation) → AreRecorded format log → AreRecorded format (take n log)
  are_front zero log are = tt
  are_front (suc n) [] are = tt
  are_front (suc n) (operation ∷ log) are = (are.0, are_front n log are.1)

  pub log_sized : (log : List Operation) → AreRecorded format log
      → length (log_bytes format.key_size format.value_size log) ≡ length log * record_size format
  log_sized [] are = omega arith
  log_sized (operation ∷ log) are =
      let bytes = log_bytes format.key_size format.value_size log in
      let earlier = log_sized log are.1 in
      length-append (record_of format operation) bytes ∙ omega (arith, are.0.sized, earlier)

  -- the records of a log and more bytes behind it
  log_pieces : (log : List Operation) (rest : List ℕ) → AreRecorded format log
      → pieces (record_size format) (length log) (log_bytes format.key_size format.value_size log ++ rest)
      ≡ map (record_of format) log
  log_pieces [] rest are = refl
  log_pieces (operation ∷ log) rest are =
      let size = record_size format in
      let front = record_of format operation in
      let bytes = log_bytes format.key_size format.value_size log in
      let more : List ℕ = bytes ++ rest in
      let parts : (front ++ bytes) ++ rest ≡ front ++ more = append_assoc front bytes rest in
      let first : take size (front ++ more) ≡ front =
      ap (λ n. take n (front ++ more)) (sym are.0.sized) ∙ take-append_seam front more in
      let behind : drop size (front ++ more) ≡ more = ap (λ n. drop n (front ++ more)) (sym are.0.sized)
      ∙ drop-append_seam front more in
      ap (pieces size (suc (length log))) parts
      ∙ ap (λ l. l ∷ pieces size (length log) (drop size (front ++ more))) first
      ∙ ap (λ l. front ∷ pieces size (length log) l) behind ∙ ap (λ l. front ∷ l) (log_pieces log rest are.1)

  -- a beginning of the bytes of a log: so many operations, and a piece of the next
  log_cut : (n k : ℕ) (log : List Operation) → AreRecorded format log → n ≤ length log
      → take (n * record_size format + k) (log_bytes format.key_size format.value_size log)
      ≡ log_bytes format.key_size format.value_size (take n log)
      ++ take k (log_bytes format.key_size format.value_size (drop n log))
  log_cut n k log are within =
      let bytes : List Operation → List ℕ = log_bytes format.key_size format.value_size in
      let front = bytes (take n log) in
      let rest = bytes (drop n log) in
      let there : length front ≡ n * record_size format =
      log_sized (take n log) (are_front n log are) ∙ ap (λ m. m * record_size format) (length-take-le n log within) in
      ap (λ l. take (n * record_size format + k) (bytes l)) (sym (take-append-drop n log))
      ∙ ap (take (n * record_size format + k)) (flat_map-append (record_of format) (take n log) (drop n log))
      ∙ ap (λ m. take (m + k) (front ++ rest)) (sym there) ∙ take-append-add front rest k

  pub log_front : (n : ℕ) (log : List Operation) → AreRecorded format log → n ≤ length log
      → take (n * record_size format) (log_bytes format.key_size format.value_size log)
      ≡ log_bytes format.key_size format.value_size (take n log)
  log_front n log are within =
      let bytes : List Operation → List ℕ = log_bytes format.key_size format.value_size in
      let none : n * record_size format ≡ n * record_size format + 0 = omega arith in
      ap (λ m. take m (bytes log)) none ∙ log_cut n 0 log are within ∙ append-nil (bytes (take n log))

  -- what of a beginning of the bytes of a log is committed
  pub committed_front : (len : ℕ) (log : List Operation) → AreRecorded format log
      → len ≤ length (log_bytes format.key_size format.value_size log)
      → committed format (take len (log_bytes format.key_size format.value_size log))
      ≡ log_bytes format.key_size format.value_size
      (take (up_to_last is_commit (take (len / record_size format) log)) log)
  unfolding committed whole_records
  committed_front len log are within =
      let size = record_size format in
      let bytes : List Operation → List ℕ = log_bytes format.key_size format.value_size in
      let n = len / size in
      let k = len - n * size in
      let low = div-mul-le_self len size in
      let some : 0 < size = some_size in
      let high : len < (n + 1) * size = mul_above len size some in
      let sized = log_sized log are in
      let few : n ≤ length log = count_within n (length log) size len low (omega (arith, within, sized)) some in
      let front : List Operation = take n log in
      let rest : List ℕ = take k (bytes (drop n log)) in
      let here = are_front n log are in
      let many : length front ≡ n = length-take-le n log few in
      let part : length rest < size = omega (arith, length-take k (bytes (drop n log)), high, low) in
      let cut : take len (bytes log) ≡ bytes front ++ rest = ap (λ m. take m (bytes log)) {x = len} {y = n * size
      + k} (omega (arith, low))
      ∙ log_cut n k log are few in
      let long : length (bytes front ++ rest) ≡ n * size + length rest =
      length-append (bytes front) rest ∙ ap (λ m. m + length rest) (log_sized front here ∙ ap (λ m. m * size) many) in
      let count : length (bytes front ++ rest) / size ≡ length front =
      ap (λ m. m / size) long ∙ div-mul-add n size (length rest) part ∙ sym many in
      let records : whole_records format (take len (bytes log)) ≡ map (record_of format) front =
      ap (whole_records format) cut ∙ ap (λ m. pieces size m (bytes front ++ rest)) count
      ∙ log_pieces front rest here in
      let last = up_to_last is_commit front in
      let found : up_to_last (is_commit_record format) (whole_records format (take len (bytes log))) ≡ last =
      ap (up_to_last (is_commit_record format)) records ∙ last_recorded front here in
      let fewer = up_to_last-le is_commit front in
      let reach : last * size ≤ len = times_within last n size len (omega (arith, fewer, many)) low in
      ap (λ m. take (m * size) (take len (bytes log))) found ∙ take-take (last * size) len (bytes log) reach
      ∙ log_front last log are (omega (arith, fewer, many, few))

  -- the log of a history is committed, all of it
  pub committed_whole : (history : History) → AreRecorded format (log_of history)
      → committed format (history_bytes format history) ≡ history_bytes format history
  committed_whole history are =
      let log = log_of history in
      let size = record_size format in
      let bytes = history_bytes format history in
      let whole : take (length bytes) bytes ≡ bytes = take-length bytes in
      let count : length bytes / size ≡ length log = div-eq_of_eq-mul_left some_size (log_sized log are) in
      ap (committed format) (sym whole) ∙ committed_front (length bytes) log are (omega arith)
      ∙ ap (λ n. log_bytes format.key_size format.value_size (take (up_to_last is_commit (take n log)) log)) count
      ∙ ap (λ l. log_bytes format.key_size format.value_size (take (up_to_last is_commit l) log)) (take-length log)
      ∙ ap (λ n. log_bytes format.key_size format.value_size (take n log)) (log_ends history)
      ∙ ap (log_bytes format.key_size format.value_size) (take-length log)

  -- of a log with a commit on the way, either the log before it is committed or all of it
  pub committed_history : (history : History) (commit : Commit) (len : ℕ)
      → AreRecorded format (log_of (commit ∷ history))
      → length (history_bytes format history) ≤ len → len ≤ length (history_bytes format (commit ∷ history))
      → (committed format (take len (history_bytes format (commit ∷ history))) ≡ history_bytes format history)
      ⊎ (committed format (take len (history_bytes format (commit ∷ history)))
      ≡ history_bytes format (commit ∷ history))
  committed_history history commit len are from within =
      let log = log_of history in
      let changes = batch_operations (latest_map history) commit.map in
      let last : Operation = commit_floor commit.metadata (inactivity_floor (log ++ changes)) in
      let added : List Operation = changes ++ last ∷ [] in
      let all : List Operation = log ++ added in
      let size = record_size format in
      let bytes : List Operation → List ℕ = log_bytes format.key_size format.value_size in
      let n = len / size in
      let cut = committed_front len all are within in
      let front : AreRecorded format log = subst (AreRecorded format) (take-append_seam log added)
      (are_front (length log) all are) in
      let begun : length log ≤ n = (le-div_iff_mul-le {k = size} {x = length log} {y = len} some_size).1 (omega (
        arith,
        from,
        log_sized log front,
      )) in
      let k = n - length log in
      let more : n ≡ length log + k = omega (arith, begun) in
      let shown : take n all ≡ log ++ take k added = ap (λ m. take m all) more ∙ take-append-add log added k in
      let many : length added ≡ length changes + 1 = length-append changes (last ∷ []) in
      ⊎_elim
      (λ part.
      let some : take k added ≡ take k changes = take-append-le k changes (last ∷ []) (omega (arith, part)) in
      let none : list_any is_commit (take k added) ≡ false =
      ap (list_any is_commit) some ∙ none_front is_commit k changes (batch_none (latest_map history) commit.map) in
      let found : up_to_last is_commit (take n all) ≡ length log =
      ap (up_to_last is_commit) shown ∙ then_none is_commit log (take k added) none ∙ log_ends history in
      inl (cut ∙ ap (λ m. bytes (take m all)) found ∙ ap bytes (take-append_seam log added)))
      (λ full.
      let reached : length all ≤ n = omega (arith, full, many, length-append log added, more) in
      let found : up_to_last is_commit (take n all) ≡ length all =
      ap (up_to_last is_commit) (take_all n all reached) ∙ log_ends (commit ∷ history) in
      inr (cut ∙ ap (λ m. bytes (take m all)) found ∙ ap bytes (take-length all)))
      (cases_lt k (length changes + 1))

  -- of the first commit, all of it or nothing
  pub committed_first : (len : ℕ) → AreRecorded format (log_of []) → len ≤ length (history_bytes format [])
      → (committed format (take len (history_bytes format [])) ≡ [])
      ⊎ (committed format (take len (history_bytes format [])) ≡ history_bytes format [])
  committed_first len are within =
      let size = record_size format in
      let n = len / size in
      let bytes : List Operation → List ℕ = log_bytes format.key_size format.value_size in
      let cut = committed_front len (log_of []) are within in
      ⊎_elim
      (λ part. let none : n ≡ 0 = omega (arith, part) in
      inl (cut ∙ ap (λ m. bytes (take (up_to_last is_commit (take m (log_of []))) (log_of []))) none))
      (λ full. let found : up_to_last is_commit (take n (log_of []))
      ≡ 1 = ap (up_to_last is_commit) (take_all n (log_of []) full) in
      inr (cut ∙ ap (λ m. bytes (take m (log_of []))) found))
      (cases_lt n 1)

  -- a beginning that has all that is committed of some bytes has the same committed
  pub committed_again : (len : ℕ) (bytes : List ℕ) → length (committed format bytes) ≤ len
      → committed format (take len bytes) ≡ committed format bytes
  unfolding committed whole_records
  committed_again len bytes from =
      let size = record_size format in
      let some : 0 < size = some_size in
      let there = take len bytes in
      let records : List (List ℕ) = pieces size (length bytes / size) bytes in
      let last = up_to_last (is_commit_record format) records in
      let n = length there / size in
      let long : length there ≡ min len (length bytes) = length-take len bytes in
      let few : last ≤ length bytes / size =
      omega (arith, up_to_last-le (is_commit_record format) records, length-pieces size (length bytes / size) bytes) in
      let within : last * size
      ≤ length bytes = times_within last (length bytes / size) size (length bytes) few
      (div-mul-le_self (length bytes) size) in
      let reach : last * size ≤ len = omega (arith, from, length-take (last * size) bytes, within) in
      let low : n * size ≤ len = omega (arith, div-mul-le_self (length there) size, long) in
      let fewer : n ≤ length bytes / size =
      (le-div_iff_mul-le {k = size} {x = n} {y = length bytes} some).1 (omega (
        arith,
        div-mul-le_self (length there) size,
        long,
      )) in
      let enough : last ≤ n = (le-div_iff_mul-le {k = size} {x = last} {y = length there} some).1 (omega (
        arith,
        long,
        reach,
        within,
      )) in
      let cut : pieces size n there ≡ take n records = pieces-take size n (length bytes / size) len bytes low fewer in
      let found : up_to_last (is_commit_record format) (pieces size n there) ≡ last =
      ap (up_to_last (is_commit_record format)) cut ∙ up_to_last-take (is_commit_record format) n records enough in
      ap (λ m. take (m * size) there) found ∙ take-take (last * size) len bytes reach

  -- what is committed of some bytes is a beginning of them
  pub committed_begins : (bytes : List ℕ) → take (length (committed format bytes)) bytes ≡ committed format bytes
  unfolding committed
  committed_begins bytes =
      let reach = up_to_last (is_commit_record format) (whole_records format bytes) * record_size format in
      ap (λ n. take n bytes) (length-take reach bytes) ∙ take_min reach bytes

  pub committed-le : (bytes : List ℕ) → length (committed format bytes) ≤ length bytes
  committed-le bytes =
      omega (arith, ap length (committed_begins bytes), length-take (length (committed format bytes)) bytes)
