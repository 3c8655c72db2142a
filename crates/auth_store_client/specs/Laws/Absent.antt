-- What the honest proof that a key is absent holds, and that it shows this.
use Rattle.std.proofs.Common.{◌≡◌, ℕ, ◌<◌, ◌≤◌, ◌^◌, ◌-◌, true, List, [], ◌∷◌, ◌++◌, length, Some, None, Ok, Err}
use Rattle.std.proofs.Common.{Option, option_map, ⊎_elim, refl, sym, ◌∙◌, ap, subst, arith, append_assoc, length-append}
use Rattle.std.proofs.lemmas.List.{length-map}
use Rattle.std.proofs.lemmas.Option.{slice_get_within}
use Rattle.std.specs.Prelude.{IfSome, Result, slice_get, slice_index_or, unwrap_or}
use Rattle.merkle_forest.specs.Codec.{option_encoding}
use Rattle.merkle_forest.specs.declared.codec.error.Error.{Error}
use Rattle.merkle_forest.specs.Varint.{varint_at}
use Rattle.merkle_forest.specs.Laws.Varint.{varint_again}
use Rattle.state_ops.specs.Operation.{Operation, update, ordered, commit_floor, fixed_encoding}
use Rattle.state_theory.specs.Canonical.{Setting, State}
use Rattle.state_theory.specs.Encoded.{ShowsOperation, operation_proof_encoding, range_proof_encoding}
use Rattle.state_proofs.specs.Exclusion.{by_update, by_commit, exclusion_encoding}
use Rattle.state_theory.specs.Honest.{honest_parts, operation_proof}
use Rattle.state_theory.specs.Verified.{Parts, Verifies}
use Rattle.auth_store_client.specs.Claims.{Terms, ShowsAbsence}
use Rattle.auth_store_client.specs.Laws.Encodings.{encoding_at}
use Rattle.auth_store_client.specs.States.{state_of_history, state_of_log}
use Rattle.auth_store_index.specs.Near.{prev_key}
use Rattle.auth_store_index.specs.Laws.Floors.{IsActiveAt, IsUpdateAtFloor, update_at_floor}
use Rattle.auth_store_parts.specs.Laws.Actives.{StandsAt-log_of, active_update-log_of, latest-active}
use Rattle.auth_store_parts.specs.Laws.Logs.{IsState-latest_map, replayed-log_of}
use Rattle.auth_store_parts.specs.Places.{places_of}
use Rattle.auth_store_index.specs.Readings.{state_read}
use Rattle.auth_store_index.specs.Laws.Readings.{read-places_of}
use Rattle.auth_store_parts.specs.Map.{Map, next_key, value_at}
use Rattle.auth_store_parts.specs.History.{History, AreStates, activity_bits, active_location, active_update}
use Rattle.auth_store_parts.specs.History.{batch_operations, history_of, inactivity_floor, latest_map, log_of, replayed}
use Rattle.auth_store_client.specs.Absence.{NamesFields, absence_in, honest_absence, honest_absence_parts}
use Rattle.auth_store_client.specs.Absence.{last_location, last_metadata, metadata_in}
use Rattle.auth_store_client.specs.Laws.Before.{before_is_there, in_span_before}

-- ---- the commit that ends a log

-- what stands before the last commit, which records its floor
pub record Closed (history : History) : Type 0 where
  pub front : List Operation
  pub whole : log_of history ≡ front ++ commit_floor (last_metadata history) (inactivity_floor front) ∷ []

pub closed : (history : History) → Closed history
closed [] = record { front = []; whole = refl }
closed (commit ∷ history) =
    let changes : List Operation = batch_operations (latest_map history) commit.map in
    record {
      front = log_of history ++ changes;
      whole = sym (append_assoc (log_of history) changes
          (commit_floor commit.metadata (inactivity_floor (log_of history ++ changes)) ∷ []));
    }

pub behind : (front : List Operation) (op : Operation) → slice_get (front ++ op ∷ []) (length front) ≡ Some op
behind [] op = refl
behind (x ∷ front) op = behind front op

behind_active : (front : List Operation) (m : Option (List ℕ)) (f : ℕ)
    → IsActiveAt (front ++ commit_floor m f ∷ []) (length front)
behind_active [] m f = refl
behind_active (x ∷ front) m f = behind_active front m f

pub one_more : (front : List Operation) (op : Operation) → length (front ++ op ∷ []) - 1 ≡ length front
one_more front op = omega (arith, length-append front (op ∷ []))

-- the last operation is a commit with the metadata of the newest one
pub last_is_commit : (history : History)
    → metadata_in (slice_get (log_of history) (last_location history)) ≡ Some (last_metadata history)
last_is_commit history =
    let it = closed history in
    let op : Operation = commit_floor (last_metadata history) (inactivity_floor it.front) in
    ap (λ (log : List Operation). metadata_in (slice_get log (length log - 1))) it.whole
    ∙ (ap (λ n. metadata_in (slice_get (it.front ++ op ∷ []) n)) (one_more it.front op)
    ∙ ap metadata_in (behind it.front op))

-- the log has an operation
pub some_operation : (history : History) → 0 < length (log_of history)
some_operation history =
    let it = closed history in
    let op : Operation = commit_floor (last_metadata history) (inactivity_floor it.front) in
    omega (arith, ap length it.whole, length-append it.front (op ∷ []))

-- Of an empty state the last commit is active, and its floor is its own place.
record IsLast (history : History) : Type 0 where
  at : slice_get (log_of history) (last_location history)
      ≡ Some (commit_floor (last_metadata history) (last_location history))
  bit : slice_get (activity_bits (log_of history)) (last_location history) ≡ Some true

last_of_empty : (history : History) → AreStates history → latest_map history ≡ [] → IsLast history
last_of_empty history states none =
    let it = closed history in
    let m : Option (List ℕ) = last_metadata history in
    let floor : ℕ = inactivity_floor it.front in
    let log : List Operation = it.front ++ commit_floor m floor ∷ [] in
    let place : last_location history ≡ length it.front =
    ap (λ (l : List Operation). length l - 1) it.whole ∙ one_more it.front (commit_floor m floor) in
    let ended : floor ≡ length it.front = ⊎_elim (λ is. is) (λ found. absurd (no_update it.front floor it.whole found))
    (update_at_floor it.front m floor) in
    record {
      at = ap (λ (l : List Operation). slice_get l (last_location history)) it.whole
          ∙ (ap (slice_get log) place ∙ (behind it.front (commit_floor m floor)
          ∙ ap (λ f. Some (commit_floor m f)) (ended ∙ sym place)));
      bit = ap (λ (l : List Operation). slice_get (activity_bits l) (last_location history)) it.whole
          ∙ (ap (slice_get (activity_bits log)) place ∙ behind_active it.front m floor);
    }
  where
    no_update : (front : List Operation) (floor : ℕ)
        → log_of history ≡ front ++ commit_floor (last_metadata history) floor ∷ []
        → IsUpdateAtFloor front (last_metadata history) floor → ⊥
    no_update front floor whole found =
        let value : value_at (latest_map history) found.key ≡ Some found.value =
        latest-active found.key found.value found.next history (inactivity_floor front) states
        (ap (λ (l : List Operation). slice_get l (inactivity_floor front)) whole ∙ found.at)
        (ap (λ (l : List Operation). slice_get (activity_bits l) (inactivity_floor front)) whole ∙ found.bit) in
        let gone : None ≡ Some found.value = sym (ap (λ (m : Map). value_at m found.key) none) ∙ value in
        cc

-- what holds of each value's encoding holds of that of an optional one
pub some_field : {V : Type 0} (encoding : V → List ℕ) (is_value : V → Type 0) (IsValue : List ℕ → Type 0)
    → ((v : V) → is_value v → IsValue (encoding v)) → (m : Option V) → IfSome m is_value
    → IfSome (option_map encoding m) IsValue
some_field encoding is_value IsValue field None value = tt
some_field encoding is_value IsValue field (Some v) value = field v value

-- ---- what the bytes show

-- the number at the front of bytes
abbrev held : Result (ℕ × List ℕ) Error → ℕ
held (Ok found) = found.0
held (Err e) = 0

-- two encodings of proofs have one location
one_location : (pending : Option (List ℕ) → List ℕ) (p q : Parts) → p.location < 2 ^ 64 → q.location < 2 ^ 64
    → operation_proof_encoding pending p ≡ operation_proof_encoding pending q → p.location ≡ q.location
one_location pending p q low high same =
    ap held (sym (varint_again p.location (p.chunk ++ range_proof_encoding pending p.range) low)
    ∙ (ap varint_at same ∙ varint_again q.location (q.chunk ++ range_proof_encoding pending q.range) high))

module _ (terms : Terms) (setting : Setting) (history : History) (asked : List ℕ) (root : List ℕ) where
  abbrev state : State
  state = state_of_history terms.key_size terms.value_size history

  -- each active operation is shown by its honest bytes
  abbrev pub AreShown : Type 0
  AreShown = (location : ℕ) → location < length state.operations → slice_get state.bits location ≡ Some true
      → ShowsOperation terms.format root (slice_index_or state.operations location [])
      (operation_proof terms.format.pending setting state location)

  by_last : AreShown → length (log_of history) ≤ 2 ^ 62 → AreStates history → latest_map history ≡ []
      → NamesFields terms.IsKey terms.IsValue (absence_in setting terms.key_size terms.value_size history asked [])
      → ShowsAbsence terms root asked
      (exclusion_encoding terms.format.pending (absence_in setting terms.key_size terms.value_size history asked []))
  by_last shows few states none fields =
      let at = last_of_empty history states none in
      let place : ℕ = last_location history in
      let encoding : Operation → List ℕ = fixed_encoding terms.key_size terms.value_size in
      let commit : Operation = commit_floor (last_metadata history) place in
      let within : place < length (log_of history) = slice_get_within (log_of history) place commit at.at in
      let count : length state.operations ≡ length (log_of history) = length-map (log_of history) encoding in
      let shown = shows place (omega (arith, within, count)) at.bit in
      let same : place ≡ shown.proof.location = one_location terms.format.pending
      (honest_parts setting state place) shown.proof
      (omega (arith, within, few)) (omega (arith, shown.fits.location)) shown.is in
      record {
        proof = by_commit shown.proof (last_metadata history);
        is = ap (λ bytes. 2 ∷ (bytes ++ option_encoding (λ b. b) (last_metadata history))) shown.is;
        fits = (shown.fits, fields);
        excludes = record {
          leaves_out = tt;
          verifies = subst (λ n. Verifies terms.format.rule terms.format.hash root shown.proof
              (encoding (commit_floor (last_metadata history) n))) same
              (subst (Verifies terms.format.rule terms.format.hash root shown.proof)
              (encoding_at encoding (log_of history) place commit at.at) shown.verifies);
        };
      }

  by_key : AreShown → AreStates history → (entry : List ℕ × List ℕ) (entries : Map)
      → latest_map history ≡ entry ∷ entries
      → value_at (latest_map history) asked ≡ None → (value : List ℕ)
      → value_at (latest_map history) (prev_key (latest_map history) asked) ≡ Some value
      → NamesFields terms.IsKey terms.IsValue (absence_in setting terms.key_size terms.value_size history asked (entry
      ∷ entries))
      → ShowsAbsence terms root asked
      (exclusion_encoding terms.format.pending (absence_in setting terms.key_size terms.value_size history asked (entry
      ∷ entries)))
  by_key shows states entry entries some absent value there fields =
      let before : List ℕ = prev_key (latest_map history) asked in
      let next : List ℕ = next_key (latest_map history) before in
      let said : List ℕ = unwrap_or (value_at (latest_map history) before) [] in
      let is_said : value ≡ said = sym (ap (λ (o : Option (List ℕ)). unwrap_or o []) there) in
      let place : ℕ = active_location before (log_of history) in
      let encoding : Operation → List ℕ = fixed_encoding terms.key_size terms.value_size in
      let stands = StandsAt-log_of before value history states there in
      let within : place < length (log_of history) =
      slice_get_within (log_of history) place (update (ordered before value next)) stands.update_at in
      let count : length state.operations ≡ length (log_of history) = length-map (log_of history) encoding in
      let shown = shows place (omega (arith, within, count)) stands.bit_at in
      record {
        proof = by_update shown.proof before said next;
        is = ap (λ bytes. 1 ∷ (bytes ++ (before ++ (said ++ next)))) shown.is;
        fits = (shown.fits, fields.0, fields.1, fields.2);
        excludes = record {
          leaves_out = (
            λ same. let gone : None ≡ Some value = sym absent ∙ (ap (value_at (latest_map history)) same ∙ there) in cc,
            in_span_before (latest_map history) asked entry entries some (IsState-latest_map history states) absent,
          );
          verifies = subst (λ v. Verifies terms.format.rule terms.format.hash root shown.proof
              (encoding (update (ordered before v next)))) is_said
              (subst (Verifies terms.format.rule terms.format.hash root shown.proof)
              (encoding_at encoding (log_of history) place
              (update (ordered before value next)) stands.update_at) shown.verifies);
        };
      }

  -- where the latest state lacks the key, the honest bytes show it
  pub shows_absence : AreShown → length (log_of history) ≤ 2 ^ 62 → AreStates history
      → value_at (latest_map history) asked ≡ None
      → NamesFields terms.IsKey terms.IsValue
      (honest_absence_parts setting terms.key_size terms.value_size history asked)
      → ShowsAbsence terms root asked
      (honest_absence terms.format.pending setting terms.key_size terms.value_size history asked)
  shows_absence shows few states absent fields = of (latest_map history) refl fields
    where
      of : (m : Map) → latest_map history ≡ m
          → NamesFields terms.IsKey terms.IsValue (absence_in setting terms.key_size terms.value_size history asked m)
          → ShowsAbsence terms root asked
          (exclusion_encoding terms.format.pending (absence_in setting terms.key_size terms.value_size history asked m))
      of [] none fields = by_last shows few states none fields
      of (e ∷ m) some fields =
          let there = before_is_there (latest_map history) asked e m some (IsState-latest_map history states) absent in
          by_key shows states e m some absent there.0 there.1 fields

-- ---- from what a log has

module _ (setting : Setting) (key_size value_size : ℕ) (log : List Operation) (states : AreStates (history_of log))
    (whole : log ≡ log_of (history_of log)) where
  abbrev past : History
  past = history_of log

  abbrev pub parts_at : ℕ → Parts
  parts_at place = honest_parts setting (state_of_log key_size value_size log) place

  -- the state is read at the places
  pub latest_read : state_read log (places_of log) ≡ latest_map past
  latest_read = read-places_of log ∙ (ap (replayed []) whole ∙ replayed-log_of past states)

  -- the update of the key before
  pub named_before : (asked before value : List ℕ) → before ≡ prev_key (latest_map past) asked
      → value_at (latest_map past) before ≡ Some value
      → (active_update before log ≡ Some (value, next_key (latest_map past) before))
      × (honest_absence_parts setting key_size value_size past asked
      ≡ by_update (parts_at (active_location before log)) before value (next_key (latest_map past) before))
  named_before asked before value is there = (
    ap (active_update before) whole ∙ (active_update-log_of before past states
        ∙ ap (option_map {U = List ℕ × List ℕ} (λ v. (v, next_key (latest_map past) before))) there),
    of (latest_map past) refl
        ∙ (ap (λ b. by_update (honest_parts setting (state_of_history key_size value_size past)
        (active_location b (log_of past))) b
        (unwrap_or (value_at (latest_map past) b) []) (next_key (latest_map past) b)) (sym is)
        ∙ (ap (λ v. by_update (honest_parts setting (state_of_history key_size value_size past)
        (active_location before (log_of past))) before
        (unwrap_or v []) (next_key (latest_map past) before)) there
        ∙ ap (λ l. by_update (honest_parts setting (state_of_log key_size value_size l)
        (active_location before l)) before value
        (next_key (latest_map past) before)) (sym whole))),
  )
    where
      of : (m : Map) → latest_map past ≡ m → absence_in setting key_size value_size past asked m
          ≡ by_update (honest_parts setting (state_of_history key_size value_size past)
          (active_location (prev_key (latest_map past) asked) (log_of past))) (prev_key (latest_map past) asked)
          (unwrap_or (value_at (latest_map past) (prev_key (latest_map past) asked)) [])
          (next_key (latest_map past) (prev_key (latest_map past) asked))
      of [] none = absurd (let gone : None ≡ Some value = sym (ap (λ (m : Map). value_at m before) none) ∙ there in cc)
      of (e ∷ m) some = refl

  -- the last commit
  pub named_last : (asked : List ℕ) → latest_map past ≡ []
      → (metadata_in (slice_get log (length log - 1)) ≡ Some (last_metadata past))
      × (honest_absence_parts setting key_size value_size past asked
      ≡ by_commit (parts_at (length log - 1)) (last_metadata past))
  named_last asked none = (
    ap (λ l. metadata_in (slice_get l (length l - 1))) whole ∙ last_is_commit past,
    ap (absence_in setting key_size value_size past asked) none
        ∙ ap (λ l. by_commit (honest_parts setting (state_of_log key_size value_size l) (length l - 1))
        (last_metadata past)) (sym whole),
  )

  pub has_some : 0 < length log
  has_some = omega (arith, ap length whole, some_operation past)
