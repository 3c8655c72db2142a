-- A proof of absence whose operation is active and leaves the key out is of the honest parts: of the update of the key before, or of the last
-- commit.
use Rattle.std.proofs.Common.{◌≡◌, ◌-◌, ℕ, true, List, [], ◌∷◌, ◌++◌, length, Option, None, Some, refl, sym, ◌∙◌, ap, subst, arith}
use Rattle.std.specs.Prelude.{slice_get, unwrap_or}
use Rattle.state_ops.specs.Operation.{Operation, update, ordered, commit_floor, fixed_encoding}
use Rattle.state_ops.specs.Reading.{IsOfFields}
use Rattle.state_theory.specs.Canonical.{Setting, State}
use Rattle.state_theory.specs.Encoded.{Fits}
use Rattle.state_ops.specs.Spans.{is_in_span}
use Rattle.state_proofs.specs.Exclusion.{ExclusionParts, by_update, by_commit, proof_of, operation_of, LeavesOut}
use Rattle.state_theory.specs.Honest.{honest_parts}
use Rattle.state_theory.specs.MadeRanges.{HasActive}
use Rattle.auth_store_client.specs.Claims.{Terms, FitsExclusion}
use Rattle.auth_store_client.specs.Laws.Standing.{stands, no_room, no_room_at_all, last_commit}
use Rattle.auth_store_client.specs.Soundness.{IsAlone}
use Rattle.auth_store_client.specs.States.{state_of_history}
use Rattle.auth_store_index.specs.Near.{prev_key}
use Rattle.auth_store_parts.specs.History.{History, AreStates, active_location, activity_bits, inactivity_floor, latest_map, log_of}
use Rattle.auth_store_parts.specs.Laws.Actives.{latest-active, location-active, next-active}
use Rattle.auth_store_parts.specs.Laws.Below.{value_at_head}
use Rattle.auth_store_parts.specs.Laws.Logs.{IsState-latest_map}
use Rattle.auth_store_parts.specs.Map.{Map, next_key, value_at}
use Rattle.auth_store_client.specs.Absence.{absence_in, honest_absence_parts, last_location, last_metadata}
use Rattle.auth_store_client.specs.Laws.Absent.{closed, behind, one_more}
use Rattle.auth_store_client.proofs.OneSpan.{before_once}

-- the operation that a proof is of, and its proof within the limits
abbrev pub named : ExclusionParts → Operation
named (by_update proof key value next) = update (ordered key value next)
named (by_commit proof metadata) = commit_floor metadata proof.location

pub fits_of : (terms : Terms) (proof : ExclusionParts) → FitsExclusion terms proof
    → Fits terms.format.IsPending terms.format.width terms.format.size terms.format.most (proof_of proof)
fits_of terms (by_update proof k v n) fits = fits.0
fits_of terms (by_commit proof metadata) fits = fits.0

pub named_fields : (terms : Terms) (proof : ExclusionParts) → FitsExclusion terms proof → IsOfFields terms.IsKey terms.IsValue (named proof)
named_fields terms (by_update proof k v n) fits = (fits.1, (fits.2, fits.3))
named_fields terms (by_commit proof None) fits = (tt, omega (arith, fits.0.location))
named_fields terms (by_commit proof (Some m)) fits = (fits.1, omega (arith, fits.0.location))

pub named_is : (key_size value_size : ℕ) (proof : ExclusionParts)
    → operation_of key_size value_size proof ≡ fixed_encoding key_size value_size (named proof)
named_is key_size value_size (by_update proof key value next) = refl
named_is key_size value_size (by_commit proof metadata) = refl

-- the same metadata, where a commit is the same
same_metadata : (m n : Option (List ℕ)) (f g : ℕ) → ◌≡◌ {A = Option Operation} (Some (commit_floor m f)) (Some (commit_floor n g)) → m ≡ n
same_metadata m n f g same = ap metadata_of same
  where
    metadata_of : Option Operation → Option (List ℕ)
    metadata_of (Some (commit_floor metadata floor)) = metadata
    metadata_of _ = m

module _ (setting : Setting) (key_size value_size : ℕ) (history : History) (states : AreStates history) (asked : List ℕ) where
  abbrev state : State
  state = state_of_history key_size value_size history

  abbrev latest : Map
  latest = latest_map history

  -- where the state has a key it is not empty
  of_some : (k v : List ℕ) → value_at latest k ≡ Some v → (parts : Map → ExclusionParts) (proof : ExclusionParts)
      → ((entry : List ℕ × List ℕ) (entries : Map) → proof ≡ parts (entry ∷ entries)) → proof ≡ parts latest
  of_some k v there parts proof each = of latest refl
    where
      of : (m : Map) → latest ≡ m → proof ≡ parts latest
      of [] none = absurd (let gone : None ≡ Some v = sym (ap (λ m. value_at m k) none) ∙ there in cc)
      of (entry ∷ entries) some = each entry entries ∙ ap parts (sym some)

  -- where it has no key it is
  of_none : ((k : List ℕ) → value_at latest k ≡ None) → latest ≡ []
  of_none lacks = of latest refl
    where
      of : (m : Map) → latest ≡ m → latest ≡ []
      of [] none = none
      of (entry ∷ entries) some = absurd (let clash : Some entry.1 ≡ None =
          sym (value_at_head entry entries) ∙ (ap (λ m. value_at m entry.0) (sym some) ∙ lacks entry.0) in cc)

  pub parts_honest : (proof : ExclusionParts) → IsAlone key_size value_size (log_of history) (named proof)
      → HasActive state (proof_of proof).location (fixed_encoding key_size value_size (named proof)) → LeavesOut proof asked
      → proof_of proof ≡ honest_parts setting state (proof_of proof).location
      → proof ≡ honest_absence_parts setting key_size value_size history asked
  parts_honest (by_update proof k v n) alone active leaves honest =
      let log = log_of history in
      let at = stands key_size value_size log proof.location (update (ordered k v n)) alone active.stands in
      let value : value_at latest k ≡ Some v = latest-active k v n history proof.location states at active.active in
      let next : next_key latest k ≡ n = next-active k v n history proof.location states at active.active in
      let place : active_location k log ≡ proof.location = location-active k v n log proof.location at active.active in
      let lacks : value_at latest asked ≡ None = no_room history proof.location k v n asked states at active.active leaves.0 leaves.1 in
      let before : k ≡ prev_key latest asked =
      before_once latest asked k v (IsState-latest_map history states) value lacks
      (subst (λ end. is_in_span k end asked ≡ true) (sym next) leaves.1) in
      of_some k v value (absence_in setting key_size value_size history asked) (by_update proof k v n)
      (λ entry entries.
      ap (λ p. by_update p k v n) (honest ∙ ap (honest_parts setting state) (sym place))
      ∙ ap (λ x. by_update (honest_parts setting state (active_location k log)) k x n) (sym (ap (λ (o : Option (List ℕ)). unwrap_or o []) value))
      ∙ ap (λ x. by_update (honest_parts setting state (active_location k log)) k (unwrap_or (value_at latest k) []) x) (sym next)
      ∙ ap (λ x. by_update (honest_parts setting state (active_location x log)) x (unwrap_or (value_at latest x) []) (next_key latest x)) before)
  parts_honest (by_commit proof metadata) alone active leaves honest =
      let log = log_of history in
      let at = stands key_size value_size log proof.location (commit_floor metadata proof.location) alone active.stands in
      let none : latest ≡ [] = of_none (λ k. no_room_at_all history proof.location metadata k states at active.active) in
      let it = closed history in
      let m : Option (List ℕ) = last_metadata history in
      let floor : ℕ = inactivity_floor it.front in
      let whole : List Operation = it.front ++ commit_floor m floor ∷ [] in
      let there : slice_get whole proof.location ≡ Some (commit_floor metadata proof.location) =
      ap (λ l. slice_get l proof.location) (sym it.whole) ∙ at in
      let last = last_commit it.front m metadata floor proof.location proof.location there
      (ap (λ l. slice_get (activity_bits l) proof.location) (sym it.whole) ∙ active.active) in
      let place : last_location history ≡ proof.location =
      ap (λ (l : List Operation). length l - 1) it.whole ∙ (one_more it.front (commit_floor m floor) ∙ sym last.0) in
      let same : metadata ≡ m =
      sym (same_metadata m metadata floor proof.location (sym (behind it.front (commit_floor m floor))
      ∙ (ap (slice_get whole) (sym last.0) ∙ there))) in
      ap (λ p. by_commit p metadata) (honest ∙ ap (honest_parts setting state) (sym place))
      ∙ ap (by_commit (honest_parts setting state (last_location history))) same
      ∙ ap (absence_in setting key_size value_size history asked) (sym none)
