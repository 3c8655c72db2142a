-- What a store's proof of absence holds.
use Rattle.std.proofs.Common.{◌≡◌, ℕ, ◌-◌, ◌<◌, ◌≤◌, subst, inl, inr, List, []}
use Rattle.std.proofs.Common.{◌∷◌, Option, None, Some, option_map, length, refl, ap, sym, ◌∙◌}
use Rattle.std.proofs.lemmas.Option.{slice_get_past}
use Rattle.std.proofs.lemmas.Bool.{cases_lt}
use Rattle.std.specs.Prelude.{IsSome, slice_get, unwrap_or}
use Rattle.state_ops.specs.Operation.{Operation}
use Rattle.state_theory.specs.Canonical.{Setting}
use Rattle.state_proofs.specs.declared.exclusion.ExclusionProof.{ExclusionProof}
use Rattle.state_proofs.specs.declared.exclusion.ExclusionProof.TheVariants.{KeyValue, Commit}
use Rattle.state_proofs.specs.declared.operation.Proof.{Proof}
use Rattle.state_proofs.specs.Exclusion.{by_commit, by_update}
use Rattle.state_proofs.specs.ExclusionCode.{IsExclusionValue, form_exclusion_of}
use Rattle.state_theory.specs.Honest.{honest_parts}
use Rattle.auth_store_parts.specs.Map.{Map, next_key, state_of, value_at}
use Rattle.auth_store_parts.specs.History.{AreStates, active_location, history_of, last_floor, latest_map, log_of, update_fields}
use Rattle.auth_store_parts.specs.Places.{places_of}
use Rattle.auth_store_parts.specs.Laws.Places.{place_found}
use Rattle.auth_store_client.specs.States.{state_of_log}
use Rattle.auth_store_index.specs.Near.{prev_key}
use Rattle.auth_store_index.specs.Readings.{state_read}
use Rattle.auth_store_index.specs.Sources.{value_there}
use Rattle.auth_store_index.specs.Laws.Sourced.{state_of-read}
use Rattle.auth_store_client.specs.Absence.{NamesFields, honest_absence_parts, metadata_in}
use Rattle.auth_store_client.specs.Laws.Absent.{latest_read, named_before, named_last, some_field}
use Rattle.auth_store_ledger.specs.Laws.Places.{active_behind}

-- what is written of keys and values are fields
pub names_fields : {F K E D C P A V B : Type 0} (chunk : C → List ℕ) (key : K → List ℕ) (value : V → List ℕ) (digest : D → List ℕ)
    (held : P → Option (List ℕ)) (is_proof : Proof F D C P → Type 0) (is_key : K → Type 0) (is_value : V → Type 0)
    (IsKey IsValue : List ℕ → Type 0) → ((k : K) → is_key k → IsKey (key k)) → ((v : V) → is_value v → IsValue (value v))
    → (proof : ExclusionProof F K E D C P A V B) → IsExclusionValue is_proof is_key is_value proof
    → NamesFields IsKey IsValue (form_exclusion_of chunk key value digest held proof)
names_fields chunk key value digest held is_proof is_key is_value IsKey IsValue key_field value_field (KeyValue proof u) is =
    (key_field u.key is.1.0, value_field u.value is.1.1.0, key_field u.next_key is.1.1.1)
names_fields chunk key value digest held is_proof is_key is_value IsKey IsValue key_field value_field (Commit proof metadata) is =
    some_field value is_value IsValue value_field metadata is.1

-- an update that stands at a location is found there
pub is_found : {X : Type 0} (fields : X → List ℕ × List ℕ) (found : Option X) (there : Option (List ℕ × List ℕ))
    → option_map fields found ≡ there → (there ≡ None → ⊥) → IsSome found
is_found fields None there is some = absurd (some (sym is))
is_found fields (Some update) there is some = refl

-- the update at the location of its key stands behind the floor
pub update_behind : (log : List Operation) (key : List ℕ) (place : ℕ) (fields : List ℕ × List ℕ) → AreStates (history_of log)
    → log ≡ log_of (history_of log) → active_location key log ≡ place → update_fields (slice_get log place) ≡ Some fields
    → last_floor log ≤ place
update_behind log key place fields states whole at is =
    subst (λ (n : ℕ). last_floor log ≤ n) at
    (active_behind key log fields states whole (ap (λ (n : ℕ). update_fields (slice_get log n)) at ∙ is))

-- an update is found in the log
pub update_within : (log : List Operation) (place : ℕ) (fields : List ℕ × List ℕ) → update_fields (slice_get log place) ≡ Some fields
    → place < length log
update_within log place fields is = elim (cases_lt place (length log)) [
  | inl lt ↦ lt
  | inr le ↦ absurd
      (let gone : ◌≡◌ {A = Option (List ℕ × List ℕ)} None (Some fields) = sym (ap update_fields (slice_get_past log place le)) ∙ is in cc)
]

-- with these fields
pub fields_found : (value next other end : List ℕ) → ◌≡◌ {A = Option (List ℕ × List ℕ)} (Some (value, next)) (Some (other, end))
    → (value ≡ other) × (next ≡ end)
fields_found value next other end is = (
  ap (λ (o : Option (List ℕ × List ℕ)). (unwrap_or o (value, next)).0) is,
  ap (λ (o : Option (List ℕ × List ℕ)). (unwrap_or o (value, next)).1) is,
)

-- The update at a place of a log is what the honest proof that a key is absent holds, under this key.
pub record IsNamed (setting : Setting) (key_size value_size : ℕ) (log : List Operation) (asked before : List ℕ) (place : ℕ) : Type 0 where
  pub value : List ℕ
  pub next : List ℕ
  pub stands : update_fields (slice_get log place) ≡ Some (value, next)
  pub at : active_location before log ≡ place
  pub parts : honest_absence_parts setting key_size value_size (history_of log) asked
      ≡ by_update (honest_parts setting (state_of_log key_size value_size log) place) before value next

module _ (setting : Setting) (key_size value_size : ℕ) (log : List Operation) (states : AreStates (history_of log))
    (whole : log ≡ log_of (history_of log)) where
  -- the update at the place of the entry before the key
  pub is_named : {K : Type 0} (key : K → List ℕ) (entries : List (K × ℕ)) (asked before : List ℕ) (place : ℕ)
      → state_of key (λ n. n ∷ []) entries ≡ places_of log
      → ((value : ℕ → List ℕ) → (before ≡ prev_key (state_of key value entries) asked)
      × (value_at (state_of key value entries) before ≡ Some (value place)))
      → IsNamed setting key_size value_size log asked before place
  is_named key entries asked before place places found =
      let latest : Map = latest_map (history_of log) in
      let next : List ℕ = next_key latest before in
      let value : List ℕ = value_there log place in
      let seen : state_of key (value_there log) entries ≡ latest =
      state_of-read key log entries
      ∙ (ap (state_read log) places ∙ latest_read setting key_size value_size log states whole) in
      let here = found (value_there log) in
      let named = named_before setting key_size value_size log states whole asked before value
      (here.0 ∙ ap (λ (m : Map). prev_key m asked) seen)
      (ap (λ (m : Map). value_at m before) (sym seen) ∙ here.1) in
      let at : active_location before log ≡ place =
      place_found before log place (ap (λ (m : Map). value_at m before) (sym places) ∙ (found (λ n. n ∷ [])).1) in
      record {
        value = value;
        next = next;
        stands = ap (λ n. update_fields (slice_get log n)) (sym at) ∙ named.0;
        at = at;
        parts = named.1
            ∙ ap (λ n. by_update (honest_parts setting (state_of_log key_size value_size log) n) before value next) at;
      }

  -- the last commit, where there is no entry
  pub last_named : (asked : List ℕ) → places_of log ≡ []
      → by_commit (honest_parts setting (state_of_log key_size value_size log) (length log - 1))
      (unwrap_or (metadata_in (slice_get log (length log - 1))) None)
      ≡ honest_absence_parts setting key_size value_size (history_of log) asked
  last_named asked none =
      let named = named_last setting key_size value_size log states whole asked
      (sym (latest_read setting key_size value_size log states whole) ∙ ap (state_read log) none) in
      ap (λ m. by_commit (honest_parts setting (state_of_log key_size value_size log) (length log - 1)) (unwrap_or m None)) named.0
      ∙ sym named.1
