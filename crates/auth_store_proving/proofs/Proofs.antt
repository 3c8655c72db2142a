-- What a store's proof of a key holds.
use Rattle.std.proofs.Common.{◌≡◌, ℕ, subst, List, Option, None, Some, option_map, refl, ap, sym, ◌∙◌}
use Rattle.state_ops.specs.Operation.{Operation}
use Rattle.state_theory.specs.Canonical.{Setting}
use Rattle.state_theory.specs.Honest.{key_value_proof}
use Rattle.auth_store_ledger.specs.Map.{Map, value_at, next_key, entry_of}
use Rattle.auth_store_ledger.specs.History.{History, AreStates, latest_map, log_of, history_of, active_location, active_update}
use Rattle.auth_store_ledger.specs.Store.{state_of_log}
use Rattle.auth_store_proving.specs.Proving.{IsAccepted, IsHonestAbsence, IsHonestAnswer, IsHonestUpdate, NamesRead, answer_where, proved_absent, proved_value}
use Rattle.auth_store_client.specs.Absence.{NamesFields, honest_absence, honest_absence_parts}
use Rattle.auth_store_client.specs.Claims.{Shows, Terms, has_value, is_absent}
use Rattle.auth_store_client.specs.Proving.{honest_proof}
use Rattle.auth_store_parts.specs.Laws.Actives.{active_update-log_of}
use Rattle.std.specs.Prelude.{IfSome, unwrap_or}

-- the active update of a key in a history's log names what the latest state has there
pub kept_entry : (log : List Operation) (q : List ℕ) → AreStates (history_of log) → log ≡ log_of (history_of log)
    → active_update q log ≡ entry_of (latest_map (history_of log)) q
kept_entry log q states whole = ap (active_update q) whole ∙ active_update-log_of q (history_of log) states

-- a value with the proof of the update of a key in a log
abbrev pub shown : (Option (List ℕ) → List ℕ) → Setting → ℕ → ℕ → List ℕ → List Operation → List ℕ × List ℕ → List ℕ
    × List ℕ
shown pending setting key_size value_size q log u = (
  u.0,
  key_value_proof pending setting
      (state_of_log key_size value_size log) (active_location q log) u.1,
)

-- the honest proof of a key, from the log of a history
pub honest_found : (pending : Option (List ℕ) → List ℕ) (setting : Setting) (key_size value_size : ℕ)
    (log : List Operation) (q : List ℕ) → AreStates (history_of log) → log ≡ log_of (history_of log)
    → option_map (shown pending setting key_size value_size q log) (active_update q log)
    ≡ option_map {U = List ℕ × List ℕ} (λ value. (
      value,
      honest_proof pending setting key_size value_size
          (history_of log) q,
    )) (value_at (latest_map (history_of log)) q)
honest_found pending setting key_size value_size log q states whole =
    ap (option_map (shown pending setting key_size value_size q log)) (kept_entry log q states whole)
    ∙ (ap (λ l. option_map {U = List ℕ × List ℕ} (shown pending setting key_size value_size q l)
    (entry_of (latest_map (history_of log)) q)) whole
    ∙ each (value_at (latest_map (history_of log)) q))
  where
    each : (at : Option (List ℕ)) → option_map (shown pending setting key_size value_size q (log_of (history_of log)))
        (option_map {U = List ℕ × List ℕ} (λ value. (value, next_key (latest_map (history_of log)) q)) at)
        ≡ option_map {U = List ℕ × List ℕ} (λ value. (
          value,
          honest_proof pending setting key_size value_size
              (history_of log) q,
        )) at
    each None = refl
    each (Some v) = refl

-- what holds of the next key that the active update names holds of the key's next key
pub of_next_key : (R : List ℕ → Type 0) (state : Map) (q value : List ℕ) (named : Option (List ℕ × List ℕ))
    → named ≡ entry_of state q → value_at state q ≡ Some value → IfSome named (λ x. R x.1) → R (next_key state q)
of_next_key R state q value named is there holds =
    subst (λ (x : Option (List ℕ × List ℕ)). IfSome x (λ y. R y.1))
    (is ∙ ap (option_map {U = List ℕ × List ℕ} (λ v. (v, next_key state q))) there) holds

-- a value that was found with its proof is the one that is there
pub found_entry : (proof value bytes : List ℕ) (at : Option (List ℕ))
    → ◌≡◌ {A = Option (List ℕ × List ℕ)} (Some (value, bytes)) (option_map (λ v. (v, proof)) at) → (at ≡ Some value) × (bytes ≡ proof)
found_entry proof value bytes None is = absurd (let gone : ◌≡◌ {A = Option (List ℕ × List ℕ)} (Some (value, bytes)) None = is in cc)
found_entry proof value bytes (Some v) is =
    let same : ◌≡◌ {A = Option (List ℕ × List ℕ)} (Some (value, bytes)) (Some (v, proof)) = is in (
      ap (λ (o : Option (List ℕ × List ℕ)). Some (unwrap_or o (value, bytes)).0) (sym same),
      ap (λ (o : Option (List ℕ × List ℕ)). (unwrap_or o (value, bytes)).1) same,
    )

-- where none was found, none is there
pub missing_entry : (proof : List ℕ) (at : Option (List ℕ))
    → ◌≡◌ {A = Option (List ℕ × List ℕ)} None (option_map (λ v. (v, proof)) at) → at ≡ None
missing_entry proof None is = refl
missing_entry proof (Some v) is = absurd (let gone : ◌≡◌ {A = Option (List ℕ × List ℕ)} None (Some (v, proof)) = is in cc)

-- the client accepts the honest answer of a key, where what it names are keys and values
pub honest_accepted : (terms : Terms) (root : List ℕ) (pending : Option (List ℕ) → List ℕ) (setting : Setting)
    (key_size value_size : ℕ) (history : History) (key : List ℕ) (IsKey IsValue : List ℕ → Type 0) (at : Option (List ℕ))
    → ((value : List ℕ) → at ≡ Some value → IsKey (next_key (latest_map history) key)
    → Shows terms (has_value key value) root (honest_proof pending setting key_size value_size history key))
    → (at ≡ None → NamesFields IsKey IsValue (honest_absence_parts setting key_size value_size history key)
    → Shows terms (is_absent key) root (honest_absence pending setting key_size value_size history key))
    → NamesRead IsKey IsValue setting key_size value_size history key at
    → IsAccepted terms root key (answer_where pending setting key_size value_size history key at)
honest_accepted terms root pending setting key_size value_size history key IsKey IsValue None some none names = none refl names
honest_accepted terms root pending setting key_size value_size history key IsKey IsValue (Some value) some none names =
    some value refl names

-- what is found of a key with its proof is the honest answer, which names keys
pub found_answer : (IsKey IsValue : List ℕ → Type 0) (pending : Option (List ℕ) → List ℕ) (setting : Setting)
    (key_size value_size : ℕ) (log : List Operation) (key value bytes : List ℕ) → AreStates (history_of log)
    → log ≡ log_of (history_of log)
    → IsHonestUpdate IsKey pending setting key_size value_size log key (Some (value, bytes))
    → IsHonestAnswer IsKey IsValue pending setting key_size value_size (history_of log) key (proved_value value bytes)
found_answer IsKey IsValue pending setting key_size value_size log key value bytes states whole it =
    let history : History = history_of log in
    let at : Option (List ℕ) = value_at (latest_map history) key in
    let proof : List ℕ = honest_proof pending setting key_size value_size history key in
    let found : (at ≡ Some value) × (bytes ≡ proof) =
    found_entry proof value bytes at (it.is ∙ honest_found pending setting key_size value_size log key states whole) in
    let next : IsKey (next_key (latest_map history) key) =
    of_next_key IsKey (latest_map history) key value (active_update key log) (kept_entry log key states whole) found.0 it.next in
    record {
      is = ap (proved_value value) found.1 ∙ ap (answer_where pending setting key_size value_size history key) (sym found.0);
      names = subst (λ (o : Option (List ℕ)). NamesRead IsKey IsValue setting key_size value_size history key o) (sym found.0) next;
    }

-- and so is that it is absent where none is found
pub missing_answer : (IsKey IsValue : List ℕ → Type 0) (pending : Option (List ℕ) → List ℕ) (setting : Setting)
    (key_size value_size : ℕ) (log : List Operation) (key bytes : List ℕ) → AreStates (history_of log)
    → log ≡ log_of (history_of log) → IsHonestUpdate IsKey pending setting key_size value_size log key None
    → IsHonestAbsence IsKey IsValue pending setting key_size value_size (history_of log) key bytes
    → IsHonestAnswer IsKey IsValue pending setting key_size value_size (history_of log) key (proved_absent bytes)
missing_answer IsKey IsValue pending setting key_size value_size log key bytes states whole it absence =
    let history : History = history_of log in
    let at : Option (List ℕ) = value_at (latest_map history) key in
    let none : at ≡ None =
    missing_entry (honest_proof pending setting key_size value_size history key) at
    (it.is ∙ honest_found pending setting key_size value_size log key states whole) in
    record {
      is = ap proved_absent absence.is ∙ ap (answer_where pending setting key_size value_size history key) (sym none);
      names = subst (λ (o : Option (List ℕ)). NamesRead IsKey IsValue setting key_size value_size history key o) (sym none) absence.names;
    }
