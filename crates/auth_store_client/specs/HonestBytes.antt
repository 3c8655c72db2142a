-- The honest bytes of each claim that is true of a history.
use Rattle.std.specs.Prelude.{ℕ, ◌+◌, List, length, Option}
use Rattle.state_theory.specs.Canonical.{Setting}
use Rattle.auth_store_parts.specs.History.{History}
use Rattle.auth_store_client.specs.Claims.{Claim, has_value, is_absent, is_active, has_range, has_slice}
use Rattle.auth_store_client.specs.Proving.{honest_proof, honest_operation, honest_range_bytes, honest_slice_bytes}
use Rattle.auth_store_client.specs.Absence.{honest_absence}

-- They depend on what is claimed by the key, by the location, or by the first location and how many operations there
-- are: the rest of them the history tells.
abbrev pub honest_bytes : (Option (List ℕ) → List ℕ) → Setting → ℕ → ℕ → History → Claim → List ℕ
honest_bytes pending setting key_size value_size history (has_value key value) =
    honest_proof pending setting key_size value_size history key
honest_bytes pending setting key_size value_size history (is_absent key) =
    honest_absence pending setting key_size value_size history key
honest_bytes pending setting key_size value_size history (is_active location operation) =
    honest_operation pending setting key_size value_size history location
honest_bytes pending setting key_size value_size history (has_range start operations active) =
    honest_range_bytes pending setting key_size value_size history start (start + length operations)
honest_bytes pending setting key_size value_size history (has_slice start operations) =
    honest_slice_bytes pending setting key_size value_size history start (start + length operations)
