use Rattle.std.proofs.Common.{ℕ, List, sym, subst}
use Rattle.state_theory.specs.Canonical.{Setting}
use Rattle.auth_store_client.specs.Claims.{Claim, ClaimsFields, has_value, is_absent, is_active, has_range, has_slice, Shows, Terms, terms}
use Rattle.auth_store_client.specs.Soundness.{AreOrCollide}
use Rattle.auth_store_client.specs.States.{root_of_history, setting_of_width}
use Rattle.auth_store_client.specs.HonestBytes.{honest_bytes}
use Rattle.auth_store_client.proofs.laws.shown_claims_are_honest_or_strings_collide.Goals as goal

pub returns : goal.returns
returns g c claim history root bytes size is_width names sound is shown =
    subst (λ (r : List ℕ). (s : Shows those claim r bytes) → AreOrCollide setting those claim history (honest claim) r bytes s) (sym is)
    (by claim names) shown
  where
    key_size : ℕ
    key_size = g.K.FixedSize.SIZE

    value_size : ℕ
    value_size = g.V.FixedSize.SIZE

    setting : Setting
    setting = setting_of_width g.F.Family.merge_rule g.H.HashFunction.hash_of g.row.N

    those : Terms
    those = terms g.F.Family.merge_rule g.H.HashFunction.hash_of g.row.N g.H.Digest.FixedSize.SIZE g.F.PendingOf.is_pending
        g.F.PendingOf.pending_encoding (g.K.Read.after tt) (g.V.Read.after tt) key_size value_size

    honest : Claim → List ℕ
    honest = honest_bytes g.F.PendingOf.pending_encoding setting key_size value_size history

    by : (claim : Claim) → ClaimsFields those.IsKey those.IsValue claim
        → (s : Shows those claim (root_of_history setting key_size value_size history) bytes)
        → AreOrCollide setting those claim history (honest claim) (root_of_history setting key_size value_size history) bytes s
    by (has_value key value) names s =
        c.shown_values_are_honest_or_strings_collide.ensures history key value bytes size is_width sound names.0.0 names.1.0 s
    by (is_absent key) names s = c.shown_absences_are_honest_or_strings_collide.ensures history key bytes size is_width sound s
    by (is_active location operation) names s =
        c.shown_operations_are_honest_or_strings_collide.ensures history location operation bytes size is_width sound.few s
    by (has_range start operations active) names s =
        c.shown_ranges_are_honest_or_strings_collide.ensures history start operations active bytes size is_width sound.few s
    by (has_slice start operations) names s =
        c.shown_slices_are_honest_or_strings_collide.ensures history start operations bytes size sound.few s
