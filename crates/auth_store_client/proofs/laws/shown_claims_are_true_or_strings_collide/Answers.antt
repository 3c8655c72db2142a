use Rattle.std.proofs.Common.{ℕ, List, sym, subst}
use Rattle.std.specs.List.{AllByRecursion}
use Rattle.state_ops.specs.Operation.{Operation}
use Rattle.state_ops.specs.Reading.{IsOfFields}
use Rattle.state_theory.specs.Canonical.{Setting}
use Rattle.auth_store_parts.specs.History.{log_of}
use Rattle.auth_store_client.specs.Claims.{Claim, ClaimsFields, has_value, is_absent, is_active, has_range, has_slice, Shows, Terms, terms}
use Rattle.auth_store_client.specs.Soundness.{IsAlone, IsTrueOrCollides}
use Rattle.auth_store_client.specs.States.{root_of_history, setting_of_width}
use Rattle.auth_store_client.proofs.Lists.{each_so}
use Rattle.auth_store_client.proofs.laws.shown_claims_are_true_or_strings_collide.Goals as goal

pub returns : goal.returns
returns g c claim history root bytes size is_width names sound is shown =
    subst (λ (r : List ℕ). (s : Shows those claim r bytes) → IsTrueOrCollides setting those claim history r bytes s) (sym is) (by claim names) shown
  where
    key_size : ℕ
    key_size = g.K.FixedSize.SIZE

    value_size : ℕ
    value_size = g.V.FixedSize.SIZE

    setting : Setting
    setting = setting_of_width g.F.Family.merge_rule g.H.HashFunction.hash_of g.row.N

    those : Terms
    those = terms g.F.Family.merge_rule g.H.HashFunction.hash_of g.row.N g.H.Digest.FixedSize.SIZE g.F.PendingOf.is_pending
        g.F.PendingOf.pending_encoding (g.K.Read.after tt) (g.V.Read.after tt) key_size value_size

    alone : (operations : List Operation) → AllByRecursion (IsOfFields those.IsKey those.IsValue) operations
        → AllByRecursion (IsAlone key_size value_size (log_of history)) operations
    alone operations all =
        each_so (IsOfFields those.IsKey those.IsValue) (IsAlone key_size value_size (log_of history))
        (λ operation has. c.sound_histories_are_read_again.ensures.alone history operation sound has) operations all

    by : (claim : Claim) → ClaimsFields those.IsKey those.IsValue claim
        → (s : Shows those claim (root_of_history setting key_size value_size history) bytes)
        → IsTrueOrCollides setting those claim history (root_of_history setting key_size value_size history) bytes s
    by (has_value key value) names s =
        c.shown_values_are_true_or_strings_collide.ensures history key value bytes size is_width sound.states
        (c.sound_histories_are_read_again.ensures.sized history sound) sound.few names.0.0 names.1.0 s
    by (is_absent key) names s =
        c.shown_absences_are_true_or_strings_collide.ensures history key bytes size is_width sound.states
        (c.sound_histories_are_read_again.ensures.read history sound) sound.few s
    by (is_active location operation) names s =
        c.shown_operations_are_active_or_strings_collide.ensures history location operation bytes size is_width
        (c.sound_histories_are_read_again.ensures.alone history operation sound names) sound.few s
    by (has_range start operations active) names s =
        c.shown_ranges_are_true_or_strings_collide.ensures history start operations active bytes size is_width
        (alone operations names) sound.few s
    by (has_slice start operations) names s =
        c.shown_slices_are_true_or_strings_collide.ensures history start operations bytes size (alone operations names) sound.few s
