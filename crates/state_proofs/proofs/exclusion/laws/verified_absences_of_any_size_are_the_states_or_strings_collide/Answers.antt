use Rattle.std.proofs.Common.{inl, inr, ⊎_elim}
use Rattle.state_proofs.specs.Exclusion.{proof_of, operation_as}
use Rattle.state_proofs.proofs.exclusion.laws.verified_absences_of_any_size_are_the_states_or_strings_collide.Goals as goal

pub returns : goal.returns
returns g c hash width grafting_height spelled state proof span key hash_sized whole low few wide sized it =
    ⊎_elim (λ active. inl (active, it.leaves_out)) inr
    (c.verified_operations_are_active_or_strings_collide.ensures hash width grafting_height state (proof_of proof)
    (operation_as spelled proof) hash_sized whole low few wide sized it.verifies)
