use Rattle.std.proofs.Common.{inl, inr, ⊎_elim}
use Rattle.state_theory.specs.Canonical.{Setting}
use Rattle.state_theory.specs.Verified.{shown_alone}
use Rattle.state_theory.proofs.Alone.{parts_alone}
use Rattle.state_proofs.proofs.laws.verified_operations_are_honest_or_strings_collide.Goals as goal

pub returns : goal.returns
returns g c hash width grafting_height state proof operation hash_sized whole low few wide sized verifies =
    let setting : Setting = record {
      rule = g.F.Family.merge_rule;
      hash = hash;
      width = width;
      grafting_height = grafting_height;
    } in
    ⊎_elim (λ has. ⊎_elim (λ honest. inl (parts_alone setting state proof operation wide has honest)) inr
    (c.verified_ranges_are_honest_or_strings_collide.ensures hash width grafting_height state proof.range (shown_alone proof operation) hash_sized
    whole low few wide sized verifies.shows)) inr
    (c.verified_ranges_are_the_states_or_strings_collide.ensures hash width grafting_height state proof.range (shown_alone proof operation)
    hash_sized whole low few wide sized verifies.shows)
