use Rattle.std.proofs.Common.{◌<◌, inl, inr, ⊎_elim, arith}
use Rattle.std.proofs.lemmas.Nat.{pow_pos}
use Rattle.state_theory.specs.Canonical.{Setting}
use Rattle.state_theory.specs.Verified.{shown_alone}
use Rattle.state_theory.proofs.Alone.{active_alone}
use Rattle.state_proofs.proofs.laws.verified_operations_are_active_or_strings_collide.Goals as goal

pub returns : goal.returns
returns g c hash width grafting_height state proof operation hash_sized whole low few wide sized verifies =
    let setting : Setting = record {
      rule = g.F.Family.merge_rule;
      hash = hash;
      width = width;
      grafting_height = grafting_height;
    } in
    let some : 0 < width = omega (arith, whole, pow_pos grafting_height) in
    ⊎_elim (λ has. inl (active_alone setting state proof operation some wide verifies.active has)) inr
    (c.verified_ranges_are_the_states_or_strings_collide.ensures hash width grafting_height state proof.range (shown_alone proof operation)
    hash_sized whole low few wide sized verifies.shows)
