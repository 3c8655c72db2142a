use Rattle.state_theory.specs.Canonical.{Setting}
use Rattle.state_theory.proofs.RangeIsTrue.{range_is_true}
use Rattle.state_proofs.proofs.laws.verified_ranges_are_the_states_or_strings_collide.Goals as goal

pub returns : goal.returns
returns g c hash width grafting_height state proof shown hash_sized whole low few wide sized verifies =
    let setting : Setting = record {
      rule = g.F.Family.merge_rule;
      hash = hash;
      width = width;
      grafting_height = grafting_height;
    } in
    range_is_true setting hash_sized state proof shown g.met.F.Family.merges_equals g.met.F.Graftable.chunks_counted whole low few
    wide sized verifies
