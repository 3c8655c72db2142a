use Rattle.state_theory.specs.Canonical.{Setting}
use Rattle.state_theory.proofs.RangeIsHonest.{range_is_honest}
use Rattle.state_proofs.proofs.laws.verified_ranges_are_honest_or_strings_collide.Goals as goal

pub returns : goal.returns
returns g c hash width grafting_height state proof shown hash_sized whole low few wide sized verifies =
    let setting : Setting = record {
      rule = g.F.Family.merge_rule;
      hash = hash;
      width = width;
      grafting_height = grafting_height;
    } in
    range_is_honest setting hash_sized state proof shown g.met.F.Family.merges_equals c.proofs_that_agree_with_a_root_are_honest.ensures whole few
    wide sized verifies
