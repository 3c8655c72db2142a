use Rattle.std.proofs.Common.{◌<◌, List, [], arith}
use Rattle.std.proofs.lemmas.Nat.{pow_pos}
use Rattle.std.specs.Prelude.{slice_index_or}
use Rattle.state_theory.specs.Canonical.{Setting}
use Rattle.state_theory.specs.Honest.{honest_parts}
use Rattle.state_theory.specs.Verified.{shown_alone}
use Rattle.state_theory.proofs.Alone.{honest_wide, honest_shaped, honest_range_there, honest_active}
use Rattle.state_proofs.proofs.laws.honest_proofs_verify.Goals as goal

pub returns : goal.returns
returns g c hash width grafting_height state location whole low few within is_active =
    let setting : Setting = record {
      rule = g.F.Family.merge_rule;
      hash = hash;
      width = width;
      grafting_height =
          grafting_height;
    } in
    let some : 0 < width = omega (arith, whole, pow_pos grafting_height) in
    record {
      active = honest_active setting state location some within is_active;
      shows = c.honest_ranges_verify.ensures hash width grafting_height state
          (shown_alone (honest_parts setting state location) (slice_index_or state.operations location [])) whole low few
          (honest_wide setting state location some within) (honest_shaped setting state location some within)
          (honest_range_there setting state location some within);
    }
