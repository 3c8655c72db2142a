use Rattle.std.proofs.Common.{refl}
use Rattle.state_theory.specs.Canonical.{Setting}
use Rattle.state_theory.specs.Honest.{honest_parts}
use Rattle.state_theory.specs.Laws.HonestSizes.{honest_fits}
use Rattle.state_proofs.proofs.laws.honest_bytes_show_the_operation.Goals as goal

pub returns : goal.returns
returns g c width grafting_height state location whole low few within is_active =
    let setting : Setting = record {
      rule = g.F.Family.merge_rule;
      hash = g.H.HashFunction.hash_of;
      width =
          width;
      grafting_height = grafting_height;
    } in
    record {
      proof = honest_parts setting state location;
      is = refl;
      fits = honest_fits setting state location g.H.Digest.FixedSize.SIZE g.F.PendingOf.is_pending
          g.met.F.Family.merges_equals g.met.H.HashFunction.sized
          c.honest_digests_are_few.ensures g.met.F.PendingOf.none_pending g.met.F.PendingOf.some_pending whole low
          few within;
      verifies = c.honest_proofs_verify.ensures g.H.HashFunction.hash_of width grafting_height state location whole
          low few within is_active;
    }
