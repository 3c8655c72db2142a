use Rattle.std.proofs.Common.{length}
use Rattle.std.specs.Prelude.{nat_lt}
use Rattle.merkle_theory.specs.Laws.MadeTrees.{all_sized}
use Rattle.merkle_theory.specs.Laws.Sound.{plain_sound}
use Rattle.merkle_theory.specs.Reads.{claim_of}
use Rattle.merkle_theory.specs.Soundness.{IsSound, claimed_root}
use Rattle.merkle_theory.proofs.RangeRoots.{where_given}
use Rattle.merkle_proofs.proofs.laws.shown_ranges_are_true_or_strings_collide.Goals as goal

pub returns : goal.returns
returns g c hash size bagging elements inactive leaves shown_inactive start shown digests hash_sized sized few few_inactive =
    let rule = g.F.Family.merge_rule in
    let claim = claim_of bagging rule leaves shown_inactive start shown digests in
    where_given (IsSound hash bagging rule elements inactive claim) (nat_lt 0 (length shown)) (claimed_root bagging rule claim)
    (plain_sound hash size hash_sized bagging rule g.met.F.Family.merges_equals elements inactive few few_inactive claim
    (all_sized size digests sized))
