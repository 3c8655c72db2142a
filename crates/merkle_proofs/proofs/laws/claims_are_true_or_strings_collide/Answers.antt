use Rattle.merkle_theory.specs.Laws.MadeTrees.{all_sized}
use Rattle.merkle_theory.specs.Laws.Sound.{plain_sound}
use Rattle.merkle_proofs.proofs.laws.claims_are_true_or_strings_collide.Goals as goal

pub returns : goal.returns
returns g c hash size bagging elements inactive claim sized digests few few_inactive =
    plain_sound hash size sized bagging g.F.Family.merge_rule g.met.F.Family.merges_equals elements inactive few
    few_inactive claim (all_sized size claim.digests digests)
