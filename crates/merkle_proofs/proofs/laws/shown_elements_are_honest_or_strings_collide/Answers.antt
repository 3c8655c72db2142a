use Rattle.merkle_theory.specs.Laws.MadeTrees.{all_sized}
use Rattle.merkle_proofs.proofs.HonestMany.{multi_honest}
use Rattle.merkle_proofs.proofs.laws.shown_elements_are_honest_or_strings_collide.Goals as goal

pub returns : goal.returns
returns g c hash size bagging elements inactive leaf_total shown_inactive shown digests hash_sized sized few few_inactive =
    multi_honest hash size hash_sized bagging g.F.Family.merge_rule g.met.F.Family.merges_equals elements inactive few few_inactive leaf_total
    shown_inactive shown digests (all_sized size digests sized)
