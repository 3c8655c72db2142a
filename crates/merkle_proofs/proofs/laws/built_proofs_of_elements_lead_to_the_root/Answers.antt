use Rattle.merkle_theory.proofs.MultiHonest.{many_root}
use Rattle.merkle_proofs.proofs.laws.built_proofs_of_elements_lead_to_the_root.Goals as goal

pub returns : goal.returns
returns g c hash bagging elements inactive locations known digests can enough of are =
    many_root hash bagging g.F.Family.merge_rule g.met.F.Family.merges_equals elements locations known digests of are inactive can enough
