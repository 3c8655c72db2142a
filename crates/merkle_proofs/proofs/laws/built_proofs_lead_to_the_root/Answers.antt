use Rattle.merkle_theory.proofs.BuiltRoots.{built_root}
use Rattle.merkle_proofs.proofs.laws.built_proofs_lead_to_the_root.Goals as goal

pub returns : goal.returns
returns g c hash bagging elements inactive start stop few some within enough =
    built_root g.F.Family.merge_rule g.met.F.Family.merges_equals hash bagging elements inactive start stop few some within enough
