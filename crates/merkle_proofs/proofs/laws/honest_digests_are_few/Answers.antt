use Rattle.merkle_theory.proofs.Short.{range_few}
use Rattle.merkle_proofs.proofs.laws.honest_digests_are_few.Goals as goal

pub returns : goal.returns
returns g c hash bagging digest leaf_total inactive location few within some =
    range_few hash bagging g.F.Family.merge_rule g.met.F.Family.merges_equals digest leaf_total inactive location
    within (λ first node peak. g.met.F.Graftable.few_peaks leaf_total first node few peak)
