use Rattle.state_theory.specs.Laws.FewDigests.{ranges_are_few}
use Rattle.state_proofs.proofs.laws.honest_range_digests_are_few.Goals as goal

pub returns : goal.returns
returns g c hash digest leaf_total inactive start stop few some within enough =
    ranges_are_few g.F.Family.merge_rule c.honest_digests_are_few.ensures hash digest leaf_total inactive start stop
    few some within enough
