use Rattle.merkle_theory.proofs.ManyDigests.{many_of_list}
use Rattle.merkle_proofs.proofs.laws.digests_of_many_are_those_of_the_list.Goals as goal

pub returns : goal.returns
returns g c node leaf_digests known positions digests of is =
    many_of_list node g.F.Family.merge_rule leaf_digests known positions digests of is
