use Rattle.merkle_theory.proofs.HonestReads.{range_read}
use Rattle.merkle_proofs.proofs.laws.proofs_that_agree_with_a_root_are_honest.Goals as goal

pub returns : goal.returns
returns g c = range_read g.F.Family.merge_rule
