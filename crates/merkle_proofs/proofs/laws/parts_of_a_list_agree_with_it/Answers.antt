use Rattle.merkle_theory.proofs.HonestRoots.{part_agrees}
use Rattle.merkle_proofs.proofs.laws.parts_of_a_list_agree_with_it.Goals as goal

pub returns : goal.returns
returns c hash elements start count = part_agrees hash elements start count
