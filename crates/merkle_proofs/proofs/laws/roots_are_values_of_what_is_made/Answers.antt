use Rattle.merkle_theory.specs.Laws.Values.{value_list}
use Rattle.merkle_proofs.proofs.laws.roots_are_values_of_what_is_made.Goals as goal

pub returns : goal.returns
returns g c hash bagging elements inactive = value_list hash bagging g.F.Family.merge_rule elements inactive
