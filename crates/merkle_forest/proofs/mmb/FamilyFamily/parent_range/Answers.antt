use Rattle.std.proofs.Common.{◌≡◌, ℕ, suc, ◌+◌, subst, sym, ◌∙◌, arith}
use Rattle.std.proofs.lemmas.Bool.{eqb-true, eqb-false}
use Rattle.std.specs.List.{range_with_len}
use Rattle.std.specs.Int.RustNames.{count_ones}
use Rattle.merkle_forest.specs.Forest.{mmb_rule}
use Rattle.merkle_forest.specs.Nodes.{AreParents}
use Rattle.merkle_forest.specs.Laws.MmbParents.{parents-mmb, low-mmb}
use Rattle.merkle_forest.proofs.mmb.FamilyFamily.parent_range.Goals as goal

from_next : (n t count : ℕ) → AreParents mmb_rule n (range_with_len (suc t) count)
    → AreParents mmb_rule n (range_with_len (t + 1) count)
from_next n t count it =
    let next : suc t ≡ t + 1 = omega arith in subst (λ k. AreParents mmb_rule n (range_with_len k count)) next it

pub returns-then-is_power_of_two-clause-parents : goal.returns-then-is_power_of_two-clause-parents
returns-then-is_power_of_two-clause-parents c =
    let single : count_ones (c.args.leaves + 2) ≡ 1 =
    eqb-true (count_ones (c.args.leaves + 2)) 1 (sym c.is_power_of_two.ensures ∙ c.if-is_power_of_two.true) in
    from_next c.args.leaves c.trailing_ones-height.result 0
    (parents-mmb c.args.leaves c.trailing_ones-height.result 0 (omega (arith, c.requires))
    c.trailing_ones-height.ensures
    (λ one. omega arith) (λ more. absurd (more single)))

pub returns-else-is_power_of_two-clause-parents : goal.returns-else-is_power_of_two-clause-parents
returns-else-is_power_of_two-clause-parents c =
    let several = eqb-false (count_ones (c.args.leaves + 2)) 1
    (sym c.is_power_of_two.ensures ∙ c.if-is_power_of_two.false) in
    from_next c.args.leaves c.trailing_ones-height.result 1
    (parents-mmb c.args.leaves c.trailing_ones-height.result 1 (omega (arith, c.requires))
    c.trailing_ones-height.ensures
    (λ one. absurd (several one)) (λ more. omega arith))

pub returns-else-is_power_of_two-clause-low : goal.returns-else-is_power_of_two-clause-low
returns-else-is_power_of_two-clause-low c =
    omega (arith, low-mmb c.args.leaves c.trailing_ones-height.result c.requires c.trailing_ones-height.ensures)
