use Rattle.std.proofs.Common.{rules, ltb, sym, ◌∙◌, subst}
use Rattle.std.specs.List.Sorted.{IsNonDecreasingBy}
use Rattle.std.proofs.lemmas.List.Sorted.{IsPartitionPoint-from_clause, IsPartitionedBy-ltb, IsNonDecreasingBy-take, IsNonDecreasingBy-drop}
use Rattle.merkle_theory.proofs.ShownLists.{parted}
use Rattle.merkle_proofs.proofs.multi.tree.split_before.Goals as goal

pub returns-clause-before : goal.returns-clause-before
returns-clause-before g c =
    let sorted = IsPartitionedBy-ltb (λ e. e.1) _ c.args.location c.requires in
    let point = IsPartitionPoint-from_clause
    (λ e. ltb e.1 c.args.location) _ _ c.partition_point-count.ensures.partitioned sorted
    (λ a r q k. search rules) in
    c.split_at.ensures.front
    ∙ (parted (λ e. ltb e.1 c.args.location) c.args.elements.now c.partition_point-count.result
    c.partition_point-count.ensures.bound point).0

pub returns-clause-after : goal.returns-clause-after
returns-clause-after g c =
    let sorted = IsPartitionedBy-ltb (λ e. e.1) _ c.args.location c.requires in
    let point = IsPartitionPoint-from_clause
    (λ e. ltb e.1 c.args.location) _ _ c.partition_point-count.ensures.partitioned sorted
    (λ a r q k. search rules) in
    c.split_at.ensures.back
    ∙ (parted (λ e. ltb e.1 c.args.location) c.args.elements.now c.partition_point-count.result
    c.partition_point-count.ensures.bound point).1

pub returns-clause-ascend : goal.returns-clause-ascend
returns-clause-ascend g c = (
  subst (IsNonDecreasingBy (λ e. e.1)) (sym c.split_at.ensures.front)
      (IsNonDecreasingBy-take (λ e. e.1) c.partition_point-count.result c.args.elements.now c.requires),
  subst (IsNonDecreasingBy (λ e. e.1)) (sym c.split_at.ensures.back)
      (IsNonDecreasingBy-drop (λ e. e.1) c.partition_point-count.result c.args.elements.now c.requires),
)
