use Rattle.std.proofs.Common.{◌≡◌, ◌≤◌, ◌+◌, ◌*◌, ◌-◌, ◌^◌, ◌%◌, ◌∙◌, sym, ap, subst, arith}
use Rattle.std.proofs.lemmas.Nat.{one_shl}
use Rattle.merkle_forest.specs.Mmb.{birth, root_position}
use Rattle.merkle_forest.specs.Laws.MmbPositions.{birth-low, children-mmb}
use Rattle.merkle_forest.proofs.mmb.FamilyFamily.child_positions.Goals as goal

pub overflow_shl-middle : goal.overflow_shl-middle
overflow_shl-middle c =
    let it = children-mmb c.args.branch c.args.height c.first_leaf-first.result c.requires.0 c.requires.1 c.requires.2
    c.first_leaf-first.ensures in
    omega (arith, it.low)

pub overflow_add-middle : goal.overflow_add-middle
overflow_add-middle c =
    let it = children-mmb c.args.branch c.args.height c.first_leaf-first.result c.requires.0 c.requires.1 c.requires.2
    c.first_leaf-first.ensures in
    omega (
      arith,
      one_shl (c.args.height - 1) 64 (omega (arith, it.low)),
      birth-low (c.first_leaf-first.result + 2 ^ (c.args.height - 1)) (c.args.height - 1),
      it.born_right,
    )

pub root_position-requires : goal.root_position-requires
root_position-requires c =
    (children-mmb c.args.branch c.args.height c.first_leaf-first.result c.requires.0 c.requires.1 c.requires.2
    c.first_leaf-first.ensures).born_left

pub root_position-requires-2 : goal.root_position-requires-2
root_position-requires-2 c =
    let it = children-mmb c.args.branch c.args.height c.first_leaf-first.result c.requires.0 c.requires.1 c.requires.2
    c.first_leaf-first.ensures in
    let shift : 2 ^ (c.args.height - 1) ≡ 1 * 2 ^ (c.args.height - 1) % 2 ^ 64 =
    sym (one_shl (c.args.height - 1) 64 (omega (arith, it.low))) in
    subst (λ k. birth (c.first_leaf-first.result + k) (c.args.height - 1) ≤ 2 ^ 62) shift it.born_right

pub returns : goal.returns
returns c left right it =
    let halves = children-mmb c.args.branch c.args.height c.first_leaf-first.result left right it
    c.first_leaf-first.ensures in
    let shift : 1 * 2 ^ (c.args.height - 1) % 2 ^ 64 ≡ 2 ^ (c.args.height - 1) =
    one_shl (c.args.height - 1) 64 (omega (arith, halves.low)) in (
      c.root_position.ensures ∙ sym halves.at_left,
      c.root_position-2.ensures
          ∙ ap (λ k. root_position (c.first_leaf-first.result + k) (c.args.height - 1)) shift
          ∙ sym halves.at_right,
    )
