use Rattle.std.proofs.Common.{◌≡◌, ◌≤◌, ◌^◌, ◌+◌, ◌-◌, ℕ, ap, refl, sym, ◌∙◌, subst, arith}
use Rattle.merkle_forest.specs.Forest.{branch, height, forest_of}
use Rattle.merkle_forest.specs.Nodes.{IsNodeAt}
use Rattle.merkle_theory.proofs.Places.{Parts, parts, branch_of, parts-fit, left_position, right_position, pow_le}
use Rattle.std.proofs.lemmas.Nat.{one_shl}
use Rattle.merkle_proofs.proofs.verifying.tree.children_of.Goals as goal

pub child_positions-left-requires : goal.child_positions-left-requires
child_positions-left-requires g c =
    let it = parts g.F.Family.merge_rule c.args.subtree.first c.args.subtree.position c.args.subtree.height
    c.requires.stands.0 c.requires.stands.1 c.requires.branch in (
      it.left,
      it.right,
      branch_of g.F.Family.merge_rule c.args.subtree.first c.args.subtree.position
          c.args.subtree.height it,
    )

pub overflow_shl-middle : goal.overflow_shl-middle
overflow_shl-middle g c =
    let it = parts g.F.Family.merge_rule c.args.subtree.first c.args.subtree.position c.args.subtree.height
    c.requires.stands.0 c.requires.stands.1 c.requires.branch in
    omega (
      arith,
      (parts-fit g.F.Family.merge_rule g.met.F.Family.merges_equals c.args.subtree.first
          c.args.subtree.position c.args.subtree.height it).1,
    )

pub overflow_add-middle : goal.overflow_add-middle
overflow_add-middle g c =
    let it = parts g.F.Family.merge_rule c.args.subtree.first c.args.subtree.position c.args.subtree.height
    c.requires.stands.0 c.requires.stands.1 c.requires.branch in
    let fit = parts-fit g.F.Family.merge_rule g.met.F.Family.merges_equals c.args.subtree.first
    c.args.subtree.position c.args.subtree.height it in
    let low : 2 ^ (c.args.subtree.height - 1) ≤ 2 ^ c.args.subtree.height =
    pow_le (c.args.subtree.height - 1) c.args.subtree.height (omega arith) in
    omega (arith, one_shl (c.args.subtree.height - 1) 64 (omega (arith, fit.1)), low, fit.0)

pub returns-clause-left : goal.returns-clause-left
returns-clause-left g c =
    let it = parts g.F.Family.merge_rule c.args.subtree.first c.args.subtree.position c.args.subtree.height
    c.requires.stands.0 c.requires.stands.1 c.requires.branch in
    let both = c.child_positions-left.ensures it.left it.right
    (branch_of g.F.Family.merge_rule c.args.subtree.first c.args.subtree.position c.args.subtree.height it) in (
      it.left,
      left_position g.F.Family.merge_rule g.met.F.Family.merges_equals c.args.subtree.first
          c.args.subtree.position c.args.subtree.height _ _ it both.0 (omega (arith, it.high)),
    )

pub returns-clause-right : goal.returns-clause-right
returns-clause-right g c =
    let it = parts g.F.Family.merge_rule c.args.subtree.first c.args.subtree.position c.args.subtree.height
    c.requires.stands.0 c.requires.stands.1 c.requires.branch in
    let fit = parts-fit g.F.Family.merge_rule g.met.F.Family.merges_equals c.args.subtree.first
    c.args.subtree.position c.args.subtree.height it in
    let both = c.child_positions-left.ensures it.left it.right
    (branch_of g.F.Family.merge_rule c.args.subtree.first c.args.subtree.position c.args.subtree.height it) in (
      it.right,
      right_position g.F.Family.merge_rule g.met.F.Family.merges_equals c.args.subtree.first _ c.args.subtree.position
          c.args.subtree.height _ _ it
          (ap (λ n. c.args.subtree.first + n) (one_shl (c.args.subtree.height - 1) 64 (omega (arith, fit.1)))) both.1
          (omega (arith, it.high)),
    )

pub returns-clause-children : goal.returns-clause-children
returns-clause-children g c p left right tree =
    let rule = g.F.Family.merge_rule in
    let first = c.args.subtree.first in
    let at = c.args.subtree.position in
    let high = c.args.subtree.height in
    let Stands : ℕ → Type 0 = λ n. IsNodeAt first (branch n left right) (forest_of rule tree.leaf_total) in
    let it : Parts rule first at high = record {
      left = left;
      right = right;
      leaf_total = tree.leaf_total;
      few = tree.few;
      stands = subst Stands (sym tree.subtree) tree.stands;
      high = tree.level;
    } in
    let fit = parts-fit rule g.met.F.Family.merges_equals first at high it in
    let both = c.child_positions-left.ensures left right (branch_of rule first at high it) in
    let half = one_shl (high - 1) 64 (omega (arith, fit.1)) in
    let low : high - 1 ≡ height left = omega (arith, it.high) in
    record {
      same = refl;
      middle = ap (λ n. first + n) (half ∙ ap (λ n. 2 ^ n) low ∙ sym fit.2);
      at_left = left_position rule g.met.F.Family.merges_equals first at high _ _ it both.0 low;
      at_right = right_position rule g.met.F.Family.merges_equals first _ at high _ _ it (ap (λ n. first + n) half) both.1 low;
    }
