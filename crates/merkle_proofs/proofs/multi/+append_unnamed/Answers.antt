use Rattle.std.proofs.Common.{rules, ◌<◌, [], ◌∷◌, ◌++◌, sym, ◌∙◌, ap, subst, arith}
use Rattle.merkle_forest.specs.Forest.{leaf, branch}
use Rattle.merkle_theory.specs.Multi.{AreFound}
use Rattle.merkle_theory.proofs.PlanFolds.{if_ok}
use Rattle.merkle_theory.proofs.Unnamed.{found_none, found_low, found_both, ascend_left, ascend_right}
use Rattle.merkle_proofs.proofs.multi.+append_unnamed.Goals as goal

pub returns-then-not-is_next_before : goal.returns-then-not-is_next_before
returns-then-not-is_next_before g t c node tree =
    let old = c.args.found.now.items in
    found_none c.args.locations.now c.end_of.result c.args.subtree.first node old c.push.new.self.items (c.end_of.ensures node tree)
    (sym c.is_next_before.ensures ∙ c.if-not-is_next_before.true) c.requires.ascend
    (c.in_ok-push.ensures.items ∙ ap (λ p. old ++ p ∷ []) (c.new.ensures ∙ tree.subtree))

pub returns-then-subtree-eq0 : goal.returns-then-subtree-eq0
returns-then-subtree-eq0 g t c node tree =
    found_low c.args.locations.now c.after_first.result.now c.end_of.result c.args.subtree.first c.args.subtree.height node c.args.found.now.items
    (c.end_of.ensures node tree) (sym c.is_next_before.ensures ∙ c.if-not-is_next_before.false) c.requires.ascend c.after_first.ensures
    c.if-subtree-eq0.true tree.level

pub append_unnamed-requires : goal.append_unnamed-requires
append_unnamed-requires g t c κs within =
    let there = c.requires.stands in
    let high : 0 < c.args.subtree.height = omega (arith, c.if-subtree-eq0.false) in (
      search rules,
      (
        search rules,
        (
          c.children_of.ensures.left,
          ascend_left g.F.Family.merge_rule c.args.subtree.first c.args.subtree.position c.args.subtree.height there.0 there.1 high _ _ _ _ _ _
              c.children_of.ensures.children c.args.locations.now c.requires.ascend,
        ),
      ),
    )

pub append_unnamed-requires-2 : goal.append_unnamed-requires-2
append_unnamed-requires-2 g t c κs within =
    let there = c.requires.stands in
    let high : 0 < c.args.subtree.height = omega (arith, c.if-subtree-eq0.false) in (
      search rules,
      (
        search rules,
        (
          c.children_of.ensures.right,
          ascend_right g.F.Family.merge_rule c.args.subtree.first c.args.subtree.position c.args.subtree.height there.0 there.1 high _ _ _ _ _ _
              c.children_of.ensures.children c.args.locations.now c.in_ok-rest.rest.now c.args.found.now.items
              c.append_unnamed.new.found.items c.in_ok-rest.ensures,
        ),
      ),
    )

pub returns : goal.returns
returns g t c (leaf q) tree = absurd (omega (arith, tree.level, c.if-subtree-eq0.false))
returns g t c (branch q left right) tree =
    let at = c.args.subtree.first in
    let old = c.args.found.now.items in
    let mid = c.append_unnamed.new.found.items in
    let new = c.append_unnamed-2.new.found.items in
    let both = c.children_of.ensures.children q left right tree in
    let one : AreFound c.args.locations.now c.in_ok-rest.rest.now old mid at left =
    subst (λ n. AreFound c.args.locations.now c.in_ok-rest.rest.now old mid n left) both.same (c.in_ok-rest.ensures left both.at_left) in
    if_ok {P = λ after. AreFound c.in_ok-rest.rest.now after.now mid new c.children_of.result.1.first right} c.append_unnamed-2.result
    (λ after two. found_both c.args.locations.now c.in_ok-rest.rest.now after.now c.end_of.result at q left right old mid new
    (c.end_of.ensures (branch q left right) tree) (sym c.is_next_before.ensures ∙ c.if-not-is_next_before.false) c.requires.ascend one
    (subst (λ n. AreFound c.in_ok-rest.rest.now after.now mid new n right) both.middle two))
    (c.append_unnamed-2.ensures right both.at_right)
