use Rattle.std.proofs.Common.{◌+◌, ◌&&◌, sym, ◌∙◌, ap, arith}
use Rattle.std.specs.Prelude.{nat_le}
use Rattle.std.proofs.lemmas.Bool.{le-leb}
use Rattle.merkle_forest.specs.Forest.{leaf_count}
use Rattle.merkle_theory.proofs.RangeTrees.{reach}
use Rattle.merkle_proofs.proofs.plan.positions.is_inside.Goals as goal

pub overflow_shl-end : goal.overflow_shl-end
overflow_shl-end g c =
    let there = c.requires.stands in
    (reach g.F.Family.merge_rule g.met.F.Family.merges_equals c.args.subtree.first c.args.subtree.position
    c.args.subtree.height there.0 there.1).low

pub overflow_add-end : goal.overflow_add-end
overflow_add-end g c =
    let there = c.requires.stands in
    let by = reach g.F.Family.merge_rule g.met.F.Family.merges_equals c.args.subtree.first c.args.subtree.position
    c.args.subtree.height there.0 there.1 in
    omega (arith, by.whole, by.fits)

pub returns-then-start-subtree : goal.returns-then-start-subtree
returns-then-start-subtree g c node tree =
    let by = reach g.F.Family.merge_rule g.met.F.Family.merges_equals c.args.subtree.first c.args.subtree.position
    c.args.subtree.height node tree in
    ap (λ n. nat_le (c.args.subtree.first + n) c.args.stop) by.whole
    ∙ ap (λ b. b && nat_le (c.args.subtree.first + leaf_count node) c.args.stop) (sym (le-leb c.args.start c.args.subtree.first c.if-start-subtree.true))
