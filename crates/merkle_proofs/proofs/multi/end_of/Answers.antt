use Rattle.std.proofs.Common.{◌+◌, ap, arith}
use Rattle.merkle_theory.proofs.RangeTrees.{reach}
use Rattle.merkle_proofs.proofs.multi.end_of.Goals as goal

pub overflow_shl-result : goal.overflow_shl-result
overflow_shl-result g c =
    let there = c.requires.stands in
    (reach g.F.Family.merge_rule g.met.F.Family.merges_equals c.args.subtree.first c.args.subtree.position
    c.args.subtree.height there.0 there.1).low

pub overflow_add-result : goal.overflow_add-result
overflow_add-result g c =
    let there = c.requires.stands in
    let by = reach g.F.Family.merge_rule g.met.F.Family.merges_equals c.args.subtree.first c.args.subtree.position
    c.args.subtree.height there.0 there.1 in
    omega (arith, by.whole, by.fits)

pub returns : goal.returns
returns g c node tree =
    ap (λ n. c.args.subtree.first + n)
    (reach g.F.Family.merge_rule g.met.F.Family.merges_equals c.args.subtree.first c.args.subtree.position c.args.subtree.height node tree).whole
