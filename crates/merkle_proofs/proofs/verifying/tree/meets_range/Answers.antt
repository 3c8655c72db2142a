use Rattle.std.proofs.Common.{◌≡◌, ℕ, ◌+◌, subst, arith}
use Rattle.std.specs.Prelude.{not, nat_le, ◌||◌}
use Rattle.merkle_theory.proofs.RangeTrees.{reach}
use Rattle.merkle_proofs.proofs.verifying.tree.meets_range.Goals as goal

pub overflow_shl-end : goal.overflow_shl-end
overflow_shl-end g c =
    let there = c.requires.stands in
    (reach g.F.Family.merge_rule g.met.F.Family.merges_equals c.args.subtree.first c.args.subtree.position
    c.args.subtree.height there.0 there.1).low

pub overflow_add-end : goal.overflow_add-end
overflow_add-end g c =
    let there = c.requires.stands in
    let by = reach g.F.Family.merge_rule g.met.F.Family.merges_equals c.args.subtree.first c.args.subtree.position
    c.args.subtree.height there.0 there.1 in
    omega (arith, by.whole, by.fits)

pub returns : goal.returns
returns g c node tree =
    let by = reach g.F.Family.merge_rule g.met.F.Family.merges_equals c.args.subtree.first c.args.subtree.position
    c.args.subtree.height node tree in
    let End : ℕ → Type 0 = λ n. c.overlap.result ≡ not (nat_le (c.args.subtree.first + n) c.args.start || nat_le c.args.stop c.args.subtree.first) in
    subst End by.whole c.overlap.ensures
