use Rattle.std.proofs.Common.{◌<◌, ◌+◌, ℕ, refl, sym, subst, arith}
use Rattle.merkle_forest.specs.Forest.{forest_of}
use Rattle.merkle_forest.specs.Nodes.{HasPeak}
use Rattle.merkle_forest.specs.Laws.Nodes.{peak-node, node-leaves}
use Rattle.merkle_theory.proofs.Places.{after, shift, peak_position}
use Rattle.merkle_proofs.proofs.subtree.peak_at.Goals as goal

pub overflow_shl-result : goal.overflow_shl-result
overflow_shl-result g c =
    let there = c.requires.begins in
    let it = after g.F.Family.merge_rule g.met.F.Family.merges_equals c.args.leaves c.args.first there.0 there.1 in
    (shift c.args.leaves c.args.first c.peak_from-position.result.1 there.0 c.requires.few it.fits
    (c.peak_from-position.ensures there.0 there.1).1).low

pub overflow_add-result : goal.overflow_add-result
overflow_add-result g c =
    let there = c.requires.begins in
    let it = after g.F.Family.merge_rule g.met.F.Family.merges_equals c.args.leaves c.args.first there.0 there.1 in
    let by = shift c.args.leaves c.args.first c.peak_from-position.result.1 there.0 c.requires.few it.fits
    (c.peak_from-position.ensures there.0 there.1).1 in
    omega (arith, by.whole, it.fits, c.requires.few)

pub returns-clause-peak : goal.returns-clause-peak
returns-clause-peak g c =
    let there = c.requires.begins in
    let at = c.peak_from-position.ensures there.0 there.1 in
    let stands = peak-node c.args.first there.0 (forest_of g.F.Family.merge_rule c.args.leaves) there.1 in
    let whole = node-leaves g.F.Family.merge_rule g.met.F.Family.merges_equals c.args.leaves c.args.first there.0
    stands in
    let by = shift c.args.leaves c.args.first c.peak_from-position.result.1 there.0 c.requires.few whole.1 at.1 in
    record {
      node = there.0;
      stands = there.1;
      tree = peak_position g.F.Family.merge_rule c.args.leaves c.args.first _ _ there.0 c.requires.few there.1
          at.0 at.1;
      same = refl;
      next = omega (arith, by.whole, whole.0);
    }

pub returns-clause-later : goal.returns-clause-later
returns-clause-later g c =
    let there = c.requires.begins in
    let it = after g.F.Family.merge_rule g.met.F.Family.merges_equals c.args.leaves c.args.first there.0 there.1 in
    let by = shift c.args.leaves c.args.first c.peak_from-position.result.1 there.0 c.requires.few it.fits
    (c.peak_from-position.ensures there.0 there.1).1 in
    omega (arith, by.whole, it.later)

pub returns-clause-within : goal.returns-clause-within
returns-clause-within g c =
    let there = c.requires.begins in
    let it = after g.F.Family.merge_rule g.met.F.Family.merges_equals c.args.leaves c.args.first there.0 there.1 in
    let by = shift c.args.leaves c.args.first c.peak_from-position.result.1 there.0 c.requires.few it.fits
    (c.peak_from-position.ensures there.0 there.1).1 in
    omega (arith, by.whole, it.fits)

pub returns-clause-next : goal.returns-clause-next
returns-clause-next g c =
    let there = c.requires.begins in
    let it = after g.F.Family.merge_rule g.met.F.Family.merges_equals c.args.leaves c.args.first there.0 there.1 in
    let by = shift c.args.leaves c.args.first c.peak_from-position.result.1 there.0 c.requires.few it.fits
    (c.peak_from-position.ensures there.0 there.1).1 in
    let Next : ℕ → Type 0 = λ n. c.args.first + n < c.args.leaves
    → HasPeak (forest_of g.F.Family.merge_rule c.args.leaves) (c.args.first + n) in
    subst Next (sym by.whole) it.next
