use Rattle.std.proofs.Common.{◌≡◌, suc, ◌+◌, ◌-◌, ◌∷◌, take, drop, sym, ◌∙◌, ap, arith}
use Rattle.std.specs.Prelude.{if◌then◌else◌, nat_le}
use Rattle.merkle_forest.specs.Forest.{leaf_count, forest_of}
use Rattle.merkle_forest.specs.Peaks.{located_from}
use Rattle.merkle_theory.specs.Ranges.{is_before, is_after}
use Rattle.merkle_theory.specs.RangeCounts.{passing}
use Rattle.merkle_theory.proofs.RangePeaks.{none_from, passing_first, take_none, drop_none}
use Rattle.merkle_theory.proofs.Walks.{walk_from}
use Rattle.merkle_proofs.proofs.verifying.counts.+sides_of.Goals as goal

pub returns-then-first-leaves-clause-before : goal.returns-then-first-leaves-clause-before
returns-then-first-leaves-clause-before g t c =
    let rule = g.F.Family.merge_rule in
    let leaves = c.args.leaves in
    let forest = forest_of rule leaves in
    let none = none_from rule g.met.F.Family.merges_equals leaves c.args.first (omega (arith, c.if-first-leaves.true)) in
    sym (ap (λ ps. passing (is_before c.args.start) (take c.args.most ps)) none ∙ ap (passing (is_before c.args.start)) (take_none c.args.most))

pub returns-then-most-eq0-clause-before : goal.returns-then-most-eq0-clause-before
returns-then-most-eq0-clause-before g t c =
    let rule = g.F.Family.merge_rule in
    let leaves = c.args.leaves in
    let forest = forest_of rule leaves in
    sym (ap (λ k. passing (is_before c.args.start) (take k (located_from c.args.first forest))) c.if-most-eq0.true)

pub returns-then-first-leaves-clause-after : goal.returns-then-first-leaves-clause-after
returns-then-first-leaves-clause-after g t c =
    let rule = g.F.Family.merge_rule in
    let leaves = c.args.leaves in
    let forest = forest_of rule leaves in
    let none = none_from rule g.met.F.Family.merges_equals leaves c.args.first (omega (arith, c.if-first-leaves.true)) in
    sym (ap (λ ps. passing (is_after c.args.stop) (take c.args.most ps)) none ∙ ap (passing (is_after c.args.stop)) (take_none c.args.most))

pub returns-then-most-eq0-clause-after : goal.returns-then-most-eq0-clause-after
returns-then-most-eq0-clause-after g t c =
    let rule = g.F.Family.merge_rule in
    let leaves = c.args.leaves in
    let forest = forest_of rule leaves in
    sym (ap (λ k. passing (is_after c.args.stop) (take k (located_from c.args.first forest))) c.if-most-eq0.true)

pub returns-then-first-leaves-clause-next : goal.returns-then-first-leaves-clause-next
returns-then-first-leaves-clause-next g t c =
    let rule = g.F.Family.merge_rule in
    let leaves = c.args.leaves in
    let forest = forest_of rule leaves in
    let none = none_from rule g.met.F.Family.merges_equals leaves c.args.first (omega (arith, c.if-first-leaves.true)) in
    none ∙ sym (ap (drop c.args.most) none ∙ drop_none c.args.most)

pub returns-then-most-eq0-clause-next : goal.returns-then-most-eq0-clause-next
returns-then-most-eq0-clause-next g t c =
    let rule = g.F.Family.merge_rule in
    let leaves = c.args.leaves in
    let forest = forest_of rule leaves in
    sym (ap (λ k. drop k (located_from c.args.first forest)) c.if-most-eq0.true)

pub returns-clause-before : goal.returns-clause-before
returns-clause-before g t c =
    let rule = g.F.Family.merge_rule in
    let leaves = c.args.leaves in
    let forest = forest_of rule leaves in
    let at = c.peak_at-next.result in
    let it = c.peak_at-next.ensures.peak in
    let more : c.args.most ≡ suc (c.args.most - 1) = omega (arith, c.if-most-eq0.false) in
    let step : located_from c.args.first forest ≡ (at.0.first, it.node) ∷ located_from at.1 forest =
    walk_from rule leaves c.args.first at.0.first at.0.position at.0.height at.1 it in
    let parts : take c.args.most (located_from c.args.first forest) ≡ (at.0.first, it.node) ∷ take (c.args.most - 1) (located_from at.1 forest) =
    ap (take c.args.most) step ∙ ap (λ k. take k ((at.0.first, it.node) ∷ located_from at.1 forest)) more in
    let end : at.1 ≡ at.0.first + leaf_count it.node = omega (arith, it.same, it.next) in
    let rest = take (c.args.most - 1) (located_from at.1 forest) in
    let one : c.one_if.result ≡ (if is_before c.args.start (at.0.first, it.node) then 1 else 0) =
    c.one_if.ensures ∙ ap (λ n. if nat_le n c.args.start then 1 else 0) end in
    omega (
      arith,
      one,
      c.sides_of-rest.ensures.before,
      ap (passing (is_before c.args.start)) parts,
      passing_first
          (is_before c.args.start) (at.0.first, it.node) rest,
    )

pub returns-clause-after : goal.returns-clause-after
returns-clause-after g t c =
    let rule = g.F.Family.merge_rule in
    let leaves = c.args.leaves in
    let forest = forest_of rule leaves in
    let at = c.peak_at-next.result in
    let it = c.peak_at-next.ensures.peak in
    let more : c.args.most ≡ suc (c.args.most - 1) = omega (arith, c.if-most-eq0.false) in
    let step : located_from c.args.first forest ≡ (at.0.first, it.node) ∷ located_from at.1 forest =
    walk_from rule leaves c.args.first at.0.first at.0.position at.0.height at.1 it in
    let parts : take c.args.most (located_from c.args.first forest) ≡ (at.0.first, it.node) ∷ take (c.args.most - 1) (located_from at.1 forest) =
    ap (take c.args.most) step ∙ ap (λ k. take k ((at.0.first, it.node) ∷ located_from at.1 forest)) more in
    let rest = take (c.args.most - 1) (located_from at.1 forest) in
    let one : c.one_if-2.result ≡ (if is_after c.args.stop (at.0.first, it.node) then 1 else 0) =
    c.one_if-2.ensures ∙ ap (λ n. if nat_le c.args.stop n then 1 else 0) (sym it.same) in
    omega (
      arith,
      one,
      c.sides_of-rest.ensures.after,
      ap (passing (is_after c.args.stop)) parts,
      passing_first
          (is_after c.args.stop) (at.0.first, it.node) rest,
    )

pub returns-clause-next : goal.returns-clause-next
returns-clause-next g t c =
    let rule = g.F.Family.merge_rule in
    let leaves = c.args.leaves in
    let forest = forest_of rule leaves in
    let at = c.peak_at-next.result in
    let it = c.peak_at-next.ensures.peak in
    let more : c.args.most ≡ suc (c.args.most - 1) = omega (arith, c.if-most-eq0.false) in
    let step : located_from c.args.first forest ≡ (at.0.first, it.node) ∷ located_from at.1 forest =
    walk_from rule leaves c.args.first at.0.first at.0.position at.0.height at.1 it in
    let parts : take c.args.most (located_from c.args.first forest) ≡ (at.0.first, it.node) ∷ take (c.args.most - 1) (located_from at.1 forest) =
    ap (take c.args.most) step ∙ ap (λ k. take k ((at.0.first, it.node) ∷ located_from at.1 forest)) more in
    c.sides_of-rest.ensures.next ∙ sym (ap (drop c.args.most) step ∙ ap (λ k. drop k ((at.0.first, it.node) ∷ located_from at.1 forest)) more)
