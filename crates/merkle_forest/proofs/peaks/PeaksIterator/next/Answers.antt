use Rattle.std.proofs.Common.{◌≡◌, ◌+◌, ◌*◌, ◌^◌, ◌%◌, [], ◌∷◌, length, map, refl, sym, ◌∙◌, ap, arith}
use Rattle.merkle_forest.specs.Forest.{forest_of}
use Rattle.merkle_forest.specs.Laws.ForestGrowth.{leaves-forest_of}
use Rattle.merkle_forest.specs.Peaks.{PeaksLeft, position_and_height, positions_from}
use Rattle.merkle_forest.specs.Laws.Peaks.{step, cut-begins, located_from-end}
use Rattle.merkle_forest.proofs.peaks.PeaksIterator.next.Goals as goal

pub returns-then-self-clause-steps : goal.returns-then-self-clause-steps
returns-then-self-clause-steps g c =
    let none : positions_from c.self.inside.next (forest_of g.F.Family.merge_rule c.self.inside.leaves) ≡ [] =
    ap (map position_and_height) (located_from-end
    (forest_of g.F.Family.merge_rule c.self.inside.leaves) c.self.inside.next
    (omega (arith, leaves-forest_of g.F.Family.merge_rule g.met.F.Family.merges_equals c.self.inside.leaves))) in
    let left : c.args.self.now.left ≡ [] = sym (ap (λ (way : PeaksLeft). way.left) c.self.view_is) ∙ none in
    ((left, left), refl)

pub peak_from-position-requires-clause-begins : goal.peak_from-position-requires-clause-begins
peak_from-position-requires-clause-begins g c =
    cut-begins c.self.inside.next (forest_of g.F.Family.merge_rule c.self.inside.leaves) c.self.invariant.1
    (omega (
      arith,
      c.if-self.false,
      leaves-forest_of g.F.Family.merge_rule g.met.F.Family.merges_equals
          c.self.inside.leaves,
    ))

pub overflow_shl-self : goal.overflow_shl-self
overflow_shl-self g c =
    (step g.F.Family.merge_rule g.met.F.Family.merges_equals c.self.inside.leaves c.self.inside.next
    c.peak_from-position.result.0 c.peak_from-position.result.1 c.self.invariant.0 c.self.invariant.1 c.if-self.false
    c.peak_from-position.ensures).low

pub overflow_add-self : goal.overflow_add-self
overflow_add-self g c =
    let it = step g.F.Family.merge_rule g.met.F.Family.merges_equals c.self.inside.leaves c.self.inside.next
    c.peak_from-position.result.0 c.peak_from-position.result.1 c.self.invariant.0 c.self.invariant.1
    c.if-self.false c.peak_from-position.ensures in
    omega (arith, it.fits, c.self.invariant.0)

pub invariant_of-self : goal.invariant_of-self
invariant_of-self g c =
    let it = step g.F.Family.merge_rule g.met.F.Family.merges_equals c.self.inside.leaves c.self.inside.next
    c.peak_from-position.result.0 c.peak_from-position.result.1 c.self.invariant.0 c.self.invariant.1
    c.if-self.false c.peak_from-position.ensures in
    (c.self.invariant.0, it.cut)

pub returns-clause-steps : goal.returns-clause-steps
returns-clause-steps g c =
    let it = step g.F.Family.merge_rule g.met.F.Family.merges_equals c.self.inside.leaves c.self.inside.next
    c.peak_from-position.result.0 c.peak_from-position.result.1 c.self.invariant.0 c.self.invariant.1
    c.if-self.false c.peak_from-position.ensures in (
      sym (ap (λ (way : PeaksLeft). way.left) c.self.view_is) ∙ it.positions
          ∙ ap (λ p. (p, c.peak_from-position.result.1) ∷ positions_from
          (c.self.inside.next + 1 * 2 ^ c.peak_from-position.result.1 % 2 ^ 64)
          (forest_of g.F.Family.merge_rule c.self.inside.leaves)) (sym c.new.ensures),
      ap (λ (way : PeaksLeft). way.leaves) c.self.view_is,
    )

pub returns-clause-goes : goal.returns-clause-goes
returns-clause-goes g c = let shorter = ap length (returns-clause-steps g c).0 in
    record { on = λ _. (tt, tt, omega (arith, shorter)); keeps = tt; rests = λ _. tt }
