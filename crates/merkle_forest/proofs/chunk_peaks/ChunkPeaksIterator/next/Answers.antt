use Rattle.std.proofs.Common.{◌≡◌, ◌+◌, ◌*◌, ◌^◌, ◌%◌, ◌∷◌, length, sym, ◌∙◌, ap, arith}
use Rattle.std.proofs.lemmas.Nat.{one_shl}
use Rattle.merkle_forest.specs.Forest.{forest_of}
use Rattle.merkle_forest.specs.Laws.ForestGrowth.{height_fits}
use Rattle.merkle_forest.specs.Maximal.{maximal_positions}
use Rattle.merkle_forest.specs.Laws.Maximal.{end-positions, step-positions}
use Rattle.merkle_forest.proofs.chunk_peaks.ChunkPeaksIterator.next.Goals as goal

pub returns-then-self-end-clause-steps : goal.returns-then-self-end-clause-steps
returns-then-self-end-clause-steps g c =
    let none = end-positions g.F.Family.merge_rule g.met.F.Family.merges_equals c.self.inside.leaves
    c.self.inside.next c.self.inside.end (omega (arith, c.if-self-end.true, c.min-end.ensures)) in
    (sym c.self.view_is ∙ none, sym c.self.view_is ∙ none)

pub overflow_shl-self : goal.overflow_shl-self
overflow_shl-self g c =
    omega (
      arith,
      height_fits 62 c.highest_before-height.result
          (omega (arith, c.highest_before-height.ensures.fits, c.min-end.ensures, c.self.invariant)),
    )

pub returns-clause-steps : goal.returns-clause-steps
returns-clause-steps g c =
    let rule = g.F.Family.merge_rule in
    let a = c.self.inside in
    let high = c.highest_before-height.result in
    let found = c.highest_before-height.ensures in
    let forest = forest_of rule a.leaves in
    let width : 1 * 2 ^ high % 2 ^ 64 ≡ 2 ^ high =
    one_shl high 64 (omega (
      arith,
      height_fits 62 high
          (omega (arith, found.fits, c.min-end.ensures, c.self.invariant)),
    )) in
    sym c.self.view_is
    ∙ step-positions rule g.met.F.Family.merges_equals a.leaves a.next a.end high c.new.result found.there
    (omega (arith, found.fits, c.min-end.ensures))
    (λ k stands fits. found.highest k stands (omega (arith, fits, c.min-end.ensures)))
    (λ node stands is. c.new.ensures ∙ c.subtree_root-position.ensures ∙ ap (g.F.Graftable.root_of a.next) is
    ∙ sym (g.met.F.Graftable.roots a.leaves a.next node stands))
    ∙ ap (λ w. (c.new.result, high) ∷ maximal_positions (a.next + w) a.end forest) (sym width)

pub returns-clause-goes : goal.returns-clause-goes
returns-clause-goes g c = let shorter = ap length (returns-clause-steps g c) in
    record { on = λ _. (tt, tt, omega (arith, shorter)); keeps = tt; rests = λ _. tt }
