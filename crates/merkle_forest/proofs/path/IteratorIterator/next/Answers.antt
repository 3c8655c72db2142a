use Rattle.std.proofs.Common.{◌≡◌, ◌+◌, ◌-◌, ◌*◌, ◌%◌, ◌^◌, ltb, true, false, ◌∷◌, length, sym, ◌∙◌, ap, subst, arith}
use Rattle.std.proofs.lemmas.Bool.{cond-true, cond-false, lt-ltb, le-ltb}
use Rattle.merkle_forest.specs.Laws.Paths.{parted, path-ends, path-steps}
use Rattle.merkle_forest.specs.Nodes.{IsSubtree}
use Rattle.merkle_forest.specs.Paths.{path_by}
use Rattle.merkle_forest.proofs.path.IteratorIterator.next.Goals as goal

pub returns-then-self-eq0-clause-steps : goal.returns-then-self-eq0-clause-steps
returns-then-self-eq0-clause-steps g c =
    let none = path-ends g.F.Graftable.root_of c.self.inside.target c.self.inside.first c.self.inside.height
    c.if-self-eq0.true in
    (sym c.self.view_is ∙ none, sym c.self.view_is ∙ none)

pub overflow_shl-middle : goal.overflow_shl-middle
overflow_shl-middle g c =
    let a = c.self.inside in
    let it = parted g.F.Family.merge_rule g.met.F.Family.merges_equals a.first a.height c.self.invariant.0
    c.if-self-eq0.false in
    omega (arith, it.low)

pub overflow_add-middle : goal.overflow_add-middle
overflow_add-middle g c =
    let a = c.self.inside in
    let it = parted g.F.Family.merge_rule g.met.F.Family.merges_equals a.first a.height c.self.invariant.0
    c.if-self-eq0.false in
    omega (arith, it.width, it.fits)

pub subtree_root-left-requires : goal.subtree_root-left-requires
subtree_root-left-requires g c =
    let a = c.self.inside in
    (parted g.F.Family.merge_rule g.met.F.Family.merges_equals a.first a.height c.self.invariant.0
    c.if-self-eq0.false).left

pub subtree_root-right-requires : goal.subtree_root-right-requires
subtree_root-right-requires g c =
    let a = c.self.inside in
    let rule = g.F.Family.merge_rule in
    let it = parted rule g.met.F.Family.merges_equals a.first a.height c.self.invariant.0 c.if-self-eq0.false in
    subst (λ w. IsSubtree rule (a.first + w) (a.height - 1)) (sym it.width) it.right

pub invariant_of-self : goal.invariant_of-self
invariant_of-self g c =
    let a = c.self.inside in (
      (parted g.F.Family.merge_rule g.met.F.Family.merges_equals a.first a.height c.self.invariant.0
          c.if-self-eq0.false).left,
      c.subtree_root-left.ensures,
    )

pub invariant_of-self-2 : goal.invariant_of-self-2
invariant_of-self-2 g c =
    let a = c.self.inside in
    let rule = g.F.Family.merge_rule in
    let it = parted rule g.met.F.Family.merges_equals a.first a.height c.self.invariant.0 c.if-self-eq0.false in
    (subst (λ w. IsSubtree rule (a.first + w) (a.height - 1)) (sym it.width) it.right, c.subtree_root-right.ensures)

pub returns-then-self-middle-clause-steps : goal.returns-then-self-middle-clause-steps
returns-then-self-middle-clause-steps g c =
    let a = c.self.inside in
    let root_of = g.F.Graftable.root_of in
    let it = parted g.F.Family.merge_rule g.met.F.Family.merges_equals a.first a.height c.self.invariant.0
    c.if-self-eq0.false in
    let below = a.height - 1 in
    let rest = path_by root_of a.target a.first below in
    sym c.self.view_is ∙ path-steps root_of a.target a.first a.height it.up
    ∙ cond-true _ _ _ (lt-ltb a.target (a.first + 2 ^ below) (omega (arith, c.if-self-middle.true, it.width)))
    ∙ ap (λ p. (p, root_of (a.first + 2 ^ below) below, a.height) ∷ rest)
    (sym c.self.invariant.1 ∙ sym c.new-parent.ensures)
    ∙ ap (λ p. (c.new-parent.result, p, a.height) ∷ rest)
    (ap (λ w. root_of (a.first + w) below) (sym it.width) ∙ sym c.subtree_root-right.ensures ∙ sym c.new.ensures)

pub returns-then-self-middle-clause-goes : goal.returns-then-self-middle-clause-goes
returns-then-self-middle-clause-goes g c =
    let shorter = ap length (returns-then-self-middle-clause-steps g c) in
    record { on = λ _. (tt, tt, omega (arith, shorter)); keeps = tt; rests = λ _. tt }

pub returns-clause-steps : goal.returns-clause-steps
returns-clause-steps g c =
    let a = c.self.inside in
    let root_of = g.F.Graftable.root_of in
    let it = parted g.F.Family.merge_rule g.met.F.Family.merges_equals a.first a.height c.self.invariant.0
    c.if-self-eq0.false in
    let below = a.height - 1 in
    let rest = path_by root_of a.target (a.first + 2 ^ below) below in
    sym c.self.view_is ∙ path-steps root_of a.target a.first a.height it.up
    ∙ cond-false _ _ _ (le-ltb a.target (a.first + 2 ^ below) (omega (arith, c.if-self-middle.false, it.width)))
    ∙ ap (λ p. (p, root_of a.first below, a.height) ∷ rest) (sym c.self.invariant.1 ∙ sym c.new-parent.ensures)
    ∙ ap (λ p. (c.new-parent.result, p, a.height) ∷ rest) (sym c.subtree_root-left.ensures ∙ sym c.new-2.ensures)
    ∙ ap (λ w. (c.new-parent.result, c.new-2.result, a.height) ∷ path_by root_of a.target (a.first + w) below)
    (sym it.width)

pub returns-clause-goes : goal.returns-clause-goes
returns-clause-goes g c = let shorter = ap length (returns-clause-steps g c) in
    record { on = λ _. (tt, tt, omega (arith, shorter)); keeps = tt; rests = λ _. tt }
