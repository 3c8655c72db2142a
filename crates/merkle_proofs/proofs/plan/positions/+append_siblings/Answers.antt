use Rattle.std.proofs.Common.{◌≡◌, ℕ, ◌+◌, true, false, List, [], ◌∷◌, ◌++◌, refl, sym, ◌∙◌, ap, subst, arith}
use Rattle.std.proofs.lemmas.Bool.{and_parts, leb-true}
use Rattle.merkle_forest.specs.Forest.{Tree, leaf, branch, leaf_count}
use Rattle.merkle_theory.specs.Plans.{sibling_nodes, positions_of}
use Rattle.merkle_theory.specs.Ranges.{meets}
use Rattle.merkle_theory.proofs.PlanNodes.{after_none, after_both, siblings_out, siblings_inside, siblings_low, siblings_branch, on_ok}
use Rattle.merkle_proofs.proofs.plan.positions.+append_siblings.Goals as goal

pub returns-then-not-meets_range : goal.returns-then-not-meets_range
returns-then-not-meets_range g t c node tree =
    let at = c.args.subtree.first in
    let old = c.args.found.now.items in
    let out : meets c.args.start c.args.stop (at, node) ≡ false = sym (c.meets_range.ensures node tree) ∙ c.if-not-meets_range.true in
    c.in_ok-push.ensures.items ∙ ap (λ p. old ++ p ∷ []) (c.new.ensures ∙ tree.subtree)
    ∙ ap (λ ns. old ++ positions_of ns) (sym (siblings_out c.args.start c.args.stop at node out))

pub returns-then-is_inside : goal.returns-then-is_inside
returns-then-is_inside g t c node tree =
    let at = c.args.subtree.first in
    let old = c.args.found.now.items in
    let both = and_parts _ _ (sym (c.is_inside.ensures node tree) ∙ c.if-is_inside.true) in
    after_none old old refl
    ∙ ap (λ ns. old ++ positions_of ns) (sym (siblings_inside c.args.start c.args.stop at node (leb-true _ _ both.0) (leb-true _ _ both.1)))

pub returns-then-subtree-eq0 : goal.returns-then-subtree-eq0
returns-then-subtree-eq0 g t c node tree =
    let at = c.args.subtree.first in
    let old = c.args.found.now.items in
    let met : meets c.args.start c.args.stop (at, node) ≡ true = sym (c.meets_range.ensures node tree) ∙ c.if-not-meets_range.false in
    after_none old old refl
    ∙ ap (λ ns. old ++ positions_of ns) (sym (siblings_low c.args.start c.args.stop at c.args.subtree.height node c.if-subtree-eq0.true tree.level met))

pub returns : goal.returns
returns g t c (leaf q) tree = absurd (omega (arith, tree.level, c.if-subtree-eq0.false))
returns g t c (branch q left right) tree =
    let at = c.args.subtree.first in
    let start = c.args.start in
    let stop = c.args.stop in
    let old = c.args.found.now.items in
    let mid = c.append_siblings.new.found.items in
    let new = c.append_siblings-2.new.found.items in
    let met : meets start stop (at, branch q left right) ≡ true = sym (c.meets_range.ensures (branch q left right) tree) ∙ c.if-not-meets_range.false in
    let both = c.children_of.ensures.children q left right tree in
    let Grown : List ℕ → List ℕ → ℕ → Tree → Type 0 = λ one other n t. other ≡ one ++ positions_of (sibling_nodes start stop n t) in
    let first : Grown old mid at left = subst (λ n. Grown old mid n left) both.same (c.in_ok-append_siblings.ensures left both.at_left) in
    on_ok {P = Grown mid new c.children_of.result.1.first right} c.append_siblings-2.result
    (λ grown. after_both old mid new (sibling_nodes start stop at left) (sibling_nodes start stop (at + leaf_count left) right) first
    (subst (λ n. Grown mid new n right) both.middle grown)
    ∙ ap (λ ns. old ++ positions_of ns) (sym (siblings_branch start stop at q left right met)))
    (c.append_siblings-2.ensures right both.at_right)
