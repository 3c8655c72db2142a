use Rattle.std.proofs.Common.{◌≡◌, ℕ, ◌+◌, ◌*◌, ◌^◌, Some, option_map, refl, sym, ◌∙◌, ap, arith}
use Rattle.merkle_forest.specs.Forest.{position}
use Rattle.merkle_forest.specs.Laws.Nodes.{subtree-low}
use Rattle.state_theory.specs.GraftedNodes.{node_over}
use Rattle.state_theory.specs.Laws.GraftedNodes.{begins, spread, too_high, too_late, not_born, is_born, placed_over}
use Rattle.state_proofs_parts.proofs.grafting.hasher.position_over.Goals as goal

pub overflow_sub-height : goal.overflow_sub-height
overflow_sub-height g c = (subtree-low g.F.Family.merge_rule g.met.F.Family.merges_equals c.args.chunk c.args.height c.requires).1

pub returns-then-grafting_height-height : goal.returns-then-grafting_height-height
returns-then-grafting_height-height g c =
    let low = subtree-low g.F.Family.merge_rule g.met.F.Family.merges_equals c.args.chunk c.args.height c.requires in
    ap (option_map position) (sym (too_high g.F.Family.merge_rule g.met.F.Family.merges_equals _ _ (omega (arith, low.1))))

pub returns-then-chunk-grafting_height : goal.returns-then-chunk-grafting_height
returns-then-chunk-grafting_height g c =
    ap (option_map position) (sym (too_late g.F.Family.merge_rule g.met.F.Family.merges_equals c.args.chunk c.args.grafting_height _
    (omega arith)))

pub birth-requires-clause-low : goal.birth-requires-clause-low
birth-requires-clause-low g c =
    let low = subtree-low g.F.Family.merge_rule g.met.F.Family.merges_equals c.args.chunk c.args.height c.requires in
    omega (arith, low.1)

pub returns-then-birth-gt-MAX_LEAVES : goal.returns-then-birth-gt-MAX_LEAVES
returns-then-birth-gt-MAX_LEAVES g c =
    let rule = g.F.Family.merge_rule in
    let low = subtree-low rule g.met.F.Family.merges_equals c.args.chunk c.args.height c.requires in
    let at = spread rule g.met.F.Graftable.aligned c.args.chunk c.args.height c.args.grafting_height c.requires in
    let first = begins c.args.chunk c.args.grafting_height _ (omega (arith, low.1)) refl in
    let high : ℕ = c.args.height + c.args.grafting_height in
    let born : c.birth.result ≡ g.F.Graftable.birth_of (c.args.chunk * 2 ^ c.args.grafting_height) high =
    c.birth.ensures ∙ ap (λ k. g.F.Graftable.birth_of k high) first in
    ap (option_map position) (sym (not_born rule g.F.Graftable.birth_of g.met.F.Graftable.births at.0 _ high at.1
    (omega (arith, born))))

pub subtree_root-requires : goal.subtree_root-requires
subtree_root-requires g c =
    let rule = g.F.Family.merge_rule in
    let low = subtree-low rule g.met.F.Family.merges_equals c.args.chunk c.args.height c.requires in
    let at = spread rule g.met.F.Graftable.aligned c.args.chunk c.args.height c.args.grafting_height c.requires in
    let first = begins c.args.chunk c.args.grafting_height _ (omega (arith, low.1)) refl in
    let high : ℕ = c.args.height + c.args.grafting_height in (
      2 ^ 62,
      omega arith,
      is_born rule g.F.Graftable.birth_of g.met.F.Graftable.births at.0 _ high (first ∙ at.1) (omega (arith, c.birth.ensures)),
    )

pub returns : goal.returns
returns g c =
    let rule = g.F.Family.merge_rule in
    let low = subtree-low rule g.met.F.Family.merges_equals c.args.chunk c.args.height c.requires in
    let at = spread rule g.met.F.Graftable.aligned c.args.chunk c.args.height c.args.grafting_height c.requires in
    let first = begins c.args.chunk c.args.grafting_height _ (omega (arith, low.1)) refl in
    let high : ℕ = c.args.height + c.args.grafting_height in
    let there = is_born rule g.F.Graftable.birth_of g.met.F.Graftable.births at.0 _ high (first ∙ at.1) (omega (arith, c.birth.ensures)) in
    ap (λ p. Some p) c.subtree_root.ensures
    ∙ placed_over rule g.F.Graftable.root_of g.met.F.Family.merges_equals g.met.F.Graftable.roots _ high there
    ∙ ap (λ k. option_map position (node_over rule k high)) first
