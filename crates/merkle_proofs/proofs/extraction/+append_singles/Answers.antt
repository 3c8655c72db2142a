use Rattle.std.proofs.Common.{◌≡◌, suc, ◌+◌, ◌-◌, true, false, List, [], ◌∷◌, ◌++◌, map, filter, take, drop, sym, ◌∙◌, ap, arith}
use Rattle.merkle_forest.specs.Forest.{leaf_count, forest_of}
use Rattle.merkle_forest.specs.Peaks.{located_from}
use Rattle.merkle_forest.specs.Trees.{Located}
use Rattle.merkle_core_parts.specs.Mem.{encoded}
use Rattle.merkle_proofs.specs.Extracted.{node_digests}
use Rattle.merkle_theory.specs.Ranges.{singly}
use Rattle.merkle_proofs.specs.RangesCode.{stands}
use Rattle.merkle_proofs.proofs.Extractions.{none_more, pushed, grown_both, skipped}
use Rattle.merkle_theory.proofs.PlanFolds.{if_ok}
use Rattle.merkle_theory.proofs.PlanNodes.{passed}
use Rattle.merkle_theory.proofs.RangePeaks.{none_from, take_none}
use Rattle.merkle_theory.proofs.Walks.{walk_from}
use Rattle.merkle_proofs.proofs.extraction.+append_singles.Goals as goal

pub returns-then-first-leaves : goal.returns-then-first-leaves
returns-then-first-leaves g t c digest rest is =
    let enc = g.D.Write.encoding in
    let old = encoded enc c.args.found.now.items in
    let none = none_from g.F.Family.merge_rule g.met.F.Family.merges_equals c.args.leaves c.args.first (omega (arith, c.if-first-leaves.true)) in
    let nodes = ap (λ ps. filter (stands c.args.side) (take c.args.most ps)) none ∙ ap (filter (stands c.args.side)) (take_none c.args.most) in (
      is ∙ ap (λ ns. singly digest ns ++ rest) nodes,
      none_more old ∙ ap (λ ns. old ++ node_digests digest ns) (sym nodes),
    )

pub returns-then-most-eq0 : goal.returns-then-most-eq0
returns-then-most-eq0 g t c digest rest is =
    let enc = g.D.Write.encoding in
    let old = encoded enc c.args.found.now.items in
    let nodes = ap (λ k. filter (stands c.args.side)
    (take k (located_from c.args.first (forest_of g.F.Family.merge_rule c.args.leaves)))) c.if-most-eq0.true in (
      is ∙ ap (λ ns. singly digest ns ++ rest) nodes,
      none_more old ∙ ap (λ ns. old ++ node_digests digest ns) (sym nodes),
    )

pub returns-then-not-is_on_side : goal.returns-then-not-is_on_side
returns-then-not-is_on_side g t c digest rest is =
    let rule = g.F.Family.merge_rule in
    let enc = g.D.Write.encoding in
    let leaves = c.args.leaves in
    let at = c.peak_at-next.result in
    let it = c.peak_at-next.ensures.peak in
    let peak : Located = (at.0.first, it.node) in
    let later : List Located = located_from at.1 (forest_of rule leaves) in
    let end : at.1 ≡ at.0.first + leaf_count it.node = omega (arith, it.same, it.next) in
    let more : c.args.most ≡ suc (c.args.most - 1) = omega (arith, c.if-most-eq0.false) in
    let out : stands c.args.side peak ≡ false = sym (c.is_on_side.ensures it.node end) ∙ c.if-not-is_on_side.true in
    let step = walk_from rule leaves c.args.first at.0.first at.0.position at.0.height at.1 it in
    let nodes : filter (stands c.args.side) (take c.args.most (located_from c.args.first (forest_of rule leaves)))
    ≡ filter (stands c.args.side) (take (c.args.most - 1) later) =
    ap (λ ps. filter (stands c.args.side) (take c.args.most ps)) step ∙ ap (λ k. filter (stands c.args.side) (take k (peak ∷ later))) more
    ∙ skipped (stands c.args.side) peak (take (c.args.most - 1) later) out in
    let old = encoded enc c.args.found.now.items in
    let new = encoded enc c.append_singles.new.found.items in
    if_ok {P = λ next. (drop next (map enc c.args.digests.now) ≡ rest)
    × (new ≡ old ++ node_digests digest (filter (stands c.args.side) (take (c.args.most - 1) later)))}
    c.append_singles.result
    (λ left it. (it.0, it.1 ∙ ap (λ ns. old ++ node_digests digest ns) (sym nodes)))
    (c.append_singles.ensures digest rest (is ∙ ap (λ ns. singly digest ns ++ rest) nodes))

pub returns : goal.returns
returns g t c digest rest is =
    let rule = g.F.Family.merge_rule in
    let enc = g.D.Write.encoding in
    let leaves = c.args.leaves in
    let at = c.peak_at-next.result in
    let it = c.peak_at-next.ensures.peak in
    let peak : Located = (at.0.first, it.node) in
    let later : List Located = located_from at.1 (forest_of rule leaves) in
    let end : at.1 ≡ at.0.first + leaf_count it.node = omega (arith, it.same, it.next) in
    let more : c.args.most ≡ suc (c.args.most - 1) = omega (arith, c.if-most-eq0.false) in
    let on : stands c.args.side peak ≡ true = sym (c.is_on_side.ensures it.node end) ∙ c.if-not-is_on_side.false in
    let step = walk_from rule leaves c.args.first at.0.first at.0.position at.0.height at.1 it in
    let others : List Located = filter (stands c.args.side) (take (c.args.most - 1) later) in
    let nodes : filter (stands c.args.side) (take c.args.most (located_from c.args.first (forest_of rule leaves))) ≡ peak ∷ others =
    ap (λ ps. filter (stands c.args.side) (take c.args.most ps)) step ∙ ap (λ k. filter (stands c.args.side) (take k (peak ∷ later))) more
    ∙ passed (stands c.args.side) peak (take (c.args.most - 1) later) on in
    let first = c.digest_at-given.ensures (digest at.0.first it.node) (singly digest others ++ rest) (is ∙ ap (λ ns. singly digest ns ++ rest) nodes) in
    let old = encoded enc c.args.found.now.items in
    let mid = encoded enc c.push.new.self.items in
    let new = encoded enc c.append_singles-2.new.found.items in
    let one : mid ≡ old ++ node_digests digest (peak ∷ []) =
    pushed enc c.args.found.now.items c.push.new.self.items _ _ _ _ c.in_ok-push.ensures.items (c.new.ensures ∙ it.tree.subtree) first.0 in
    if_ok {P = λ next. (drop next (map enc c.args.digests.now) ≡ rest) × (new ≡ mid ++ node_digests digest others)} c.append_singles-2.result
    (λ left grown. (grown.0, grown_both digest old mid new (peak ∷ []) others one grown.1 ∙ ap (λ ns. old ++ node_digests digest ns) (sym nodes)))
    (c.append_singles-2.ensures digest rest first.1)
