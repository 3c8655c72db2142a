use Rattle.std.proofs.Common.{◌≡◌, suc, ◌+◌, true, false, List, [], ◌∷◌, length}
use Rattle.std.proofs.Common.{map, None, Some, option_map, refl, sym, ◌∙◌, ap, subst, arith}
use Rattle.std.specs.List.{list_all}
use Rattle.merkle_forest.specs.Forest.{leaf_count, forest_of}
use Rattle.merkle_forest.specs.Hashing.{fold_string}
use Rattle.merkle_forest.specs.Peaks.{located_from}
use Rattle.merkle_forest.specs.Laws.Peaks.{located_from-peak}
use Rattle.merkle_forest.specs.Trees.{Located}
use Rattle.merkle_theory.specs.Ranges.{is_after}
use Rattle.merkle_theory.specs.MadeTrees.{Elements, from}
use Rattle.merkle_theory.specs.MadeRoots.{Streams, given_outer, read_peak, read_back}
use Rattle.merkle_theory.specs.Reads.{valued}
use Rattle.merkle_theory.proofs.RangePeaks.{none_from, all_after, not_all_after, back_given, back_own_missing, back_others_missing, back_both, by_parts}
use Rattle.merkle_theory.proofs.RangeTrees.{no_digest}
use Rattle.merkle_theory.proofs.Walks.{walk_from, located_from-all}
use Rattle.merkle_proofs.proofs.verifying.peaks.+read_back_from.Goals as goal

pub returns-then-next-reader : goal.returns-then-next-reader
returns-then-next-reader g t c peak peaks names last n over is by =
    let rule = g.F.Family.merge_rule in
    let hash = g.H.Hasher.hash_of in
    let enc = g.H.Digest.Write.encoding in
    let start = c.args.reader.now.start in
    let stop = c.args.reader.now.start + length c.args.reader.now.elements.now in
    let elements : Elements = from start (map (λ e. e.now) c.args.reader.now.elements.now) in
    let leaves = c.args.reader.now.leaves in
    let forest = forest_of rule leaves in
    let streams : Streams = (map enc c.args.outer.now, map enc c.args.inner.now) in
    let at = c.peak_at-next.result in
    let it = c.peak_at-next.ensures.peak in
    let step : located_from c.args.first forest ≡ (at.0.first, it.node) ∷ located_from at.1 forest =
    walk_from rule leaves c.args.first at.0.first at.0.position at.0.height at.1 it in
    let parts : (at.0.first, it.node) ∷ [] ≡ peak ∷ peaks =
    ap (λ ps. (at.0.first, it.node) ∷ ps) (sym (none_from rule g.met.F.Family.merges_equals leaves at.1 (omega
    (arith, c.if-next-reader.true)))) ∙ sym step ∙ is in
    let Is : Located → List Located → Type 0 = λ p ps. valued hash (read_peak over elements start stop (at.0.first, it.node) streams)
    ≡ valued hash (read_back names over elements start stop last n p ps streams) in
    c.read_one.ensures it.node over it.tree by ∙ by_parts Is (at.0.first, it.node) peak [] peaks parts refl

pub returns-in_err-given : goal.returns-in_err-given
returns-in_err-given g t c peak peaks names last n over is by =
    let rule = g.F.Family.merge_rule in
    let hash = g.H.Hasher.hash_of in
    let enc = g.H.Digest.Write.encoding in
    let start = c.args.reader.now.start in
    let stop = c.args.reader.now.start + length c.args.reader.now.elements.now in
    let elements : Elements = from start (map (λ e. e.now) c.args.reader.now.elements.now) in
    let leaves = c.args.reader.now.leaves in
    let forest = forest_of rule leaves in
    let streams : Streams = (map enc c.args.outer.now, map enc c.args.inner.now) in
    let at = c.peak_at-next.result in
    let it = c.peak_at-next.ensures.peak in
    let step : located_from c.args.first forest ≡ (at.0.first, it.node) ∷ located_from at.1 forest =
    walk_from rule leaves c.args.first at.0.first at.0.position at.0.height at.1 it in
    let there = c.peak_at-next.ensures.next (omega (arith, c.if-next-reader.false)) in
    let beyond = located_from (at.1 + leaf_count there.0) forest in
    let more = located_from-peak at.1 there.0 forest there.1 in
    let parts : (at.0.first, it.node) ∷ (at.1, there.0) ∷ beyond ≡ peak ∷ peaks =
    ap (λ ps. (at.0.first, it.node) ∷ ps) (sym more) ∙ sym step ∙ is in
    let after_all : list_all (is_after stop) ((at.0.first, it.node) ∷ (at.1, there.0) ∷ beyond) ≡ true =
    subst (λ ps. list_all (is_after stop) ps ≡ true) (step ∙ ap (λ ps. (at.0.first, it.node) ∷ ps) more)
    (all_after stop c.args.first (located_from c.args.first forest) (omega (arith, c.if-reader-first.true)) (located_from-all c.args.first forest)) in
    let Is : Located → List Located → Type 0 = λ p ps. valued hash (read_back names over elements start stop last n p ps streams) ≡ None in
    ap (option_map _) c.from_residual.ensures
    ∙ sym (by_parts Is (at.0.first, it.node) peak ((at.1, there.0) ∷ beyond) peaks parts (
    ap (valued hash) (back_given hash names over elements start stop last n (at.0.first, it.node) (at.1, there.0) beyond streams after_all)
    ∙ ap (λ ds. valued hash (given_outer (map enc ds, map enc c.args.inner.now))) (no_digest c.args.outer.now c.in_err-given.ensures.cases)))

pub returns-then-reader-first : goal.returns-then-reader-first
returns-then-reader-first g t c peak peaks names last n over is by =
    let rule = g.F.Family.merge_rule in
    let hash = g.H.Hasher.hash_of in
    let enc = g.H.Digest.Write.encoding in
    let start = c.args.reader.now.start in
    let stop = c.args.reader.now.start + length c.args.reader.now.elements.now in
    let elements : Elements = from start (map (λ e. e.now) c.args.reader.now.elements.now) in
    let leaves = c.args.reader.now.leaves in
    let forest = forest_of rule leaves in
    let streams : Streams = (map enc c.args.outer.now, map enc c.args.inner.now) in
    let at = c.peak_at-next.result in
    let it = c.peak_at-next.ensures.peak in
    let step : located_from c.args.first forest ≡ (at.0.first, it.node) ∷ located_from at.1 forest =
    walk_from rule leaves c.args.first at.0.first at.0.position at.0.height at.1 it in
    let there = c.peak_at-next.ensures.next (omega (arith, c.if-next-reader.false)) in
    let beyond = located_from (at.1 + leaf_count there.0) forest in
    let more = located_from-peak at.1 there.0 forest there.1 in
    let parts : (at.0.first, it.node) ∷ (at.1, there.0) ∷ beyond ≡ peak ∷ peaks =
    ap (λ ps. (at.0.first, it.node) ∷ ps) (sym more) ∙ sym step ∙ is in
    let after_all : list_all (is_after stop) ((at.0.first, it.node) ∷ (at.1, there.0) ∷ beyond) ≡ true =
    subst (λ ps. list_all (is_after stop) ps ≡ true) (step ∙ ap (λ ps. (at.0.first, it.node) ∷ ps) more)
    (all_after stop c.args.first (located_from c.args.first forest) (omega (arith, c.if-reader-first.true)) (located_from-all c.args.first forest)) in
    let Is : Located → List Located
    → Type 0 = λ p ps. valued hash (read_back names over elements start stop last n p ps streams)
    ≡ Some (enc c.in_ok-given.given.now, (map enc c.in_ok-given.rest.now, map enc c.args.inner.now)) in
    sym (by_parts Is (at.0.first, it.node) peak ((at.1, there.0) ∷ beyond) peaks parts (
    ap (valued hash) (back_given hash names over elements start stop last n (at.0.first, it.node) (at.1, there.0) beyond streams after_all)
    ∙ ap (λ ds. valued hash (given_outer (map enc ds, map enc c.args.inner.now))) c.in_ok-given.ensures.cases.0))

pub returns-in_err-own : goal.returns-in_err-own
returns-in_err-own g t c peak peaks names last n over is by =
    let rule = g.F.Family.merge_rule in
    let hash = g.H.Hasher.hash_of in
    let enc = g.H.Digest.Write.encoding in
    let start = c.args.reader.now.start in
    let stop = c.args.reader.now.start + length c.args.reader.now.elements.now in
    let elements : Elements = from start (map (λ e. e.now) c.args.reader.now.elements.now) in
    let leaves = c.args.reader.now.leaves in
    let forest = forest_of rule leaves in
    let streams : Streams = (map enc c.args.outer.now, map enc c.args.inner.now) in
    let at = c.peak_at-next.result in
    let it = c.peak_at-next.ensures.peak in
    let step : located_from c.args.first forest ≡ (at.0.first, it.node) ∷ located_from at.1 forest =
    walk_from rule leaves c.args.first at.0.first at.0.position at.0.height at.1 it in
    let there = c.peak_at-next.ensures.next (omega (arith, c.if-next-reader.false)) in
    let beyond = located_from (at.1 + leaf_count there.0) forest in
    let more = located_from-peak at.1 there.0 forest there.1 in
    let parts : (at.0.first, it.node) ∷ (at.1, there.0) ∷ beyond ≡ peak ∷ peaks =
    ap (λ ps. (at.0.first, it.node) ∷ ps) (sym more) ∙ sym step ∙ is in
    let some : list_all (is_after stop) ((at.0.first, it.node) ∷ (at.1, there.0) ∷ beyond) ≡ false =
    not_all_after stop (at.0.first, it.node) ((at.1, there.0) ∷ beyond) (omega (arith, it.same, c.if-reader-first.false)) in
    let Is : Located → List Located → Type 0 = λ p ps. valued hash (read_back names over elements start stop last n p ps streams) ≡ None in
    ap (option_map _) c.from_residual-in_err-own.ensures
    ∙ sym (by_parts Is (at.0.first, it.node) peak ((at.1, there.0) ∷ beyond) peaks parts (
    back_own_missing hash names over elements start stop last n (at.0.first, it.node) (at.1, there.0) beyond streams some
    (sym (c.in_err-own.ensures it.node over it.tree by))))

pub returns-in_err-others : goal.returns-in_err-others
returns-in_err-others g t c peak peaks names last n over is by =
    let rule = g.F.Family.merge_rule in
    let hash = g.H.Hasher.hash_of in
    let enc = g.H.Digest.Write.encoding in
    let start = c.args.reader.now.start in
    let stop = c.args.reader.now.start + length c.args.reader.now.elements.now in
    let elements : Elements = from start (map (λ e. e.now) c.args.reader.now.elements.now) in
    let leaves = c.args.reader.now.leaves in
    let forest = forest_of rule leaves in
    let streams : Streams = (map enc c.args.outer.now, map enc c.args.inner.now) in
    let at = c.peak_at-next.result in
    let it = c.peak_at-next.ensures.peak in
    let step : located_from c.args.first forest ≡ (at.0.first, it.node) ∷ located_from at.1 forest =
    walk_from rule leaves c.args.first at.0.first at.0.position at.0.height at.1 it in
    let there = c.peak_at-next.ensures.next (omega (arith, c.if-next-reader.false)) in
    let beyond = located_from (at.1 + leaf_count there.0) forest in
    let more = located_from-peak at.1 there.0 forest there.1 in
    let parts : (at.0.first, it.node) ∷ (at.1, there.0) ∷ beyond ≡ peak ∷ peaks =
    ap (λ ps. (at.0.first, it.node) ∷ ps) (sym more) ∙ sym step ∙ is in
    let some : list_all (is_after stop) ((at.0.first, it.node) ∷ (at.1, there.0) ∷ beyond) ≡ false =
    not_all_after stop (at.0.first, it.node) ((at.1, there.0) ∷ beyond) (omega (arith, it.same, c.if-reader-first.false)) in
    let left : Streams = (map enc c.in_ok-own.outer.now, map enc c.in_ok-own.inner.now) in
    let Is : Located → List Located → Type 0 = λ p ps. valued hash (read_back names over elements start stop last n p ps streams) ≡ None in
    ap (option_map _) c.from_residual-in_err-others.ensures
    ∙ sym (by_parts Is (at.0.first, it.node) peak ((at.1, there.0) ∷ beyond) peaks parts (
    back_others_missing hash names over elements start stop last n (at.0.first, it.node) (at.1, there.0) beyond streams left
    (enc c.in_ok-own.own) some (sym (c.in_ok-own.ensures it.node over it.tree by))
    (sym (c.in_err-others.ensures (at.1, there.0) beyond names last (suc n) over more by))))

pub returns : goal.returns
returns g t c peak peaks names last n over is by =
    let rule = g.F.Family.merge_rule in
    let hash = g.H.Hasher.hash_of in
    let enc = g.H.Digest.Write.encoding in
    let start = c.args.reader.now.start in
    let stop = c.args.reader.now.start + length c.args.reader.now.elements.now in
    let elements : Elements = from start (map (λ e. e.now) c.args.reader.now.elements.now) in
    let leaves = c.args.reader.now.leaves in
    let forest = forest_of rule leaves in
    let streams : Streams = (map enc c.args.outer.now, map enc c.args.inner.now) in
    let at = c.peak_at-next.result in
    let it = c.peak_at-next.ensures.peak in
    let step : located_from c.args.first forest ≡ (at.0.first, it.node) ∷ located_from at.1 forest =
    walk_from rule leaves c.args.first at.0.first at.0.position at.0.height at.1 it in
    let there = c.peak_at-next.ensures.next (omega (arith, c.if-next-reader.false)) in
    let beyond = located_from (at.1 + leaf_count there.0) forest in
    let more = located_from-peak at.1 there.0 forest there.1 in
    let parts : (at.0.first, it.node) ∷ (at.1, there.0) ∷ beyond ≡ peak ∷ peaks =
    ap (λ ps. (at.0.first, it.node) ∷ ps) (sym more) ∙ sym step ∙ is in
    let some : list_all (is_after stop) ((at.0.first, it.node) ∷ (at.1, there.0) ∷ beyond) ≡ false =
    not_all_after stop (at.0.first, it.node) ((at.1, there.0) ∷ beyond) (omega (arith, it.same, c.if-reader-first.false)) in
    let left : Streams = (map enc c.in_ok-own.outer.now, map enc c.in_ok-own.inner.now) in
    let rest : Streams = (map enc c.in_ok-others.outer.now, map enc c.in_ok-others.inner.now) in
    let Is : Located → List Located
    → Type 0 = λ p ps. valued hash (read_back names over elements start stop last n p ps streams)
    ≡ Some (hash (fold_string (enc c.in_ok-own.own) (enc c.in_ok-others.others)), rest) in
    ap (λ d. Some (d, rest)) c.fold.ensures
    ∙ sym (by_parts Is (at.0.first, it.node) peak ((at.1, there.0) ∷ beyond) peaks parts (
    back_both hash names over elements start stop last n (at.0.first, it.node) (at.1, there.0) beyond streams left rest
    (enc c.in_ok-own.own) (enc c.in_ok-others.others) some (sym (c.in_ok-own.ensures it.node over it.tree by))
    (sym (c.in_ok-others.ensures (at.1, there.0) beyond names last (suc n) over more by))))
