use Rattle.std.proofs.Common.{◌≡◌, suc, ◌+◌, ◌-◌, true, false, [], ◌∷◌, length, map, option_map, refl, sym, ◌∙◌, ap, arith}
use Rattle.std.proofs.lemmas.Bool.{le-leb, lt-leb}
use Rattle.merkle_forest.specs.Forest.{leaf_count, forest_of}
use Rattle.merkle_forest.specs.Made.{bytes}
use Rattle.merkle_forest.specs.Peaks.{located_from}
use Rattle.merkle_forest.specs.Laws.Peaks.{located_from-peak, located_from-zero}
use Rattle.merkle_theory.specs.Ranges.{is_before}
use Rattle.merkle_theory.specs.MadeTrees.{Elements, from}
use Rattle.merkle_theory.specs.MadeRoots.{Streams, peaks_of, read_peak, read_bag}
use Rattle.merkle_theory.specs.Reads.{valued}
use Rattle.merkle_theory.proofs.RangePeaks.{none_from, bag_none, bag_not_given, bag_given, bag_own_missing, bag_own}
use Rattle.merkle_theory.proofs.RangeTrees.{read_some, read_none, no_digest}
use Rattle.merkle_theory.proofs.Walks.{walk_from}
use Rattle.merkle_theory.proofs.Places.{first_of}
use Rattle.merkle_proofs.proofs.verifying.peaks.read_peaks.Goals as goal

pub returns-then-reader-eq0 : goal.returns-then-reader-eq0
returns-then-reader-eq0 g c names last over by =
    let rule = g.F.Family.merge_rule in
    let hash = g.H.Hasher.hash_of in
    let enc = g.H.Digest.Write.encoding in
    let start = c.args.reader.now.start in
    let stop = c.args.reader.now.start + length c.args.reader.now.elements.now in
    let elements : Elements = from start (map (λ e. e.now) c.args.reader.now.elements.now) in
    let leaves = c.args.reader.now.leaves in
    let forest = forest_of rule leaves in
    let streams : Streams = (map enc c.args.outer.now, map enc c.args.inner.now) in
    let none : peaks_of rule leaves ≡ [] = sym (located_from-zero forest)
    ∙ none_from rule g.met.F.Family.merges_equals leaves 0 (omega (arith, c.if-reader-eq0.true)) in
    sym (ap (λ ps. valued hash (read_bag names over elements start stop last c.args.singly ps streams)) none
    ∙ ap (valued hash) (bag_none hash names over elements start stop last c.args.singly streams))

pub read_back_from-requires-clause-begins : goal.read_back_from-requires-clause-begins
read_back_from-requires-clause-begins g c =
    first_of g.F.Family.merge_rule g.met.F.Family.merges_equals c.args.reader.now.leaves (omega (arith, c.if-reader-eq0.false))

pub peak_at-next-requires-clause-begins : goal.peak_at-next-requires-clause-begins
peak_at-next-requires-clause-begins g c =
    first_of g.F.Family.merge_rule g.met.F.Family.merges_equals c.args.reader.now.leaves (omega (arith, c.if-reader-eq0.false))

pub returns-then-singly-eq0 : goal.returns-then-singly-eq0
returns-then-singly-eq0 g c names last over by =
    let rule = g.F.Family.merge_rule in
    let hash = g.H.Hasher.hash_of in
    let enc = g.H.Digest.Write.encoding in
    let start = c.args.reader.now.start in
    let stop = c.args.reader.now.start + length c.args.reader.now.elements.now in
    let elements : Elements = from start (map (λ e. e.now) c.args.reader.now.elements.now) in
    let leaves = c.args.reader.now.leaves in
    let forest = forest_of rule leaves in
    let streams : Streams = (map enc c.args.outer.now, map enc c.args.inner.now) in
    let there = first_of rule g.met.F.Family.merges_equals leaves (omega (arith, c.if-reader-eq0.false)) in
    let beyond = located_from (0 + leaf_count there.0) forest in
    let parts : located_from 0 forest ≡ (0, there.0) ∷ beyond = located_from-peak 0 there.0 forest there.1 in
    c.read_back_from.ensures (0, there.0) beyond names last 1 over parts by
    ∙ sym (ap (λ k. valued hash (read_bag names over elements start stop last k (peaks_of rule leaves) streams)) c.if-singly-eq0.true
    ∙ ap (λ ps. valued hash (read_bag names over elements start stop last 0 ps streams)) (sym (located_from-zero forest) ∙ parts))

pub returns-in_err-given : goal.returns-in_err-given
returns-in_err-given g c names last over by =
    let rule = g.F.Family.merge_rule in
    let hash = g.H.Hasher.hash_of in
    let enc = g.H.Digest.Write.encoding in
    let start = c.args.reader.now.start in
    let stop = c.args.reader.now.start + length c.args.reader.now.elements.now in
    let elements : Elements = from start (map (λ e. e.now) c.args.reader.now.elements.now) in
    let leaves = c.args.reader.now.leaves in
    let forest = forest_of rule leaves in
    let streams : Streams = (map enc c.args.outer.now, map enc c.args.inner.now) in
    let at = c.peak_at-next.result in
    let it = c.peak_at-next.ensures.peak in
    let whole : peaks_of rule leaves ≡ (at.0.first, it.node) ∷ located_from at.1 forest =
    sym (located_from-zero forest) ∙ walk_from rule leaves 0 at.0.first at.0.position at.0.height at.1 it in
    let more : c.args.singly ≡ suc (c.args.singly - 1) = omega (arith, c.if-singly-eq0.false) in
    let before : is_before start (at.0.first, it.node)
    ≡ true = le-leb (at.0.first + leaf_count it.node) start (omega
    (arith, it.same, it.next, c.if-next-reader.true)) in
    let to : valued hash (read_bag names over elements start stop last c.args.singly (peaks_of rule leaves) streams)
    ≡ valued hash (read_bag names over elements start stop last (suc (c.args.singly - 1)) ((at.0.first, it.node) ∷ located_from at.1 forest) streams) =
    ap (λ ps. valued hash (read_bag names over elements start stop last c.args.singly ps streams)) whole
    ∙ ap (λ k. valued hash (read_bag names over elements start stop last k ((at.0.first, it.node) ∷ located_from at.1 forest) streams)) more in
    ap (option_map _) c.from_residual.ensures
    ∙ sym (to
    ∙ ap (λ ds. valued hash (read_bag names over elements start stop last (suc (c.args.singly - 1)) ((at.0.first, it.node) ∷ located_from at.1 forest)
    (map enc ds, map enc c.args.inner.now))) (no_digest c.args.outer.now c.in_err-given.ensures.cases)
    ∙ ap (valued hash) (bag_not_given hash names over elements start stop last (c.args.singly - 1)
    (at.0.first, it.node) (located_from at.1 forest) (map enc c.args.inner.now) before))

pub returns-then-next-reader : goal.returns-then-next-reader
returns-then-next-reader g c names last over by =
    let rule = g.F.Family.merge_rule in
    let hash = g.H.Hasher.hash_of in
    let enc = g.H.Digest.Write.encoding in
    let start = c.args.reader.now.start in
    let stop = c.args.reader.now.start + length c.args.reader.now.elements.now in
    let elements : Elements = from start (map (λ e. e.now) c.args.reader.now.elements.now) in
    let leaves = c.args.reader.now.leaves in
    let forest = forest_of rule leaves in
    let streams : Streams = (map enc c.args.outer.now, map enc c.args.inner.now) in
    let at = c.peak_at-next.result in
    let it = c.peak_at-next.ensures.peak in
    let whole : peaks_of rule leaves ≡ (at.0.first, it.node) ∷ located_from at.1 forest =
    sym (located_from-zero forest) ∙ walk_from rule leaves 0 at.0.first at.0.position at.0.height at.1 it in
    let more : c.args.singly ≡ suc (c.args.singly - 1) = omega (arith, c.if-singly-eq0.false) in
    let before : is_before start (at.0.first, it.node)
    ≡ true = le-leb (at.0.first + leaf_count it.node) start (omega
    (arith, it.same, it.next, c.if-next-reader.true)) in
    let to : valued hash (read_bag names over elements start stop last c.args.singly (peaks_of rule leaves) streams)
    ≡ valued hash (read_bag names over elements start stop last (suc (c.args.singly - 1)) ((at.0.first, it.node) ∷ located_from at.1 forest) streams) =
    ap (λ ps. valued hash (read_bag names over elements start stop last c.args.singly ps streams)) whole
    ∙ ap (λ k. valued hash (read_bag names over elements start stop last k ((at.0.first, it.node) ∷ located_from at.1 forest) streams)) more in
    let d = enc c.in_ok-given.given.now in
    c.read_group_from.ensures (bytes d) names last 2 over refl by
    ∙ sym (to
    ∙ ap (λ ds. valued hash (read_bag names over elements start stop last (suc (c.args.singly - 1)) ((at.0.first, it.node) ∷ located_from at.1 forest)
    (map enc ds, map enc c.args.inner.now))) c.in_ok-given.ensures.cases.0
    ∙ ap (valued hash) (bag_given hash names over elements start stop last (c.args.singly - 1) (at.0.first, it.node)
    (located_from at.1 forest) d (map enc c.in_ok-given.rest.now) (map enc c.args.inner.now) before))

pub returns-in_err-own : goal.returns-in_err-own
returns-in_err-own g c names last over by =
    let rule = g.F.Family.merge_rule in
    let hash = g.H.Hasher.hash_of in
    let enc = g.H.Digest.Write.encoding in
    let start = c.args.reader.now.start in
    let stop = c.args.reader.now.start + length c.args.reader.now.elements.now in
    let elements : Elements = from start (map (λ e. e.now) c.args.reader.now.elements.now) in
    let leaves = c.args.reader.now.leaves in
    let forest = forest_of rule leaves in
    let streams : Streams = (map enc c.args.outer.now, map enc c.args.inner.now) in
    let at = c.peak_at-next.result in
    let it = c.peak_at-next.ensures.peak in
    let whole : peaks_of rule leaves ≡ (at.0.first, it.node) ∷ located_from at.1 forest =
    sym (located_from-zero forest) ∙ walk_from rule leaves 0 at.0.first at.0.position at.0.height at.1 it in
    let more : c.args.singly ≡ suc (c.args.singly - 1) = omega (arith, c.if-singly-eq0.false) in
    let met : is_before start (at.0.first, it.node)
    ≡ false = lt-leb (at.0.first + leaf_count it.node) start (omega
    (arith, it.same, it.next, c.if-next-reader.false)) in
    let to : valued hash (read_bag names over elements start stop last c.args.singly (peaks_of rule leaves) streams)
    ≡ valued hash (read_bag names over elements start stop last (suc (c.args.singly - 1)) ((at.0.first, it.node) ∷ located_from at.1 forest) streams) =
    ap (λ ps. valued hash (read_bag names over elements start stop last c.args.singly ps streams)) whole
    ∙ ap (λ k. valued hash (read_bag names over elements start stop last k ((at.0.first, it.node) ∷ located_from at.1 forest) streams)) more in
    ap (option_map _) c.from_residual-in_err-own.ensures
    ∙ sym (to ∙ ap (valued hash) (bag_own_missing hash names over elements start stop last (c.args.singly - 1)
    (at.0.first, it.node) (located_from at.1 forest) streams met
    (read_none hash (read_peak over elements start stop (at.0.first, it.node) streams) (sym (c.in_err-own.ensures it.node over it.tree by)))))

pub returns : goal.returns
returns g c names last over by =
    let rule = g.F.Family.merge_rule in
    let hash = g.H.Hasher.hash_of in
    let enc = g.H.Digest.Write.encoding in
    let start = c.args.reader.now.start in
    let stop = c.args.reader.now.start + length c.args.reader.now.elements.now in
    let elements : Elements = from start (map (λ e. e.now) c.args.reader.now.elements.now) in
    let leaves = c.args.reader.now.leaves in
    let forest = forest_of rule leaves in
    let streams : Streams = (map enc c.args.outer.now, map enc c.args.inner.now) in
    let at = c.peak_at-next.result in
    let it = c.peak_at-next.ensures.peak in
    let whole : peaks_of rule leaves ≡ (at.0.first, it.node) ∷ located_from at.1 forest =
    sym (located_from-zero forest) ∙ walk_from rule leaves 0 at.0.first at.0.position at.0.height at.1 it in
    let more : c.args.singly ≡ suc (c.args.singly - 1) = omega (arith, c.if-singly-eq0.false) in
    let met : is_before start (at.0.first, it.node)
    ≡ false = lt-leb (at.0.first + leaf_count it.node) start (omega
    (arith, it.same, it.next, c.if-next-reader.false)) in
    let to : valued hash (read_bag names over elements start stop last c.args.singly (peaks_of rule leaves) streams)
    ≡ valued hash (read_bag names over elements start stop last (suc (c.args.singly - 1)) ((at.0.first, it.node) ∷ located_from at.1 forest) streams) =
    ap (λ ps. valued hash (read_bag names over elements start stop last c.args.singly ps streams)) whole
    ∙ ap (λ k. valued hash (read_bag names over elements start stop last k ((at.0.first, it.node) ∷ located_from at.1 forest) streams)) more in
    let left : Streams = (map enc c.in_ok-own.outer.now, map enc c.in_ok-own.inner.now) in
    let own = read_some hash (read_peak over elements start stop (at.0.first, it.node) streams) (enc c.in_ok-own.own) left
    (sym (c.in_ok-own.ensures it.node over it.tree by)) in
    c.read_onto_from.ensures own.made names last 2 over own.same by
    ∙ sym (to ∙ ap (valued hash) (bag_own hash names over elements start stop last (c.args.singly - 1)
    (at.0.first, it.node) (located_from at.1 forest) streams left own.made met own.is))
