use Rattle.std.proofs.Common.{◌≡◌, ℕ, suc, ◌+◌, ◌-◌, true, false, List, ◌∷◌, length, map, Some, sym, ◌∙◌, ap, subst, arith}
use Rattle.std.proofs.lemmas.Bool.{le-leb, lt-leb}
use Rattle.merkle_forest.specs.Forest.{leaf_count, forest_of}
use Rattle.merkle_forest.specs.Peaks.{located_from}
use Rattle.merkle_forest.specs.Trees.{Located}
use Rattle.merkle_theory.specs.Ranges.{is_before}
use Rattle.merkle_theory.specs.MadeTrees.{Elements, from}
use Rattle.merkle_theory.specs.MadeRoots.{Streams, read_onto, read_group}
use Rattle.merkle_theory.specs.Reads.{valued}
use Rattle.merkle_theory.proofs.RangePeaks.{none_from, onto_none, group_none, group_zero, group_met, group_before}
use Rattle.merkle_theory.proofs.Walks.{walk_from}
use Rattle.merkle_proofs.proofs.verifying.peaks.+read_group_from.Goals as goal

pub returns-then-first-reader : goal.returns-then-first-reader
returns-then-first-reader g t c made names last n over same by =
    let rule = g.F.Family.merge_rule in
    let hash = g.H.Hasher.hash_of in
    let enc = g.H.Digest.Write.encoding in
    let start = c.args.reader.now.start in
    let stop = c.args.reader.now.start + length c.args.reader.now.elements.now in
    let elements : Elements = from start (map (λ e. e.now) c.args.reader.now.elements.now) in
    let leaves = c.args.reader.now.leaves in
    let forest = forest_of rule leaves in
    let streams : Streams = (map enc c.args.outer.now, map enc c.args.inner.now) in
    let none = none_from rule g.met.F.Family.merges_equals leaves c.args.first (omega (arith, c.if-first-reader.true)) in
    ap (λ d. Some (d, streams)) (sym same)
    ∙ sym (ap (λ ps. valued hash (read_group names over elements start stop last c.args.singly n made ps streams)) none
    ∙ ap (valued hash) (group_none hash names over elements start stop last c.args.singly n made streams
    ∙ onto_none hash names over elements start stop last c.args.singly n made streams))

pub returns-then-singly-eq0 : goal.returns-then-singly-eq0
returns-then-singly-eq0 g t c made names last n over same by =
    let rule = g.F.Family.merge_rule in
    let hash = g.H.Hasher.hash_of in
    let enc = g.H.Digest.Write.encoding in
    let start = c.args.reader.now.start in
    let stop = c.args.reader.now.start + length c.args.reader.now.elements.now in
    let elements : Elements = from start (map (λ e. e.now) c.args.reader.now.elements.now) in
    let leaves = c.args.reader.now.leaves in
    let forest = forest_of rule leaves in
    let streams : Streams = (map enc c.args.outer.now, map enc c.args.inner.now) in
    c.read_onto_from.ensures made names last n over same by
    ∙ sym (ap (λ k. valued hash (read_group names over elements start stop last k n made (located_from c.args.first forest) streams)) c.if-singly-eq0.true
    ∙ ap (valued hash) (group_zero hash names over elements start stop last n made (located_from c.args.first forest) streams))

pub returns-then-next-reader : goal.returns-then-next-reader
returns-then-next-reader g t c made names last n over same by =
    let rule = g.F.Family.merge_rule in
    let hash = g.H.Hasher.hash_of in
    let enc = g.H.Digest.Write.encoding in
    let start = c.args.reader.now.start in
    let stop = c.args.reader.now.start + length c.args.reader.now.elements.now in
    let elements : Elements = from start (map (λ e. e.now) c.args.reader.now.elements.now) in
    let leaves = c.args.reader.now.leaves in
    let forest = forest_of rule leaves in
    let streams : Streams = (map enc c.args.outer.now, map enc c.args.inner.now) in
    let at = c.peak_at-next.result in
    let it = c.peak_at-next.ensures.peak in
    let step : located_from c.args.first forest ≡ (at.0.first, it.node) ∷ located_from at.1 forest =
    walk_from rule leaves c.args.first at.0.first at.0.position at.0.height at.1 it in
    let more : c.args.singly ≡ suc (c.args.singly - 1) = omega (arith, c.if-singly-eq0.false) in
    let met : is_before start (at.0.first, it.node)
    ≡ false = lt-leb (at.0.first + leaf_count it.node) start (omega
    (arith, it.same, it.next, c.if-next-reader.true)) in
    let Is : ℕ → List Located → Type 0 = λ k ps. valued hash (read_onto names over elements start stop last k n made ps streams)
    ≡ valued hash (read_group names over elements start stop last k n made ps streams) in
    c.read_onto_from-then-next-reader.ensures made names last n over same by
    ∙ subst (λ ps. Is c.args.singly ps) (sym step) (subst (λ k. Is k ((at.0.first, it.node) ∷ located_from at.1 forest)) (sym more)
    (sym (ap (valued hash) (group_met hash names over elements start stop last (c.args.singly - 1) n made
    (at.0.first, it.node) (located_from at.1 forest) streams met))))

pub returns : goal.returns
returns g t c made names last n over same by =
    let rule = g.F.Family.merge_rule in
    let hash = g.H.Hasher.hash_of in
    let enc = g.H.Digest.Write.encoding in
    let start = c.args.reader.now.start in
    let stop = c.args.reader.now.start + length c.args.reader.now.elements.now in
    let elements : Elements = from start (map (λ e. e.now) c.args.reader.now.elements.now) in
    let leaves = c.args.reader.now.leaves in
    let forest = forest_of rule leaves in
    let streams : Streams = (map enc c.args.outer.now, map enc c.args.inner.now) in
    let at = c.peak_at-next.result in
    let it = c.peak_at-next.ensures.peak in
    let step : located_from c.args.first forest ≡ (at.0.first, it.node) ∷ located_from at.1 forest =
    walk_from rule leaves c.args.first at.0.first at.0.position at.0.height at.1 it in
    let more : c.args.singly ≡ suc (c.args.singly - 1) = omega (arith, c.if-singly-eq0.false) in
    let before : is_before start (at.0.first, it.node)
    ≡ true = le-leb (at.0.first + leaf_count it.node) start (omega
    (arith, it.same, it.next, c.if-next-reader.false)) in
    c.read_group_from.ensures made names last (suc n) over same by
    ∙ sym (ap (λ ps. valued hash (read_group names over elements start stop last c.args.singly n made ps streams)) step
    ∙ ap (λ k. valued hash (read_group names over elements start stop last k n made ((at.0.first, it.node) ∷ located_from at.1 forest) streams)) more
    ∙ ap (valued hash) (group_before hash names over elements start stop last (c.args.singly - 1) n made
    (at.0.first, it.node) (located_from at.1 forest) streams before))
