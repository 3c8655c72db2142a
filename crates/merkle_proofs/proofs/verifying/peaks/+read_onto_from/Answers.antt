use Rattle.std.proofs.Common.{◌≡◌, suc, ◌+◌, ◌-◌, ◌∷◌, length, map, Some, option_map, sym, ◌∙◌, ap, arith}
use Rattle.merkle_forest.specs.Forest.{leaf_count, forest_of}
use Rattle.merkle_forest.specs.Made.{Made, value}
use Rattle.merkle_forest.specs.Peaks.{located_from}
use Rattle.merkle_forest.specs.Laws.Peaks.{located_from-peak}
use Rattle.merkle_theory.specs.MadeTrees.{Elements, from}
use Rattle.merkle_theory.specs.MadeRoots.{Streams, folded, read_peak, read_onto}
use Rattle.merkle_theory.specs.Reads.{valued}
use Rattle.merkle_theory.proofs.RangePeaks.{none_from, onto_none, onto_back_missing, onto_back, onto_own_missing, onto_step, fold_value}
use Rattle.merkle_theory.proofs.RangeTrees.{read_some}
use Rattle.merkle_theory.proofs.Walks.{walk_from}
use Rattle.merkle_proofs.proofs.verifying.peaks.+read_onto_from.Goals as goal

pub returns-then-first-reader : goal.returns-then-first-reader
returns-then-first-reader g t c made names last n over same by =
    let rule = g.F.Family.merge_rule in
    let hash = g.H.Hasher.hash_of in
    let enc = g.H.Digest.Write.encoding in
    let start = c.args.reader.now.start in
    let stop = c.args.reader.now.start + length c.args.reader.now.elements.now in
    let elements : Elements = from start (map (λ e. e.now) c.args.reader.now.elements.now) in
    let leaves = c.args.reader.now.leaves in
    let forest = forest_of rule leaves in
    let streams : Streams = (map enc c.args.outer.now, map enc c.args.inner.now) in
    let none = none_from rule g.met.F.Family.merges_equals leaves c.args.first (omega (arith, c.if-first-reader.true)) in
    ap (λ d. Some (d, streams)) (sym same)
    ∙ sym (ap (λ ps. valued hash (read_onto names over elements start stop last c.args.singly n made ps streams)) none
    ∙ ap (valued hash) (onto_none hash names over elements start stop last c.args.singly n made streams))

pub returns-in_err-others : goal.returns-in_err-others
returns-in_err-others g t c made names last n over same by =
    let rule = g.F.Family.merge_rule in
    let hash = g.H.Hasher.hash_of in
    let enc = g.H.Digest.Write.encoding in
    let start = c.args.reader.now.start in
    let stop = c.args.reader.now.start + length c.args.reader.now.elements.now in
    let elements : Elements = from start (map (λ e. e.now) c.args.reader.now.elements.now) in
    let leaves = c.args.reader.now.leaves in
    let forest = forest_of rule leaves in
    let streams : Streams = (map enc c.args.outer.now, map enc c.args.inner.now) in
    let there = c.requires.begins (omega (arith, c.if-first-reader.false)) in
    let beyond = located_from (c.args.first + leaf_count there.0) forest in
    let parts : located_from c.args.first forest ≡ (c.args.first, there.0) ∷ beyond = located_from-peak c.args.first there.0 forest there.1 in
    ap (option_map _) c.from_residual.ensures
    ∙ sym (ap (λ ps. valued hash (read_onto names over elements start stop last c.args.singly n made ps streams)) parts
    ∙ ap (λ k. valued hash (read_onto names over elements start stop last k n made ((c.args.first, there.0) ∷ beyond) streams)) c.if-singly-eq0.true
    ∙ onto_back_missing hash names over elements start stop last n made (c.args.first, there.0) beyond streams
    (sym (c.in_err-others.ensures (c.args.first, there.0) beyond names last n over parts by)))

pub returns-then-singly-eq0 : goal.returns-then-singly-eq0
returns-then-singly-eq0 g t c made names last n over same by =
    let rule = g.F.Family.merge_rule in
    let hash = g.H.Hasher.hash_of in
    let enc = g.H.Digest.Write.encoding in
    let start = c.args.reader.now.start in
    let stop = c.args.reader.now.start + length c.args.reader.now.elements.now in
    let elements : Elements = from start (map (λ e. e.now) c.args.reader.now.elements.now) in
    let leaves = c.args.reader.now.leaves in
    let forest = forest_of rule leaves in
    let streams : Streams = (map enc c.args.outer.now, map enc c.args.inner.now) in
    let there = c.requires.begins (omega (arith, c.if-first-reader.false)) in
    let beyond = located_from (c.args.first + leaf_count there.0) forest in
    let parts : located_from c.args.first forest ≡ (c.args.first, there.0) ∷ beyond = located_from-peak c.args.first there.0 forest there.1 in
    let rest : Streams = (map enc c.in_ok-others.outer.now, map enc c.in_ok-others.inner.now) in
    ap (λ d. Some (d, rest)) c.fold.ensures
    ∙ sym (ap (λ ps. valued hash (read_onto names over elements start stop last c.args.singly n made ps streams)) parts
    ∙ ap (λ k. valued hash (read_onto names over elements start stop last k n made ((c.args.first, there.0) ∷ beyond) streams)) c.if-singly-eq0.true
    ∙ onto_back hash names over elements start stop last n made (c.args.first, there.0) beyond streams rest (enc c.args.so_far)
    (enc c.in_ok-others.others) same
    (sym (c.in_ok-others.ensures (c.args.first, there.0) beyond names last n over parts by)))

pub returns-in_err-own : goal.returns-in_err-own
returns-in_err-own g t c made names last n over same by =
    let rule = g.F.Family.merge_rule in
    let hash = g.H.Hasher.hash_of in
    let enc = g.H.Digest.Write.encoding in
    let start = c.args.reader.now.start in
    let stop = c.args.reader.now.start + length c.args.reader.now.elements.now in
    let elements : Elements = from start (map (λ e. e.now) c.args.reader.now.elements.now) in
    let leaves = c.args.reader.now.leaves in
    let forest = forest_of rule leaves in
    let streams : Streams = (map enc c.args.outer.now, map enc c.args.inner.now) in
    let at = c.peak_at-next.result in
    let it = c.peak_at-next.ensures.peak in
    let step : located_from c.args.first forest ≡ (at.0.first, it.node) ∷ located_from at.1 forest =
    walk_from rule leaves c.args.first at.0.first at.0.position at.0.height at.1 it in
    let more : c.args.singly ≡ suc (c.args.singly - 1) = omega (arith, c.if-singly-eq0.false) in
    ap (option_map _) c.from_residual-in_err-own.ensures
    ∙ sym (ap (λ ps. valued hash (read_onto names over elements start stop last c.args.singly n made ps streams)) step
    ∙ ap (λ k. valued hash (read_onto names over elements start stop last k n made ((at.0.first, it.node) ∷ located_from at.1 forest) streams)) more
    ∙ onto_own_missing hash names over elements start stop last (c.args.singly - 1) n made (at.0.first, it.node) (located_from at.1 forest) streams
    (sym (c.in_err-own.ensures it.node over it.tree by)))

pub returns : goal.returns
returns g t c made names last n over same by =
    let rule = g.F.Family.merge_rule in
    let hash = g.H.Hasher.hash_of in
    let enc = g.H.Digest.Write.encoding in
    let start = c.args.reader.now.start in
    let stop = c.args.reader.now.start + length c.args.reader.now.elements.now in
    let elements : Elements = from start (map (λ e. e.now) c.args.reader.now.elements.now) in
    let leaves = c.args.reader.now.leaves in
    let forest = forest_of rule leaves in
    let streams : Streams = (map enc c.args.outer.now, map enc c.args.inner.now) in
    let at = c.peak_at-next.result in
    let it = c.peak_at-next.ensures.peak in
    let step : located_from c.args.first forest ≡ (at.0.first, it.node) ∷ located_from at.1 forest =
    walk_from rule leaves c.args.first at.0.first at.0.position at.0.height at.1 it in
    let more : c.args.singly ≡ suc (c.args.singly - 1) = omega (arith, c.if-singly-eq0.false) in
    let left : Streams = (map enc c.in_ok-own.outer.now, map enc c.in_ok-own.inner.now) in
    let own = read_some hash (read_peak over elements start stop (at.0.first, it.node) streams) (enc c.in_ok-own.own) left
    (sym (c.in_ok-own.ensures it.node over it.tree by)) in
    let next : Made = folded names 1 n made own.made in
    let next_is : value hash next ≡ enc c.fold-so_far.result =
    fold_value hash names over elements start stop last 1 n made own.made (enc c.args.so_far) (enc c.in_ok-own.own) same own.same
    ∙ sym c.fold-so_far.ensures in
    c.read_onto_from.ensures next names last (suc n) over next_is by
    ∙ sym (ap (λ ps. valued hash (read_onto names over elements start stop last c.args.singly n made ps streams)) step
    ∙ ap (λ k. valued hash (read_onto names over elements start stop last k n made ((at.0.first, it.node) ∷ located_from at.1 forest) streams)) more
    ∙ ap (valued hash) (onto_step hash names over elements start stop last (c.args.singly - 1) n made own.made (at.0.first, it.node)
    (located_from at.1 forest) streams left own.is))
