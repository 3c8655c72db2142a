use Rattle.std.proofs.Common.{◌≡◌, suc, ◌+◌, ◌-◌, true, false, List, []}
use Rattle.std.proofs.Common.{◌∷◌, ◌++◌, map, filter, take, replicate, sym, ◌∙◌, ap, arith}
use Rattle.std.proofs.lemmas.Bool.{le-leb, lt-leb}
use Rattle.merkle_forest.specs.Forest.{leaf_count, forest_of}
use Rattle.merkle_forest.specs.Peaks.{located_from}
use Rattle.merkle_forest.specs.Trees.{Located}
use Rattle.merkle_theory.specs.MadeRoots.{peaks_of}
use Rattle.merkle_theory.specs.Pinned.{at_peak, pinned_digest}
use Rattle.merkle_theory.specs.Plans.{Lookup}
use Rattle.merkle_theory.specs.Ranges.{Digests, is_before, singly}
use Rattle.merkle_proofs.proofs.Extractions.{none_more, skipped}
use Rattle.merkle_theory.proofs.Pins.{more_singly, pushed_digest}
use Rattle.merkle_theory.proofs.PlanNodes.{on_ok, passed}
use Rattle.merkle_theory.proofs.RangePeaks.{none_from, take_none}
use Rattle.merkle_theory.proofs.Walks.{walk_from}
use Rattle.merkle_proofs.proofs.pinned.+append_peaks_before.Goals as goal

pub returns-then-first-leaves : goal.returns-then-first-leaves
returns-then-first-leaves g t c =
    let rule = g.F.Family.merge_rule in
    let enc = g.H.Digest.Write.encoding in
    let known : Lookup = at_peak (peaks_of rule c.args.pins.now.start) (map enc c.args.pins.now.digests.now) in
    let digest : Digests = pinned_digest (g.H.Hasher.node_of c.args.pins.now.hasher.now) (replicate g.H.Digest.FixedSize.SIZE 0) known in
    let start = c.args.pins.now.start in
    let leaves = c.args.leaves in
    let old = map enc c.args.found.now.items in
    let none = none_from rule g.met.F.Family.merges_equals leaves c.args.first (omega (arith, c.if-first-leaves.true)) in
    let nodes = ap (λ ps. filter (is_before start) (take c.args.most ps)) none ∙ ap (filter (is_before start)) (take_none c.args.most) in
    none_more old ∙ ap (λ ns. old ++ singly digest ns) (sym nodes)

pub returns-then-most-eq0 : goal.returns-then-most-eq0
returns-then-most-eq0 g t c =
    let rule = g.F.Family.merge_rule in
    let enc = g.H.Digest.Write.encoding in
    let known : Lookup = at_peak (peaks_of rule c.args.pins.now.start) (map enc c.args.pins.now.digests.now) in
    let digest : Digests = pinned_digest (g.H.Hasher.node_of c.args.pins.now.hasher.now) (replicate g.H.Digest.FixedSize.SIZE 0) known in
    let start = c.args.pins.now.start in
    let leaves = c.args.leaves in
    let old = map enc c.args.found.now.items in
    let nodes = ap (λ k. filter (is_before start) (take k (located_from c.args.first (forest_of rule leaves)))) c.if-most-eq0.true in
    none_more old ∙ ap (λ ns. old ++ singly digest ns) (sym nodes)

pub returns-then-next-pins : goal.returns-then-next-pins
returns-then-next-pins g t c =
    let rule = g.F.Family.merge_rule in
    let enc = g.H.Digest.Write.encoding in
    let known : Lookup = at_peak (peaks_of rule c.args.pins.now.start) (map enc c.args.pins.now.digests.now) in
    let digest : Digests = pinned_digest (g.H.Hasher.node_of c.args.pins.now.hasher.now) (replicate g.H.Digest.FixedSize.SIZE 0) known in
    let start = c.args.pins.now.start in
    let leaves = c.args.leaves in
    let old = map enc c.args.found.now.items in
    let at = c.peak_at-next.result in
    let it = c.peak_at-next.ensures.peak in
    let peak : Located = (at.0.first, it.node) in
    let later : List Located = located_from at.1 (forest_of rule leaves) in
    let end : at.1 ≡ at.0.first + leaf_count it.node = omega (arith, it.same, it.next) in
    let step = walk_from rule leaves c.args.first at.0.first at.0.position at.0.height at.1 it in
    let more : c.args.most ≡ suc (c.args.most - 1) = omega (arith, c.if-most-eq0.false) in
    let out : is_before start peak ≡ false = lt-leb (at.0.first + leaf_count it.node) start (omega (arith, end, c.if-next-pins.true)) in
    let nodes : filter (is_before start) (take c.args.most (located_from c.args.first (forest_of rule leaves)))
    ≡ filter (is_before start) (take (c.args.most - 1) later) =
    ap (λ ps. filter (is_before start) (take c.args.most ps)) step ∙ ap (λ k. filter (is_before start) (take k (peak ∷ later))) more
    ∙ skipped (is_before start) peak (take (c.args.most - 1) later) out in
    let new = map enc c.append_peaks_before.new.found.items in
    on_ok {P = new ≡ old ++ singly digest (filter (is_before start) (take (c.args.most - 1) later))} c.append_peaks_before.result
    (λ grown. grown ∙ ap (λ ns. old ++ singly digest ns) (sym nodes)) c.append_peaks_before.ensures

pub returns : goal.returns
returns g t c =
    let rule = g.F.Family.merge_rule in
    let enc = g.H.Digest.Write.encoding in
    let known : Lookup = at_peak (peaks_of rule c.args.pins.now.start) (map enc c.args.pins.now.digests.now) in
    let digest : Digests = pinned_digest (g.H.Hasher.node_of c.args.pins.now.hasher.now) (replicate g.H.Digest.FixedSize.SIZE 0) known in
    let start = c.args.pins.now.start in
    let leaves = c.args.leaves in
    let old = map enc c.args.found.now.items in
    let at = c.peak_at-next.result in
    let it = c.peak_at-next.ensures.peak in
    let peak : Located = (at.0.first, it.node) in
    let later : List Located = located_from at.1 (forest_of rule leaves) in
    let end : at.1 ≡ at.0.first + leaf_count it.node = omega (arith, it.same, it.next) in
    let step = walk_from rule leaves c.args.first at.0.first at.0.position at.0.height at.1 it in
    let more : c.args.most ≡ suc (c.args.most - 1) = omega (arith, c.if-most-eq0.false) in
    let on : is_before start peak ≡ true = le-leb (at.0.first + leaf_count it.node) start (omega (arith, end, c.if-next-pins.false)) in
    let others : List Located = filter (is_before start) (take (c.args.most - 1) later) in
    let nodes : filter (is_before start) (take c.args.most (located_from c.args.first (forest_of rule leaves))) ≡ peak ∷ others =
    ap (λ ps. filter (is_before start) (take c.args.most ps)) step ∙ ap (λ k. filter (is_before start) (take k (peak ∷ later))) more
    ∙ passed (is_before start) peak (take (c.args.most - 1) later) on in
    let mid = map enc c.push.new.self.items in
    let new = map enc c.append_peaks_before-2.new.found.items in
    let one : mid ≡ old ++ singly digest (peak ∷ []) =
    pushed_digest enc c.args.found.now.items c.push.new.self.items c.digest_before.result (digest at.0.first it.node) c.in_ok-push.ensures.items
    (c.digest_before.ensures it.node it.tree) in
    on_ok {P = new ≡ mid ++ singly digest others} c.append_peaks_before-2.result
    (λ grown. more_singly digest old mid new (peak ∷ []) others one grown ∙ ap (λ ns. old ++ singly digest ns) (sym nodes))
    c.append_peaks_before-2.ensures
