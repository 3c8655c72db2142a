use Rattle.std.proofs.Common.{◌≡◌, ◌+◌, true, false, List, ◌++◌, map, filter, replicate, sym, ◌∙◌, ap, arith, append_assoc}
use Rattle.merkle_forest.specs.Forest.{leaf_count, forest_of}
use Rattle.merkle_forest.specs.Peaks.{located_from}
use Rattle.merkle_forest.specs.Trees.{Located}
use Rattle.merkle_theory.specs.MadeRoots.{peaks_of}
use Rattle.merkle_theory.specs.Pinned.{at_peak, pinned_digest, inner_before}
use Rattle.merkle_theory.specs.Plans.{Lookup, sibling_nodes}
use Rattle.merkle_theory.specs.Ranges.{Digests, is_before, meets, singly}
use Rattle.merkle_proofs.proofs.Extractions.{none_more}
use Rattle.merkle_theory.proofs.Pins.{peak_before, peak_apart}
use Rattle.merkle_theory.proofs.PlanNodes.{on_ok}
use Rattle.merkle_theory.proofs.RangePeaks.{none_from}
use Rattle.merkle_theory.proofs.Walks.{walk_from}
use Rattle.merkle_proofs.proofs.pinned.+append_inner_before.Goals as goal

pub returns-then-first-leaves : goal.returns-then-first-leaves
returns-then-first-leaves g t c =
    let rule = g.F.Family.merge_rule in
    let enc = g.H.Digest.Write.encoding in
    let known : Lookup = at_peak (peaks_of rule c.args.pins.now.start) (map enc c.args.pins.now.digests.now) in
    let digest : Digests = pinned_digest (g.H.Hasher.node_of c.args.pins.now.hasher.now) (replicate g.H.Digest.FixedSize.SIZE 0) known in
    let start = c.args.pins.now.start in
    let stop = c.args.stop in
    let leaves = c.args.leaves in
    let old = map enc c.args.found.now.items in
    let none = none_from rule g.met.F.Family.merges_equals leaves c.args.first (omega (arith, c.if-first-leaves.true)) in
    none_more old ∙ ap (λ ps. old ++ inner_before digest start stop ps) (sym none)

pub returns-then-not-meets_range : goal.returns-then-not-meets_range
returns-then-not-meets_range g t c =
    let rule = g.F.Family.merge_rule in
    let enc = g.H.Digest.Write.encoding in
    let known : Lookup = at_peak (peaks_of rule c.args.pins.now.start) (map enc c.args.pins.now.digests.now) in
    let digest : Digests = pinned_digest (g.H.Hasher.node_of c.args.pins.now.hasher.now) (replicate g.H.Digest.FixedSize.SIZE 0) known in
    let start = c.args.pins.now.start in
    let stop = c.args.stop in
    let leaves = c.args.leaves in
    let old = map enc c.args.found.now.items in
    let at = c.peak_at-next.result in
    let it = c.peak_at-next.ensures.peak in
    let peak : Located = (at.0.first, it.node) in
    let later : List Located = located_from at.1 (forest_of rule leaves) in
    let end : at.1 ≡ at.0.first + leaf_count it.node = omega (arith, it.same, it.next) in
    let step = walk_from rule leaves c.args.first at.0.first at.0.position at.0.height at.1 it in
    let out : meets start stop peak ≡ false = sym (c.meets_range.ensures it.node it.tree) ∙ c.if-not-meets_range.true in
    let new = map enc c.append_inner_before.new.found.items in
    on_ok {P = new ≡ old ++ inner_before digest start stop later} c.append_inner_before.result
    (λ grown. grown ∙ ap (λ ds. old ++ ds) (sym (ap (inner_before digest start stop) step ∙ peak_apart digest start stop peak later out)))
    c.append_inner_before.ensures

pub returns : goal.returns
returns g t c =
    let rule = g.F.Family.merge_rule in
    let enc = g.H.Digest.Write.encoding in
    let known : Lookup = at_peak (peaks_of rule c.args.pins.now.start) (map enc c.args.pins.now.digests.now) in
    let digest : Digests = pinned_digest (g.H.Hasher.node_of c.args.pins.now.hasher.now) (replicate g.H.Digest.FixedSize.SIZE 0) known in
    let start = c.args.pins.now.start in
    let stop = c.args.stop in
    let leaves = c.args.leaves in
    let old = map enc c.args.found.now.items in
    let at = c.peak_at-next.result in
    let it = c.peak_at-next.ensures.peak in
    let peak : Located = (at.0.first, it.node) in
    let later : List Located = located_from at.1 (forest_of rule leaves) in
    let end : at.1 ≡ at.0.first + leaf_count it.node = omega (arith, it.same, it.next) in
    let step = walk_from rule leaves c.args.first at.0.first at.0.position at.0.height at.1 it in
    let met : meets start stop peak ≡ true = sym (c.meets_range.ensures it.node it.tree) ∙ c.if-not-meets_range.false in
    let mid = map enc c.append_nodes_before.new.found.items in
    let new = map enc c.append_inner_before-2.new.found.items in
    let own = singly digest (filter (is_before start) (sibling_nodes start stop peak.0 peak.1)) in
    let first : mid ≡ old ++ own = c.in_ok-append_nodes_before.ensures it.node it.tree in
    on_ok {P = new ≡ mid ++ inner_before digest start stop later} c.append_inner_before-2.result
    (λ grown. grown ∙ ap (λ ds. ds ++ inner_before digest start stop later) first ∙ append_assoc old own (inner_before digest start stop later)
    ∙ ap (λ ds. old ++ ds) (sym (ap (inner_before digest start stop) step ∙ peak_before digest start stop peak later met)))
    c.append_inner_before-2.ensures
