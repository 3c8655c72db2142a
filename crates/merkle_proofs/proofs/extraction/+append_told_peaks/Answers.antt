use Rattle.std.proofs.Common.{◌≡◌, ◌+◌, true, false, List, ◌++◌, length, sym, ◌∙◌, ap, arith}
use Rattle.merkle_forest.specs.Forest.{forest_of}
use Rattle.merkle_forest.specs.Peaks.{located_from}
use Rattle.merkle_forest.specs.Trees.{Located}
use Rattle.merkle_core_parts.specs.Mem.{encoded}
use Rattle.merkle_proofs.specs.Extracted.{inner_told, told_nodes, node_digests}
use Rattle.merkle_theory.specs.Ranges.{meets, inner_digests}
use Rattle.merkle_proofs.proofs.Extractions.{none_more, peaks_out, peaks_met, digests_out, digests_met, grown_both}
use Rattle.merkle_theory.proofs.PlanNodes.{on_ok}
use Rattle.merkle_theory.proofs.RangePeaks.{none_from}
use Rattle.merkle_theory.proofs.Walks.{walk_from}
use Rattle.merkle_proofs.proofs.extraction.+append_told_peaks.Goals as goal

pub returns-then-first-reader : goal.returns-then-first-reader
returns-then-first-reader g t c digest made is =
    let enc = g.H.Digest.Write.encoding in
    let start = c.args.reader.now.start in
    let stop = start + length c.args.reader.now.elements.now in
    let none = none_from g.F.Family.merge_rule g.met.F.Family.merges_equals c.args.reader.now.leaves c.args.first (omega (arith, c.if-first-reader.true)) in
    none_more (encoded enc c.args.found.now.items)
    ∙ ap (λ ps. encoded enc c.args.found.now.items ++ node_digests digest (inner_told start stop ps)) (sym none)

pub returns-then-not-meets_range : goal.returns-then-not-meets_range
returns-then-not-meets_range g t c digest made is =
    let rule = g.F.Family.merge_rule in
    let enc = g.H.Digest.Write.encoding in
    let start = c.args.reader.now.start in
    let stop = start + length c.args.reader.now.elements.now in
    let leaves = c.args.reader.now.leaves in
    let at = c.peak_at-next.result in
    let it = c.peak_at-next.ensures.peak in
    let peak : Located = (at.0.first, it.node) in
    let rest : List Located = located_from at.1 (forest_of rule leaves) in
    let step = walk_from rule leaves c.args.first at.0.first at.0.position at.0.height at.1 it in
    let out : meets start stop peak ≡ false = sym (c.meets_range.ensures it.node it.tree) ∙ c.if-not-meets_range.true in
    let old = encoded enc c.args.found.now.items in
    let new = encoded enc c.append_told_peaks.new.found.items in
    on_ok {P = new ≡ old ++ node_digests digest (inner_told start stop rest)} c.append_told_peaks.result
    (λ grown. grown ∙ ap (λ ns. old ++ node_digests digest ns) (sym (ap (inner_told start stop) step ∙ peaks_out digest start stop peak rest out)))
    (c.append_told_peaks.ensures digest made (is ∙ ap (inner_digests digest start stop) step ∙ digests_out digest start stop peak rest out))

pub returns : goal.returns
returns g t c digest made is =
    let rule = g.F.Family.merge_rule in
    let enc = g.H.Digest.Write.encoding in
    let start = c.args.reader.now.start in
    let stop = start + length c.args.reader.now.elements.now in
    let leaves = c.args.reader.now.leaves in
    let at = c.peak_at-next.result in
    let it = c.peak_at-next.ensures.peak in
    let peak : Located = (at.0.first, it.node) in
    let rest : List Located = located_from at.1 (forest_of rule leaves) in
    let step = walk_from rule leaves c.args.first at.0.first at.0.position at.0.height at.1 it in
    let met : meets start stop peak ≡ true = sym (c.meets_range.ensures it.node it.tree) ∙ c.if-not-meets_range.false in
    let old = encoded enc c.args.found.now.items in
    let mid = encoded enc c.append_told.new.found.items in
    let new = encoded enc c.append_told_peaks-2.new.found.items in
    let first = c.in_ok-later.ensures it.node digest (inner_digests digest start stop rest) it.tree made
    (is ∙ ap (inner_digests digest start stop) step ∙ digests_met digest start stop peak rest met) in
    on_ok {P = new ≡ mid ++ node_digests digest (inner_told start stop rest)} c.append_told_peaks-2.result
    (λ grown. grown_both digest old mid new (told_nodes start stop peak.0 peak.1) (inner_told start stop rest) first.1 grown
    ∙ ap (λ ns. old ++ node_digests digest ns) (sym (ap (inner_told start stop) step ∙ peaks_met digest start stop peak rest met)))
    (c.append_told_peaks-2.ensures digest made first.0.left_is)
