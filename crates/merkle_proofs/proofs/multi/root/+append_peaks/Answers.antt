use Rattle.std.proofs.Common.{◌≡◌, ◌+◌, List, [], ◌∷◌, ◌++◌, map, None, option_map, sym, ◌∙◌, ap, subst, arith}
use Rattle.std.proofs.lemmas.List.{map-append}
use Rattle.merkle_forest.specs.Forest.{leaf_count, forest_of}
use Rattle.merkle_forest.specs.Made.{value}
use Rattle.merkle_forest.specs.Peaks.{located_from}
use Rattle.merkle_forest.specs.Trees.{Located}
use Rattle.merkle_theory.specs.MultiReads.{shown_from, shown_at, locations_of, ranked, read_shown, read_peaks, ArePeaksRead}
use Rattle.merkle_theory.proofs.PeakReads.{peaks_end, peak_absent, peak_read}
use Rattle.merkle_theory.proofs.PlanFolds.{if_ok}
use Rattle.merkle_theory.proofs.RangePeaks.{none_from}
use Rattle.merkle_theory.proofs.ShownWalks.{own_of, others_of}
use Rattle.merkle_theory.proofs.Walks.{walk_from}
use Rattle.merkle_proofs.proofs.multi.root.+append_peaks.Goals as goal

pub returns-then-first-leaves : goal.returns-then-first-leaves
returns-then-first-leaves g t c over shown needed all by is =
    let rule = g.F.Family.merge_rule in
    let known = ranked needed (map g.H.Digest.Write.encoding c.args.known.now.digests.now) in
    let none = none_from rule g.met.F.Family.merges_equals c.args.leaves c.args.first (omega
    (arith, c.if-first-leaves.true)) in
    peaks_end g.H.Hasher.hash_of (read_peaks over (shown_at shown) (locations_of shown) known
    (located_from c.args.first (forest_of rule c.args.leaves)))
    (map g.H.Digest.Write.encoding c.args.found.now.items) (ap (read_peaks over (shown_at shown)
    (locations_of shown) known) none)

pub returns-in_default : goal.returns-in_default
returns-in_default g t c over shown needed all by is =
    let rule = g.F.Family.merge_rule in
    let hash = g.H.Hasher.hash_of in
    let known = ranked needed (map g.H.Digest.Write.encoding c.args.known.now.digests.now) in
    let at = c.peak_at-next.result in
    let it = c.peak_at-next.ensures.peak in
    let end : at.1 ≡ at.0.first + leaf_count it.node = omega (arith, it.same, it.next) in
    let step = walk_from rule c.args.leaves c.args.first at.0.first at.0.position at.0.height at.1 it in
    let later : List Located = located_from at.1 (forest_of rule c.args.leaves) in
    let from = is ∙ ap (λ n. shown_from n shown) (sym it.same) in
    let own = own_of (λ e. (e.0.now, e.1)) c.args.elements.now c.split_before.result.0.now at.1 at.0.first it.node
    shown c.split_before.ensures.before end from in
    let one = read_shown over (shown_at shown) (locations_of shown) known at.0.first it.node in
    let none = sym (c.shown_digest.ensures it.node over shown needed all it.tree by own)
    ∙ ap (option_map g.H.Digest.Write.encoding) c.in_default.is in
    subst (λ ps. option_map (map (value hash)) (read_peaks over (shown_at shown) (locations_of shown) known ps)
    ≡ None) (sym step)
    (peak_absent hash one (read_peaks over (shown_at shown) (locations_of shown) known later) none)

pub returns : goal.returns
returns g t c over shown needed all by is =
    let rule = g.F.Family.merge_rule in
    let hash = g.H.Hasher.hash_of in
    let enc = g.H.Digest.Write.encoding in
    let known = ranked needed (map enc c.args.known.now.digests.now) in
    let at = c.peak_at-next.result in
    let it = c.peak_at-next.ensures.peak in
    let end : at.1 ≡ at.0.first + leaf_count it.node = omega (arith, it.same, it.next) in
    let step = walk_from rule c.args.leaves c.args.first at.0.first at.0.position at.0.height at.1 it in
    let later : List Located = located_from at.1 (forest_of rule c.args.leaves) in
    let from = is ∙ ap (λ n. shown_from n shown) (sym it.same) in
    let elements = c.args.elements.now in
    let own = own_of (λ e. (e.0.now, e.1)) elements c.split_before.result.0.now at.1 at.0.first it.node shown
    c.split_before.ensures.before end from in
    let others = others_of (λ e. (e.0.now, e.1)) elements c.split_before.result.1.now at.1 at.0.first shown
    c.split_before.ensures.after (omega (arith, end)) from in
    let one = read_shown over (shown_at shown) (locations_of shown) known at.0.first it.node in
    let old = map enc c.args.found.now.items in
    let mid = map enc c.push.new.self.items in
    let new = map enc c.append_peaks.new.found.items in
    let d = enc c.in-Some.digest in
    let there = sym (c.shown_digest.ensures it.node over shown needed all it.tree by own)
    ∙ ap (option_map enc) c.in-Some.is in
    let more : mid ≡ old ++ d ∷ [] =
    ap (map enc) c.in_ok-push.ensures.items ∙ map-append enc c.args.found.now.items (c.in-Some.digest ∷ []) in
    if_ok {P = ArePeaksRead hash (read_peaks over (shown_at shown) (locations_of shown) known later) mid new}
    c.append_peaks.result
    (λ whole rest. subst (λ ps. ArePeaksRead hash (read_peaks over (shown_at shown)
    (locations_of shown) known ps) old new whole) (sym step)
    (peak_read hash one (read_peaks over (shown_at shown)
    (locations_of shown) known later) d old mid new whole there more rest))
    (c.append_peaks.ensures over shown needed all by others)
