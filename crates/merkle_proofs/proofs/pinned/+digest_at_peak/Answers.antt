use Rattle.std.proofs.Common.{List, ◌∷◌, map, option_map, sym, ◌∙◌, ap, arith}
use Rattle.merkle_forest.specs.Forest.{forest_of}
use Rattle.merkle_forest.specs.Peaks.{located_from}
use Rattle.merkle_forest.specs.Trees.{Located}
use Rattle.merkle_theory.specs.Pinned.{at_peak}
use Rattle.merkle_theory.proofs.Pins.{no_digest_there, at_here, at_later}
use Rattle.merkle_theory.proofs.RangePeaks.{none_from}
use Rattle.merkle_theory.proofs.RangeTrees.{no_digest}
use Rattle.merkle_theory.proofs.Walks.{walk_from}
use Rattle.merkle_proofs.proofs.pinned.+digest_at_peak.Goals as goal

pub returns-then-first-leaves : goal.returns-then-first-leaves
returns-then-first-leaves g t c =
    let enc = g.D.Write.encoding in
    sym (ap (λ ps. at_peak ps (map enc c.args.digests.now) c.args.position)
    (none_from g.F.Family.merge_rule g.met.F.Family.merges_equals c.args.leaves c.args.first (omega (arith, c.if-first-leaves.true))))

pub returns-in_err-own : goal.returns-in_err-own
returns-in_err-own g t c =
    let enc = g.D.Write.encoding in
    let ps = located_from c.args.first (forest_of g.F.Family.merge_rule c.args.leaves) in
    ap (option_map enc) c.from_residual.ensures
    ∙ sym
    (ap (λ ds. at_peak ps (map enc ds) c.args.position) (no_digest c.args.digests.now c.in_err-own.ensures.cases) ∙ no_digest_there ps c.args.position)

pub returns-then-peak-position : goal.returns-then-peak-position
returns-then-peak-position g t c =
    let rule = g.F.Family.merge_rule in
    let enc = g.D.Write.encoding in
    let at = c.peak_at-next.result in
    let it = c.peak_at-next.ensures.peak in
    let peak : Located = (at.0.first, it.node) in
    let later : List Located = located_from at.1 (forest_of rule c.args.leaves) in
    let step = walk_from rule c.args.leaves c.args.first at.0.first at.0.position at.0.height at.1 it in
    sym (ap (λ ps. at_peak ps (map enc c.args.digests.now) c.args.position) step
    ∙ ap (λ ds. at_peak (peak ∷ later) (map enc ds) c.args.position) c.in_ok-own.ensures.cases.0
    ∙ at_here peak later (enc c.in_ok-own.own.now) (map enc c.in_ok-own.others.now) c.args.position (sym it.tree.subtree ∙ c.if-peak-position.true))

pub returns : goal.returns
returns g t c =
    let rule = g.F.Family.merge_rule in
    let enc = g.D.Write.encoding in
    let at = c.peak_at-next.result in
    let it = c.peak_at-next.ensures.peak in
    let peak : Located = (at.0.first, it.node) in
    let later : List Located = located_from at.1 (forest_of rule c.args.leaves) in
    let step = walk_from rule c.args.leaves c.args.first at.0.first at.0.position at.0.height at.1 it in
    c.digest_at_peak.ensures
    ∙ sym (ap (λ ps. at_peak ps (map enc c.args.digests.now) c.args.position) step
    ∙ ap (λ ds. at_peak (peak ∷ later) (map enc ds) c.args.position) c.in_ok-own.ensures.cases.0
    ∙ at_later peak later (enc c.in_ok-own.own.now) (map enc c.in_ok-own.others.now) c.args.position
    (λ e. c.if-peak-position.false (it.tree.subtree ∙ e)))
