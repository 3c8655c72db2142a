use Rattle.std.proofs.Common.{sym, arith}
use Rattle.merkle_forest.specs.Laws.Peaks.{step}
use Rattle.merkle_core_parts.specs.Mem.{node_at}
use Rattle.merkle_core_parts.specs.Laws.Peaks.{begins, digests-step}
use Rattle.merkle_memory.proofs.peaks.peak_at.Goals as goal

pub peak_from-position-requires-clause-begins : goal.peak_from-position-requires-clause-begins
peak_from-position-requires-clause-begins g c =
    begins g.F.Family.merge_rule g.met.F.Family.merges_equals c.args.leaves c.args.first c.requires.cut
    c.requires.before

pub peak_digest-requires-clause-peak : goal.peak_digest-requires-clause-peak
peak_digest-requires-clause-peak g c =
    let found = begins g.F.Family.merge_rule g.met.F.Family.merges_equals c.args.leaves c.args.first c.requires.cut
    c.requires.before in
    (found.0, (c.args.first, found.1), sym (c.peak_from-position.ensures found.0 found.1).0)

pub overflow_shl-result : goal.overflow_shl-result
overflow_shl-result g c =
    (step g.F.Family.merge_rule g.met.F.Family.merges_equals c.args.leaves c.args.first c.peak_from-position.result.0
    c.peak_from-position.result.1 c.requires.few c.requires.cut c.requires.before c.peak_from-position.ensures).low

pub overflow_add-result : goal.overflow_add-result
overflow_add-result g c =
    let it = step g.F.Family.merge_rule g.met.F.Family.merges_equals c.args.leaves c.args.first
    c.peak_from-position.result.0 c.peak_from-position.result.1 c.requires.few c.requires.cut c.requires.before
    c.peak_from-position.ensures in
    omega (arith, it.fits, c.requires.few)

pub returns-clause-digest : goal.returns-clause-digest
returns-clause-digest g c =
    let it = step g.F.Family.merge_rule g.met.F.Family.merges_equals c.args.leaves c.args.first
    c.peak_from-position.result.0 c.peak_from-position.result.1 c.requires.few c.requires.cut c.requires.before
    c.peak_from-position.ensures in
    digests-step g.F.Family.merge_rule c.args.leaves c.args.first c.peak_from-position.result.0
    c.peak_from-position.result.1 _ (node_at g.F.Family.merge_rule c.args.tree.now) _ it c.peak_digest.ensures

pub returns-clause-cut : goal.returns-clause-cut
returns-clause-cut g c =
    (step g.F.Family.merge_rule g.met.F.Family.merges_equals c.args.leaves c.args.first c.peak_from-position.result.0
    c.peak_from-position.result.1 c.requires.few c.requires.cut c.requires.before c.peak_from-position.ensures).cut

pub returns-clause-further : goal.returns-clause-further
returns-clause-further g c =
    (step g.F.Family.merge_rule g.met.F.Family.merges_equals c.args.leaves c.args.first c.peak_from-position.result.0
    c.peak_from-position.result.1 c.requires.few c.requires.cut c.requires.before c.peak_from-position.ensures).further

pub returns-clause-within : goal.returns-clause-within
returns-clause-within g c =
    (step g.F.Family.merge_rule g.met.F.Family.merges_equals c.args.leaves c.args.first c.peak_from-position.result.0
    c.peak_from-position.result.1 c.requires.few c.requires.cut c.requires.before c.peak_from-position.ensures).fits
