use Rattle.std.proofs.Common.{arith}
use Rattle.state_theory.proofs.PeakSteps.{peak_step}
use Rattle.state_proofs_parts.proofs.grafting.counts.peak_end.Goals as goal

pub overflow_shl-result : goal.overflow_shl-result
overflow_shl-result g c =
    (peak_step g.F.Family.merge_rule g.met.F.Family.merges_equals c.args.leaves c.args.first c.peak_from-height.result.0
    c.peak_from-height.result.1 c.requires.few c.requires.begins c.peak_from-height.ensures).low

pub overflow_add-result : goal.overflow_add-result
overflow_add-result g c =
    let it = peak_step g.F.Family.merge_rule g.met.F.Family.merges_equals c.args.leaves c.args.first c.peak_from-height.result.0
    c.peak_from-height.result.1 c.requires.few c.requires.begins c.peak_from-height.ensures in
    omega (arith, it.within, c.requires.few)

pub returns-clause-peak : goal.returns-clause-peak
returns-clause-peak g c =
    let it = peak_step g.F.Family.merge_rule g.met.F.Family.merges_equals c.args.leaves c.args.first c.peak_from-height.result.0
    c.peak_from-height.result.1 c.requires.few c.requires.begins c.peak_from-height.ensures in
    record { node = it.node; stands = it.stands; leaves = it.end }

pub returns-clause-later : goal.returns-clause-later
returns-clause-later g c =
    (peak_step g.F.Family.merge_rule g.met.F.Family.merges_equals c.args.leaves c.args.first c.peak_from-height.result.0
    c.peak_from-height.result.1 c.requires.few c.requires.begins c.peak_from-height.ensures).later

pub returns-clause-within : goal.returns-clause-within
returns-clause-within g c =
    (peak_step g.F.Family.merge_rule g.met.F.Family.merges_equals c.args.leaves c.args.first c.peak_from-height.result.0
    c.peak_from-height.result.1 c.requires.few c.requires.begins c.peak_from-height.ensures).within

pub returns-clause-next : goal.returns-clause-next
returns-clause-next g c =
    (peak_step g.F.Family.merge_rule g.met.F.Family.merges_equals c.args.leaves c.args.first c.peak_from-height.result.0
    c.peak_from-height.result.1 c.requires.few c.requires.begins c.peak_from-height.ensures).begins
