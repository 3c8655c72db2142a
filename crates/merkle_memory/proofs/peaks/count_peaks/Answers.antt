use Rattle.std.proofs.Common.{◌∙◌}
use Rattle.merkle_core_parts.specs.Laws.Peaks.{length-digests}
use Rattle.merkle_memory.proofs.peaks.count_peaks.Goals as goal

pub returns : goal.returns
returns g c digests =
    c.inactive_count.ensures
    ∙ length-digests g.F.Family.merge_rule g.met.F.Family.merges_equals c.args.leaves digests
