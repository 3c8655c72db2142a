use Rattle.std.specs.Prelude.{◌-◌}
use Rattle.merkle_proofs.proofs.verifying.peaks.+read_group_from.Given as goal

abbrev pub decreases-read_group_from : goal.decreases-read_group_from
decreases-read_group_from g l = l.reader.now.leaves - l.first
