use Rattle.std.specs.Prelude.{◌-◌}
use Rattle.merkle_proofs.proofs.verifying.peaks.+read_back_from.Given as goal

abbrev pub decreases-read_back_from : goal.decreases-read_back_from
decreases-read_back_from g l = l.reader.now.leaves - l.first
