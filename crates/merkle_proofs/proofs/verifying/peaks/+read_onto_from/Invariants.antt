use Rattle.std.specs.Prelude.{◌-◌}
use Rattle.merkle_proofs.proofs.verifying.peaks.+read_onto_from.Given as goal

abbrev pub decreases-read_onto_from : goal.decreases-read_onto_from
decreases-read_onto_from g l = l.reader.now.leaves - l.first
