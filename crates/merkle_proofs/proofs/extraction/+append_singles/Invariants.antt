use Rattle.std.specs.Prelude.{◌-◌}
use Rattle.merkle_proofs.proofs.extraction.+append_singles.Given as goal

abbrev pub decreases-append_singles : goal.decreases-append_singles
decreases-append_singles g l = l.leaves - l.first
