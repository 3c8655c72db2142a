use Rattle.std.specs.Prelude.{◌-◌}
use Rattle.merkle_proofs.proofs.pinned.+append_inner_before.Given as goal

abbrev pub decreases-append_inner_before : goal.decreases-append_inner_before
decreases-append_inner_before g l = l.leaves - l.first
