use Rattle.std.proofs.Common.{◌≡◌, ◌≤◌, ◌-◌, ◌++◌}
use Rattle.std.specs.Vec.{vec_len, vec_capacity}
use Rattle.fault_storage_parts.specs.Draws.{samples}
use Rattle.fault_storage_parts.specs.DrawsCode.{rate_of}
use Rattle.fault_storage_parts.proofs.draws.note_samples.Given as goal

-- what is noted so far, then what the other samples give, is what all of them give
abbrev pub invariant-loop-noted : goal.invariant-loop-noted
invariant-loop-noted g l = record {
  drawn : (let later = samples (rate_of l.retention) (l.count - l.noted) (g.R.Rng.stream l.rng) in
      let all = samples (rate_of l.retention) l.count (g.R.Rng.stream l.initial.rng) in
      (l.choice.items ++ later.0 ≡ all.0) × (later.1 ≡ all.1));
  len : vec_len l.choice ≡ l.noted;
  capacity : vec_capacity l.initial.choice ≤ vec_capacity l.choice;
}
