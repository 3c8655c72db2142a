use Rattle.std.proofs.Common.{◌-◌, ◌<◌, ◌≤◌, ℕ}
use Rattle.state_current.specs.Settled.{IsSettled}
use Rattle.state_current.proofs.settled.greatest_settled.Given as goal

abbrev pub invariant-loop-chunks : goal.invariant-loop-chunks
invariant-loop-chunks g l = record {
  within : l.chunks ≤ l.limit;
  greater : (chunks : ℕ) → l.chunks < chunks → chunks ≤ l.limit → IsSettled g.F.Family.merge_rule l.height l.operations chunks
      → chunks ≤ l.pruned;
}

abbrev pub decreases-loop-chunks : goal.decreases-loop-chunks
decreases-loop-chunks g l = l.chunks - l.pruned
