use Rattle.std.proofs.Common.{◌≡◌}
use Rattle.disk_bench.proofs.pages.lists.replay_often.Given as goal

abbrev pub invariant-loop : goal.invariant-loop
invariant-loop g l = g.B.Blob.calls l.disk ≡ g.B.Blob.calls l.fn.disk
