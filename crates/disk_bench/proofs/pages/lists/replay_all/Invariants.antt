use Rattle.std.proofs.Common.{◌≡◌}
use Rattle.disk_bench.proofs.pages.lists.replay_all.Given as goal

abbrev pub invariant-loop : goal.invariant-loop
invariant-loop g l = record {
  calls : g.B.Blob.calls l.disk ≡ g.B.Blob.calls l.fn.disk;
  pages : l.replay.sealed.pages ≡ l.fn.replay.sealed.pages;
}
