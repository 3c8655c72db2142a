use Rattle.std.proofs.Common.{refl, append-nil}
use Rattle.merkle_core_parts.specs.Mem.{node_at}
use Rattle.merkle_core_parts.specs.Laws.Peaks.{digests-end}
use Rattle.merkle_memory.proofs.peaks.+append_peaks.Goals as goal

pub returns-then-first-leaves : goal.returns-then-first-leaves
returns-then-first-leaves g t c =
    let encoding = g.D.Write.encoding in
    rw (
      digests-end g.F.Family.merge_rule g.met.F.Family.merges_equals c.args.leaves c.args.first
          (node_at g.F.Family.merge_rule c.args.tree.now) c.if-first-leaves.true,
      append-nil,
    ) refl
