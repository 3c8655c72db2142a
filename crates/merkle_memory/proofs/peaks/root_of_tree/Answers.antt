use Rattle.std.proofs.Common.{◌≡◌, ◌≤◌, [], length, ap, arith}
use Rattle.merkle_core_parts.specs.Mem.{digests_from, node_at}
use Rattle.merkle_core_parts.specs.Laws.Peaks.{digests-end}
use Rattle.merkle_memory.proofs.peaks.root_of_tree.Goals as goal

pub returns-then-leaves-eq0-clause-root : goal.returns-then-leaves-eq0-clause-root
returns-then-leaves-eq0-clause-root g c =
    let digests = node_at g.F.Family.merge_rule c.args.tree.now in
    let none : digests_from g.F.Family.merge_rule c.args.leaves digests 0 ≡ [] =
    digests-end g.F.Family.merge_rule g.met.F.Family.merges_equals c.args.leaves 0 digests (omega arith) in
    let least : c.args.inactive ≤ 0 = omega (arith, c.count_peaks-count.ensures digests, ap length none) in
    let zero_inactive : c.args.inactive ≡ 0 = omega arith in
    let no_leaves : c.args.leaves ≡ 0 = omega arith in
    rw (none, zero_inactive, no_leaves) c.root_of_nothing.ensures.root
