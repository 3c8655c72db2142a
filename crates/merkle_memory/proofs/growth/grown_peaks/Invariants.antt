use Rattle.std.proofs.Common.{◌≡◌, ◌≤◌, ◌-◌, ◌++◌, true, map}
use Rattle.merkle_forest.specs.Forest.{forest_of}
use Rattle.merkle_forest.specs.Peaks.{is_cut}
use Rattle.merkle_core_parts.specs.Mem.{encoded, digests_from, known_over}
use Rattle.merkle_memory.proofs.growth.grown_peaks.Given as goal

abbrev pub invariant-loop-first : goal.invariant-loop-first
invariant-loop-first g l =
    let known = known_over l.base_size (encoded g.D.Write.encoding l.peaks) (map g.D.Write.encoding l.added) in
    record {
      cut : is_cut l.first (forest_of g.F.Family.merge_rule l.leaves) ≡ true;
      within : l.first ≤ l.leaves;
      rest : map g.D.Write.encoding l.found.items ++ digests_from g.F.Family.merge_rule l.leaves known l.first
          ≡ digests_from g.F.Family.merge_rule l.leaves known 0;
    }

abbrev pub decreases-loop-first : goal.decreases-loop-first
decreases-loop-first g l = l.leaves - l.first
