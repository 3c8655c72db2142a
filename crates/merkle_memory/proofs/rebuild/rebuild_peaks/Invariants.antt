use Rattle.std.proofs.Common.{◌≡◌, ◌≤◌, ◌<◌, ◌-◌, ℕ, true, drop}
use Rattle.std.specs.Prelude.{IsSome}
use Rattle.merkle_forest.specs.Forest.{Tree, position, forest_of}
use Rattle.merkle_forest.specs.Nodes.{IsPeakAt}
use Rattle.merkle_forest.specs.Peaks.{is_cut}
use Rattle.merkle_core_parts.specs.Layers.{known_at}
use Rattle.merkle_core_parts.specs.Mem.{encoded, digest_at}
use Rattle.merkle_core_parts.specs.Laws.Rebuilt.{Digests, IsSetting, ArePending, IsRight}
use Rattle.merkle_core_parts.specs.Laws.Updated.{IsProgress}
use Rattle.merkle_memory.proofs.rebuild.rebuild_peaks.Given as goal

abbrev pub invariant-loop-first : goal.invariant-loop-first
invariant-loop-first g l = record {
  cut : is_cut l.first (forest_of g.F.Family.merge_rule l.leaves) ≡ true;
  within : l.first ≤ l.leaves;
  found : (f : ℕ) (t : Tree) → IsPeakAt f t (forest_of g.F.Family.merge_rule l.leaves) → f < l.first
      → IsSome (digest_at (encoded g.H.Digest.Write.encoding l.peaks.items) (position t));
  made : (boundary : ℕ) (before after : Digests)
      → IsSetting g.F.Family.merge_rule (g.H.Hasher.node_of l.hasher) l.leaves boundary ((known_at g.F.Family.merge_rule l.base)) before after
      → ArePending g.F.Family.merge_rule l.leaves boundary before after 0 (encoded g.H.Digest.Write.encoding l.updates)
      → IsRight g.F.Family.merge_rule l.leaves after (encoded g.H.Digest.Write.encoding l.fn.changed.items)
      → IsProgress g.F.Family.merge_rule l.leaves boundary before after l.first
      (encoded g.H.Digest.Write.encoding l.fn.changed.items) (encoded g.H.Digest.Write.encoding l.changed.items)
      (encoded g.H.Digest.Write.encoding l.peaks.items) (drop l.next (encoded g.H.Digest.Write.encoding l.updates));
}

abbrev pub decreases-loop-first : goal.decreases-loop-first
decreases-loop-first g l = l.leaves - l.first
