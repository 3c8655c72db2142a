use Rattle.std.proofs.Common.{◌≡◌, ◌≢◌, ◌<◌, ℕ, suc, slice_index_or}
use Rattle.merkle_forest.proofs.mmb.FamilyFamily.merge_index.Given as goal

abbrev pub invariant-loop-index : goal.invariant-loop-index
invariant-loop-index l = (l.merges ≡ 0) × ((i : ℕ) → suc i < l.index
    → slice_index_or l.heights i 0 ≢ slice_index_or l.heights (suc i) 0)
