-- What the code remembers of chunks that changed, and adds to a batch to bring a tree to its bits.
use Rattle.std.specs.Prelude.{ℕ, zero, suc, ◌-◌, nat_le, if◌then◌else◌, List, [], ◌∷◌, map}
use Rattle.std.specs.BTreeSet.{insert_key}
use Rattle.std.specs.Ordering.{nat_cmp}
use Rattle.merkle_forest.specs.Forest.{mmr_rule}
use Rattle.merkle_core_parts.specs.Mem.{Replacement, node_count}
use Rattle.state_theory.specs.Bits.{Bits, chunk_at}
use Rattle.state_theory.specs.Maps.{LeafHash}

-- these chunks, and one more at its place in their order, if it is one of those that have a leaf, and none of them
abbrev pub remembered : ℕ → List ℕ → ℕ → List ℕ
remembered leaves chunks chunk = if nat_le leaves chunk then chunks else insert_key nat_cmp chunks chunk

-- the digest of the leaf of a chunk that is kept
abbrev pub leaf_digest : LeafHash → ℕ → Bits → ℕ → List ℕ
leaf_digest leaf_of width bits chunk =
    leaf_of (node_count mmr_rule chunk) (chunk_at width bits.kept (chunk - bits.pruned))

-- those of so many chunks from one on
abbrev pub leaves_from : LeafHash → ℕ → Bits → ℕ → ℕ → List (List ℕ)
leaves_from leaf_of width bits first zero = []
leaves_from leaf_of width bits first (suc count) =
    leaf_digest leaf_of width bits first ∷ leaves_from leaf_of width bits (suc first) count

-- those of these chunks, each at its location
abbrev pub leaves_at : LeafHash → ℕ → Bits → List ℕ → List Replacement
leaves_at leaf_of width bits chunks = map (λ chunk. (chunk, leaf_digest leaf_of width bits chunk)) chunks
