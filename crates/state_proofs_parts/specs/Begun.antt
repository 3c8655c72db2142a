-- Maps that are begun from pinned digests: how many chunks are pruned is known, and nobody may know their bits.
use Rattle.std.specs.Prelude.{◌≡◌, ℕ, ◌≤◌, List, unwrap_or}
use Rattle.merkle_forest.specs.Forest.{mmr_rule}
use Rattle.merkle_core_parts.specs.Mem.{NodeHash, Replacement, node_count, digest_at}
use Rattle.merkle_memory.specs.Begun.{AreAlikeFrom}
use Rattle.state_theory.specs.Maps.{LeafHash}

-- leaves and branches are hashed alike from a chunk on
pub record AreHashedAlike (chunk : ℕ) (leaf_of : LeafHash) (node_of : NodeHash) (other_leaf : LeafHash)
    (other_node : NodeHash) : Type 0 where
  pub leaves : (p : ℕ) (element : List ℕ) → node_count mmr_rule chunk ≤ p → leaf_of p element ≡ other_leaf p element
  pub branches : AreAlikeFrom mmr_rule chunk node_of other_node

-- the hash that gives pinned leaves their digests, and all others those that another hash gives
abbrev pub pinned_leaf : List Replacement → LeafHash → LeafHash
pinned_leaf pinned leaf_of p element = unwrap_or (digest_at pinned p) (leaf_of p element)
