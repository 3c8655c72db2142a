-- Maps that are begun from pinned digests.
use Rattle.std.proofs.Common.{◌≡◌, ℕ, zero, suc, ◌+◌, ◌-◌, ◌*◌, ◌/◌, ◌<◌, ◌≤◌, Bool, false, ltb, List, [], ◌∷◌, length}
use Rattle.std.proofs.Common.{Some, refl, sym, ◌∙◌, ap, ap₂, subst, arith, replicate}
use Rattle.std.specs.List.{AllByRecursion}
use Rattle.std.specs.Prelude.{slice_get, slice_index_or, unwrap_or}
use Rattle.std.proofs.lemmas.Bool.{cond-true, lt-ltb}
use Rattle.std.proofs.lemmas.List.{drop_all, length-replicate}
use Rattle.std.proofs.lemmas.Nat.{div-mul-add}
use Rattle.std.proofs.Math.Nat.{mul_comm}
use Rattle.merkle_forest.specs.Forest.{mmr_rule}
use Rattle.merkle_forest.specs.Laws.ForestGrowth.{size-lt, size-mono}
use Rattle.merkle_forest.specs.Laws.NodeGrowth.{numbered}
use Rattle.merkle_forest.specs.Laws.Rules.{mmr_merges_equals}
use Rattle.merkle_core_parts.specs.Mem.{Nodes, NodeHash, Replacement, AreKeptNodes, node_count, digest_at}
use Rattle.merkle_core_parts.specs.Mem.{pinned_positions, placed}
use Rattle.merkle_core_parts.specs.Laws.Placed.{shape-placed}
use Rattle.merkle_memory.specs.Begun.{IsHashedFrom, pinned_hash}
use Rattle.merkle_memory.specs.Laws.Begun.{HasLeavesOf, hashes-alike, nodes-of-list, none-pinned}
use Rattle.state_theory.specs.Bits.{Bits, AreBitsOf, chunk_at, full_chunks}
use Rattle.state_theory.specs.Maps.{LeafHash, AreLeavesOf, IsMapOf, merkleized, leaf_digests}
use Rattle.state_theory.specs.MapsCode.{leaf_digest, leaves_from, leaves_at}
use Rattle.state_theory.specs.Parts.{pruned_bits, pruned_tree}
use Rattle.state_theory.proofs.ChunkLemmas.{length-chunks_of, at-chunks_of}
use Rattle.state_theory.proofs.LeafLemmas.{length-leaf_digests, at-leaf_digests}
use Rattle.state_proofs_parts.specs.Begun.{AreHashedAlike, pinned_leaf}

-- ---- the leaves of chunks that are kept
module _ (leaf_of other_leaf : LeafHash) (node_of other_node : NodeHash) (width : ℕ) (bits : Bits)
    (alike : AreHashedAlike bits.pruned leaf_of node_of other_leaf other_node) where
  leaf_alike : (chunk : ℕ) → bits.pruned ≤ chunk → leaf_digest other_leaf width bits chunk ≡ leaf_digest leaf_of width bits chunk
  leaf_alike chunk kept =
      sym (alike.leaves (node_count mmr_rule chunk) (chunk_at width bits.kept (chunk - bits.pruned))
      (size-mono mmr_rule mmr_merges_equals bits.pruned chunk kept))

  pub from_alike : (first count : ℕ) → bits.pruned ≤ first
      → leaves_from other_leaf width bits first count ≡ leaves_from leaf_of width bits first count
  from_alike first zero kept = refl
  from_alike first (suc count) kept =
      ap₂ (λ d ds. d ∷ ds) (leaf_alike first kept) (from_alike (suc first) count (omega (arith, kept)))

  pub at_alike : (chunks : List ℕ) → AllByRecursion (λ chunk. bits.pruned ≤ chunk) chunks
      → leaves_at other_leaf width bits chunks ≡ leaves_at leaf_of width bits chunks
  at_alike [] all = refl
  at_alike (chunk ∷ chunks) all =
      ap₂ (λ (u : Replacement) us. u ∷ us) (ap (λ d. (chunk, d)) (leaf_alike chunk all.0)) (at_alike chunks all.1)

pub kept_of_both : (pruned leaves : ℕ) (chunks : List ℕ)
    → AllByRecursion (λ chunk. (pruned ≤ chunk) × (chunk < leaves)) chunks → AllByRecursion (λ chunk. pruned ≤ chunk) chunks
kept_of_both pruned leaves [] all = tt
kept_of_both pruned leaves (chunk ∷ chunks) all = (all.0.0, kept_of_both pruned leaves chunks all.1)

-- ---- the map of pinned digests
module _ (leaf_of : LeafHash) (node_of : NodeHash) (width : ℕ) (some : 1 ≤ width) (count : ℕ) (digests : List (List ℕ))
    (same_count : length digests ≡ length (pinned_positions mmr_rule count)) where
  abbrev pinned : List Replacement
  pinned = placed (pinned_positions mmr_rule count) digests

  shape : AreKeptNodes mmr_rule (pruned_tree count digests)
  shape = shape-placed mmr_rule mmr_merges_equals count count pinned digests [] (omega arith) refl same_count

  pub begun_alike : AreHashedAlike count (pinned_leaf pinned leaf_of) (pinned_hash pinned node_of) leaf_of node_of
  begun_alike = record {
    leaves = λ p element past.
        ap (λ o. unwrap_or o (leaf_of p element)) (none-pinned mmr_rule mmr_merges_equals (pruned_tree count digests) p shape past);
    branches = hashes-alike mmr_rule mmr_merges_equals node_of (pruned_tree count digests) shape;
  }

  abbrev all : List Bool
  all = replicate (8 * width * count) false

  abbrev chunks : List (List ℕ)
  chunks = full_chunks width all

  abbrev list : List (List ℕ)
  list = leaf_digests (pinned_leaf pinned leaf_of) 0 chunks

  long : length all ≡ 8 * width * count
  long = length-replicate (8 * width * count) false

  full : length all / (8 * width) ≡ count
  full =
      let rows : length all ≡ count * (8 * width) + 0 = omega (arith, long, mul_comm count (8 * width)) in
      ap (λ n. n / (8 * width)) rows ∙ div-mul-add count (8 * width) 0 (omega (arith, some))

  many : length chunks ≡ count
  many = length-chunks_of width (length all / (8 * width)) all ∙ full

  counted : length list ≡ count
  counted = length-leaf_digests (pinned_leaf pinned leaf_of) width 0 chunks ∙ many

  clean : (i : ℕ) → i < length list
      → slice_index_or list i [] ≡ pinned_leaf pinned leaf_of (node_count mmr_rule i) (chunk_at width all i)
  clean i lt =
      let low : i < length chunks = omega (arith, lt, counted, many) in
      at-leaf_digests (pinned_leaf pinned leaf_of) width 0 chunks i low
      ∙ ap₂ (λ n chunk. pinned_leaf pinned leaf_of (node_count mmr_rule n) chunk) (omega arith)
      (at-chunks_of width (length all / (8 * width)) all i (omega (arith, low, many, full)))

  -- no branch stands behind the boundary
  hashed : IsHashedFrom node_of mmr_rule (pruned_tree count digests)
  hashed first p left right one other stands past from to =
      absurd (omega (arith, past, (numbered mmr_rule mmr_merges_equals count).below first _ stands))

  has : HasLeavesOf mmr_rule (pruned_tree count digests) list
  has k d lt there =
      let p = node_count mmr_rule k in
      let start = node_count mmr_rule count in
      let before : p < start = size-lt mmr_rule mmr_merges_equals k count lt in
      let at : digest_at pinned p ≡ Some d =
      sym (cond-true (ltb p start) (digest_at pinned p) (slice_get [] (p - start)) (lt-ltb p start before)) ∙ there in
      clean k (omega (arith, lt, counted)) ∙ ap (λ o. unwrap_or o (leaf_of p (chunk_at width all k))) at

  begun_leaves : AreLeavesOf (pinned_leaf pinned leaf_of) (pinned_hash pinned node_of) width all (pruned_tree count digests) []
  begun_leaves = record {
    digests = list;
    nodes = nodes-of-list mmr_rule mmr_merges_equals node_of (pruned_tree count digests) list shape hashed has (sym counted);
    full = omega (arith, long, ap (λ n. 8 * width * n) counted);
    clean = λ i lt none. clean i lt;
  }

  pub begun_map : (bits : Bits) (tree : Nodes) (root : List ℕ) → bits ≡ pruned_bits count → tree ≡ pruned_tree count digests
      → IsMapOf (pinned_leaf pinned leaf_of) (pinned_hash pinned node_of) width all
      (record { bits = bits; tree = tree; stage = merkleized root })
  begun_map bits tree root bits_are tree_is = record {
    bits = subst (AreBitsOf width all) (sym bits_are) (record {
      pruned = omega (arith, long);
      kept = sym (drop_all (8 * width * count) all (omega (arith, long)));
    });
    leaves = subst (λ (t : Nodes). AreLeavesOf (pinned_leaf pinned leaf_of) (pinned_hash pinned node_of) width all t [])
        (sym tree_is) begun_leaves;
  }
