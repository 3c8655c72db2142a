-- What the calls of a map owe, over plain values.
use Rattle.std.proofs.Common.{◌≡◌, ℕ, zero, suc, ◌+◌, ◌-◌, ◌*◌, ◌/◌, ◌<◌}
use Rattle.std.proofs.Common.{◌≤◌, Bool, false, leb, List, [], ◌∷◌, ◌++◌, length, map, take, get_or}
use Rattle.std.proofs.Common.{Result, Ok, Err, OnOk, OnErr, sym, ◌∙◌, ap, subst, arith}
use Rattle.std.specs.List.{AllByRecursion}
use Rattle.std.specs.Prelude.{slice_set}
use Rattle.std.proofs.lemmas.Bool.{cond-false, lt-leb}
use Rattle.std.proofs.lemmas.List.{map-append, take_more, drop_all}
use Rattle.merkle_forest.specs.Forest.{mmr_rule}
use Rattle.merkle_core_parts.specs.Laws.Mem.{nodes-empty}
use Rattle.merkle_core_parts.specs.Layers.{IsFirstAt, bases, with_layers}
use Rattle.merkle_core_parts.specs.Laws.Layers.{first-own}
use Rattle.merkle_core_parts.specs.Mem.{Nodes, NodeHash, Additions, Growth, Replacement, with_batch, AreNodesOf, base_of, node_count, pruned_before, cut_before}
use Rattle.state_theory.specs.Bits.{Bits, AreBitsOf, chunk_at, pruned_to}
use Rattle.state_theory.specs.Maps.{LeafHash, Map, IsMap, IsMapOf, AreLeavesOf, merkleized, changed, full_count}
use Rattle.state_theory.proofs.ChunkLemmas.{chunks_of_bits}
use Rattle.state_theory.specs.MapsCode.{remembered, leaf_digest, leaves_from, leaves_at}
use Rattle.state_theory.proofs.KeptLemmas.{kept-prune}
use Rattle.state_theory.proofs.LeafLemmas.{length-leaves_from, leaves_from-more}
use Rattle.state_theory.proofs.MapLemmas.{map-push, map-set, mapof-push, mapof-set, full-pruned}
use Rattle.state_theory.proofs.WidthLemmas.{wide-some}

-- ---- one more leaf in a batch, and one more update
module _ (leaf_of : LeafHash) (width : ℕ) (bits : Bits) where
  pub at_chunk : (batch now : Additions) (first chunk : ℕ) → batch.base.leaves ≡ first → first ≤ chunk
      → now ≡ record batch { added = leaves_from leaf_of width bits first (chunk - first) } → now.base.leaves + length now.added ≡ chunk
  at_chunk batch now first chunk at le is =
      omega (
        arith,
        at,
        le,
        ap (λ (b : Additions). b.base.leaves) is,
        ap (λ (b : Additions). length b.added) is,
        length-leaves_from leaf_of width bits first (chunk - first),
      )

  pub added_next : (batch now more : Additions) (first chunk : ℕ) (element : List ℕ) → batch.base.leaves ≡ first → first ≤ chunk
      → now ≡ record batch { added = leaves_from leaf_of width bits first (chunk - first) }
      → element ≡ chunk_at width bits.kept (chunk - bits.pruned)
      → more ≡ record now { added = now.added ++ leaf_of (node_count mmr_rule (now.base.leaves + length now.added)) element ∷ [] }
      → more ≡ record batch { added = leaves_from leaf_of width bits first (chunk + 1 - first) }
  added_next batch now more first chunk element at le is element_is more_is =
      let count = chunk - first in
      let whole : first + count ≡ chunk = omega (arith, le) in
      let next : suc count ≡ chunk + 1 - first = omega (arith, le) in
      more_is
      ∙ ap (λ n. record now { added = now.added ++ leaf_of (node_count mmr_rule n) element ∷ [] }) (at_chunk batch now first chunk at le is)
      ∙ ap (λ e. record now { added = now.added ++ leaf_of (node_count mmr_rule chunk) e ∷ [] }) element_is
      ∙ ap (λ (b : Additions). record b { added = b.added ++ leaf_digest leaf_of width bits chunk ∷ [] }) is
      ∙ ap (λ ds. record batch { added = ds })
      (ap (λ n. leaves_from leaf_of width bits first count ++ leaf_digest leaf_of width bits n ∷ []) (sym whole)
      ∙ sym (leaves_from-more leaf_of width bits first count) ∙ ap (leaves_from leaf_of width bits first) next)

  pub updated_next : (batch now more : Additions) (chunks : List ℕ) (i : ℕ) (element : List ℕ) → i < length chunks
      → now ≡ record batch { updates = leaves_at leaf_of width bits (take i chunks) }
      → element ≡ chunk_at width bits.kept (get_or chunks i 0 - bits.pruned)
      → more ≡ record now {
        updates = now.updates ++ (get_or chunks i 0, leaf_of (node_count mmr_rule (get_or chunks i 0)) element) ∷ [];
      }
      → more ≡ record batch { updates = leaves_at leaf_of width bits (take (i + 1) chunks) }
  updated_next batch now more chunks i element lt is element_is more_is =
      let chunk = get_or chunks i 0 in
      more_is
      ∙ ap (λ e. record now { updates = now.updates ++ (chunk, leaf_of (node_count mmr_rule chunk) e) ∷ [] }) element_is
      ∙ ap (λ (b : Additions). record b { updates = b.updates ++ (chunk, leaf_digest leaf_of width bits chunk) ∷ [] }) is
      ∙ ap (λ us. record batch { updates = us })
      (sym (map-append (λ c. (c, leaf_digest leaf_of width bits c)) (take i chunks) (chunk ∷ []))
      ∙ ap (leaves_at leaf_of width bits) (sym (take_more chunks i 0 lt)))

pub all_at : (P : ℕ → Type 0) (numbers : List ℕ) (i : ℕ) → i < length numbers → AllByRecursion P numbers → P (get_or numbers i 0)
all_at P [] i lt all = absurd (omega (arith, lt))
all_at P (n ∷ numbers) zero lt all = all.0
all_at P (n ∷ numbers) (suc i) lt all = all_at P numbers i (omega (arith, lt)) all.1

-- ---- bits are pushed
pub push_fits : {T E : Type 0} (r : Result T E) (width : ℕ) (old new : Bits) (tree : Nodes) (chunks : List ℕ) (more : List Bool)
    → OnOk r (new ≡ record old { kept = old.kept ++ more }) → OnErr r (new ≡ old) → IsMap width old tree (changed chunks)
    → IsMap width new tree (changed chunks)
push_fits (Ok x) width old new tree chunks more is same fits =
    subst (λ b. IsMap width b tree (changed chunks)) (sym is) (map-push width old tree chunks more fits)
push_fits (Err e) width old new tree chunks more is same fits = subst (λ b. IsMap width b tree (changed chunks)) (sym same) fits

pub push_of : {T E : Type 0} (r : Result T E) (leaf_of : LeafHash) (node_of : NodeHash) (width : ℕ) (all : List Bool) (old new : Bits)
    (tree : Nodes) (chunks : List ℕ) (more : List Bool) → OnOk r (new ≡ record old { kept = old.kept ++ more })
    → IsMapOf leaf_of node_of width all (record { bits = old; tree = tree; stage = changed chunks })
    → OnOk r (IsMapOf leaf_of node_of width (all ++ more) (record { bits = new; tree = tree; stage = changed chunks }))
push_of (Ok x) leaf_of node_of width all old new tree chunks more is of =
    subst (λ b. IsMapOf leaf_of node_of width (all ++ more) (record { bits = b; tree = tree; stage = changed chunks })) (sym is)
    (mapof-push leaf_of node_of width all old tree chunks more of)
push_of (Err e) leaf_of node_of width all old new tree chunks more is of = tt

-- ---- a bit is set
pub set_fits : (width : ℕ) (old new : Bits) (tree : Nodes) (chunks after : List ℕ) (bit at leaf_total chunk : ℕ) (value : Bool)
    → new ≡ record old { kept = slice_set old.kept at value } → after ≡ remembered leaf_total chunks chunk → leaf_total ≡ tree.leaves
    → chunk ≡ bit / (8 * width) → 8 * width * old.pruned ≤ bit → IsMap width old tree (changed chunks)
    → IsMap width new tree (changed after)
set_fits width old new tree chunks after bit at leaf_total chunk value is after_is total_is chunk_is kept fits =
    let after_all : after ≡ remembered tree.leaves chunks (bit / (8 * width)) =
    after_is ∙ ap (λ n. remembered n chunks chunk) total_is ∙ ap (remembered tree.leaves chunks) chunk_is in
    subst (λ b. IsMap width b tree (changed after)) (sym is)
    (subst (λ ns. IsMap width (record old { kept = slice_set old.kept at value }) tree (changed ns)) (sym after_all)
    (map-set width old tree chunks bit at value fits kept))

pub set_of : (leaf_of : LeafHash) (node_of : NodeHash) (width : ℕ) (all : List Bool) (old new : Bits) (tree : Nodes)
    (chunks after : List ℕ) (bit leaf_total chunk : ℕ) (value : Bool) → 1 ≤ width
    → new ≡ record old { kept = slice_set old.kept (bit - 8 * width * old.pruned) value } → after ≡ remembered leaf_total chunks chunk
    → leaf_total ≡ tree.leaves → chunk ≡ bit / (8 * width) → 8 * width * old.pruned ≤ bit
    → IsMapOf leaf_of node_of width all (record { bits = old; tree = tree; stage = changed chunks })
    → IsMapOf leaf_of node_of width (slice_set all bit value) (record { bits = new; tree = tree; stage = changed after })
set_of leaf_of node_of width all old new tree chunks after bit leaf_total chunk value some is after_is total_is chunk_is kept of =
    let after_all : after ≡ remembered tree.leaves chunks (bit / (8 * width)) =
    after_is ∙ ap (λ n. remembered n chunks chunk) total_is ∙ ap (remembered tree.leaves chunks) chunk_is in
    let bits = record old { kept = slice_set old.kept (bit - 8 * width * old.pruned) value } in
    subst (λ b. IsMapOf leaf_of node_of width (slice_set all bit value) (record { bits = b; tree = tree; stage = changed after })) (sym is)
    (subst (λ ns. IsMapOf leaf_of node_of width (slice_set all bit value) (record { bits = bits; tree = tree; stage = changed ns })) (sym after_all)
    (mapof-set leaf_of node_of width all old tree chunks bit value some kept of))

-- ---- chunks are pruned
pub prune_fits : (width : ℕ) (old new : Bits) (tree after : Nodes) (root : List ℕ) (chunk : ℕ) → new ≡ pruned_to width old chunk
    → after ≡ pruned_before mmr_rule tree chunk → old.pruned < chunk → chunk ≤ full_count width old
    → IsMap width old tree (merkleized root) → IsMap width new after (merkleized root)
prune_fits width old new tree after root chunk is after_is low high fits =
    let past : tree.boundary < chunk = omega (arith, low, fits.pruned) in
    let cut : after ≡ cut_before mmr_rule tree chunk = after_is ∙ cond-false (leb chunk tree.boundary) _ _ (lt-leb chunk tree.boundary past) in
    record {
      wide = fits.wide;
      pruned = ap (λ (t : Nodes). t.boundary) cut ∙ sym (ap (λ (b : Bits). b.pruned) is);
      leaves = ap (λ (t : Nodes). t.leaves) cut ∙ fits.leaves ∙ sym (full-pruned width old chunk (wide-some width fits.wide)
          (omega (arith, low)) high) ∙ sym (ap (full_count width) is);
    }

pub prune_of : (leaf_of : LeafHash) (node_of : NodeHash) (width : ℕ) (all : List Bool) (old new : Bits) (tree after : Nodes)
    (root : List ℕ) (chunk : ℕ) → new ≡ pruned_to width old chunk → old.pruned ≤ chunk → 8 * width * (chunk - old.pruned) ≤ length old.kept
    → ((digests : List (List ℕ)) → AreNodesOf node_of mmr_rule digests tree → AreNodesOf node_of mmr_rule digests after)
    → IsMapOf leaf_of node_of width all (record { bits = old; tree = tree; stage = merkleized root })
    → IsMapOf leaf_of node_of width all (record { bits = new; tree = after; stage = merkleized root })
prune_of leaf_of node_of width all old new tree after root chunk is low there nodes of =
    subst (λ b. IsMapOf leaf_of node_of width all (record { bits = b; tree = after; stage = merkleized root })) (sym is) (record {
      bits = kept-prune width all old chunk of.bits low there;
      leaves = record {
        digests = of.leaves.digests;
        nodes = nodes of.leaves.digests of.leaves.nodes;
        full = of.leaves.full;
        clean = of.leaves.clean;
      };
    })

-- ---- no bits
pub bits_none : (width : ℕ) → AreBitsOf width [] (record { pruned = 0; kept = [] })
bits_none width = record { pruned = omega arith; kept = sym (drop_all (8 * width * 0) [] (omega arith)) }

pub leaves_none : (leaf_of : LeafHash) (node_of : NodeHash) (width : ℕ)
    → AreLeavesOf leaf_of node_of width [] (record { leaves = 0; boundary = 0; pinned = []; digests = [] }) []
leaves_none leaf_of node_of width = record {
  digests = [];
  nodes = nodes-empty mmr_rule node_of;
  full = omega arith;
  clean = λ i lt none. absurd (omega (arith, lt));
}

pub full_none : (width : ℕ) → 1 ≤ width → 0 ≡ full_count width (record { pruned = 0; kept = [] })
full_none width some = omega (arith, chunks_of_bits width 0, some)

pub map_none : (bits : Bits) (tree : Nodes) (root other : List ℕ) → bits ≡ record { pruned = 0; kept = [] }
    → tree ≡ record { leaves = 0; boundary = 0; pinned = []; digests = [] } → root ≡ other
    → ◌≡◌ {A = Map} (record { bits = bits; tree = tree; stage = merkleized root }) (record {
      bits = record { pruned = 0; kept = [] };
      tree = record { leaves = 0; boundary = 0; pinned = []; digests = [] };
      stage = merkleized other;
    })
map_none bits tree root other bits_are tree_is root_is =
    ap (λ (b : Bits). record { bits = b; tree = tree; stage = merkleized root }) bits_are
    ∙ ap (λ (t : Nodes). record { bits = record { pruned = 0; kept = [] }; tree = t; stage = merkleized root }) tree_is
    ∙ ap (λ (r : List ℕ). record {
      bits = record { pruned = 0; kept = [] };
      tree = record { leaves = 0; boundary = 0; pinned = []; digests = [] };
      stage = merkleized r;
    }) root_is

-- ---- a tree is brought to bits
module _ (leaf_of : LeafHash) (width : ℕ) (bits : Bits) where
  abbrev pub brought_batch : Nodes → List ℕ → Additions
  brought_batch tree chunks = record {
    base = base_of mmr_rule tree;
    boundary = tree.boundary;
    added = leaves_from leaf_of width bits tree.leaves (full_count width bits - tree.leaves);
    updates = leaves_at leaf_of width bits chunks;
    below = [];
    dropped = false;
  }

  pub batch_is : (tree : Nodes) (chunks : List ℕ) (first end : ℕ) (none some all : Additions)
      → none ≡ record {
        base = base_of mmr_rule tree;
        boundary = tree.boundary;
        added = [];
        updates = [];
        below = [];
        dropped = false;
      }
      → some ≡ record none { added = leaves_from leaf_of width bits first (end - first) }
      → all ≡ record some { updates = leaves_at leaf_of width bits chunks } → first ≡ tree.leaves → end ≡ full_count width bits
      → all ≡ brought_batch tree chunks
  batch_is tree chunks first end none some all none_is some_is all_is first_is end_is =
      let us = leaves_at leaf_of width bits chunks in
      all_is ∙ ap (λ (b : Additions). record b { updates = us }) some_is
      ∙ ap (λ (b : Additions). record b { added = leaves_from leaf_of width bits first (end - first); updates = us }) none_is
      ∙ ap (λ n. record (brought_batch tree chunks) { added = leaves_from leaf_of width bits n (end - n) }) first_is
      ∙ ap (λ n. record (brought_batch tree chunks) { added = leaves_from leaf_of width bits tree.leaves (n - tree.leaves) }) end_is

  pub updates_from : (boundary leaf_total : ℕ) (chunks : List ℕ) → boundary ≡ bits.pruned
      → AllByRecursion (λ chunk. (bits.pruned ≤ chunk) × (chunk < leaf_total)) chunks
      → AllByRecursion (λ (one : Replacement). boundary ≤ one.0) (leaves_at leaf_of width bits chunks)
  updates_from boundary leaf_total [] same all = tt
  updates_from boundary leaf_total (chunk ∷ chunks) same all =
      (omega (arith, same, all.0.0), updates_from boundary leaf_total chunks same all.1)

  -- a batch over a tree that is its own base is applied alone
  pub applied_alone : (tree after : Nodes) (batch : Growth) (count : ℕ) → batch.base ≡ base_of mmr_rule tree
      → IsFirstAt (base_of mmr_rule tree) (bases batch.base batch.below) count
      → after ≡ with_batch mmr_rule (with_layers mmr_rule tree (take count batch.below)) batch
      → after ≡ with_batch mmr_rule tree batch
  applied_alone tree after batch count base first is =
      is ∙ ap (λ n. with_batch mmr_rule (with_layers mmr_rule tree (take n batch.below)) batch)
      (first-own (base_of mmr_rule tree) batch.base (map (λ layer. layer.base) batch.below) count base first)

  pub brought_leaves : (tree : Nodes) (chunks : List ℕ) (batch : Additions) → batch ≡ brought_batch tree chunks
      → tree.leaves ≤ full_count width bits → batch.base.leaves + length batch.added ≡ full_count width bits
  brought_leaves tree chunks batch is le =
      omega (
        arith,
        ap (λ (b : Additions). b.base.leaves) is,
        ap (λ (b : Additions). length b.added) is,
        length-leaves_from leaf_of width bits tree.leaves (full_count width bits - tree.leaves),
        le,
      )
