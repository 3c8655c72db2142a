-- The parts of a map whose chunks are pruned, and the map that is made of them.
use Rattle.std.proofs.Common.{◌≡◌, ℕ, zero, suc, ◌+◌, ◌*◌, ◌/◌, ◌<◌, ◌≤◌}
use Rattle.std.proofs.Common.{Bool, eqb, inl, inr, List, [], ◌∷◌, ◌++◌, length, map, take, drop, get_or}
use Rattle.std.proofs.Common.{Option, Some, refl, sym, ◌∙◌, ap, ap₂, subst, arith, eq-eqb}
use Rattle.std.specs.List.{AllByRecursion, find}
use Rattle.std.specs.Option.{option_map}
use Rattle.std.specs.Prelude.{unwrap_or, IsSome}
use Rattle.std.proofs.lemmas.Bool.{cases_eq, cond-true, cond-false, lt-ltb, ne_eqb}
use Rattle.std.proofs.lemmas.List.{length-take-le, take-append-drop, drop_all}
use Rattle.std.proofs.lemmas.Nat.{div-mul-add}
use Rattle.std.proofs.Math.Nat.{mul_comm}
use Rattle.merkle_forest.specs.Forest.{Tree, leaf, branch, position, leaf_count, leaves, mmr_rule, forest_of}
use Rattle.merkle_forest.specs.Nodes.{IsNodeAt, IsPeakAt}
use Rattle.merkle_forest.specs.Peaks.{position_and_height}
use Rattle.merkle_forest.specs.Trees.{Located, located, peak_digests}
use Rattle.merkle_forest.specs.Laws.ForestGrowth.{leaves-forest_of}
use Rattle.merkle_forest.specs.Laws.NodeGrowth.{numbered, node-stays, one-node}
use Rattle.merkle_forest.specs.Laws.Nodes.{peak-node, node-fits}
use Rattle.merkle_forest.specs.Laws.Rules.{mmr_merges_equals}
use Rattle.merkle_core_parts.specs.Mem.{Nodes, NodeHash, Replacement, AreKeptNodes, AreNodesOf, IsKept, tree_digest}
use Rattle.merkle_core_parts.specs.Mem.{node_at, node_count, digest_at, pinned_positions, placed}
use Rattle.merkle_core_parts.specs.Laws.Held.{IsOneOf, peak-pinned, pinned-peak, peak-there}
use Rattle.merkle_core_parts.specs.Laws.Placed.{leaves-within, shape-placed}
use Rattle.state_theory.specs.Bits.{Bits, AreBitsOf, chunk_at, full_chunks}
use Rattle.state_theory.specs.Maps.{LeafHash, AreLeavesOf, IsMapOf, merkleized, full_count, leaf_digests}
use Rattle.state_theory.specs.Parts.{ArePinned, chunk_peaks, pruned_bits, pruned_tree}
use Rattle.state_theory.proofs.ChunkLemmas.{chunk_at-more, chunks_le, chunks_of_bits, length-chunks_of, at-chunks_of}
use Rattle.state_theory.proofs.LeafLemmas.{length-leaf_digests, at-leaf_digests, leaves_are}

-- ---- lists
all_append : {X : Type 0} (P : X → Type 0) (xs ys : List X) → AllByRecursion P xs → AllByRecursion P ys → AllByRecursion P (xs ++ ys)
all_append P [] ys xall yall = yall
all_append P (x ∷ xs) ys xall yall = (xall.0, all_append P xs ys xall.1 yall)

index_taken : (xs : List (List ℕ)) (n i : ℕ) → i < n → get_or (take n xs) i [] ≡ get_or xs i []
index_taken xs zero i lt = absurd (omega (arith, lt))
index_taken [] (suc n) i lt = refl
index_taken (x ∷ xs) (suc n) zero lt = refl
index_taken (x ∷ xs) (suc n) (suc i) lt = index_taken xs n i (omega (arith, lt))

some_all : (xs ys : List (List ℕ)) → map (λ (d : List ℕ). Some d) xs ≡ map (λ (d : List ℕ). Some d) ys → xs ≡ ys
some_all xs ys same =
    sym (unwrapped xs) ∙ ap (map (λ (o : Option (List ℕ)). unwrap_or o [])) same ∙ unwrapped ys
  where
    unwrapped : (zs : List (List ℕ)) → map (λ (o : Option (List ℕ)). unwrap_or o []) (map (λ (d : List ℕ). Some d) zs) ≡ zs
    unwrapped [] = refl
    unwrapped (z ∷ zs) = ap (λ rest. z ∷ rest) (unwrapped zs)

-- ---- peaks, one by one
-- each peak is one of those that are located
all_located : (P : Located → Type 0) (peaks : List Tree) → ((first : ℕ) (t : Tree) → IsPeakAt first t peaks → P (first, t))
    → AllByRecursion P (located peaks)
all_located P [] each = tt
all_located P (t ∷ ts) each =
    all_append P (located ts) ((leaves ts, t) ∷ []) (all_located P ts (λ first u stands. each first u (inr stands)))
    (each (leaves ts) t (inl (refl, refl)), tt)

module _ (digest : ℕ → Tree → List ℕ) where
  known_located : (known : ℕ → Option (List ℕ)) (ls : List Located)
      → AllByRecursion (λ (l : Located). known (position l.1) ≡ Some (digest l.0 l.1)) ls
      → map known (map (λ (peak : ℕ × ℕ). peak.0) (map position_and_height ls))
      ≡ map (λ (d : List ℕ). Some d) (map (λ (l : Located). digest l.0 l.1) ls)
  known_located known [] all = refl
  known_located known (l ∷ ls) all = ap₂ (λ o os. o ∷ os) all.0 (known_located known ls all.1)

  placed_located : (ls : List Located)
      → placed (map (λ (peak : ℕ × ℕ). peak.0) (map position_and_height ls)) (map (λ (l : Located). digest l.0 l.1) ls)
      ≡ map (λ (l : Located). (position l.1, digest l.0 l.1)) ls
  placed_located [] = refl
  placed_located (l ∷ ls) = ap (λ (rest : List Replacement). (position l.1, digest l.0 l.1) ∷ rest) (placed_located ls)

  -- the digest at the position of one of them, where no two have one position
  located_at : (ls : List Located) (first : ℕ) (t : Tree)
      → AllByRecursion (λ (l : Located). position l.1 ≡ position t → (l.0 ≡ first) × (l.1 ≡ t)) ls
      → IsOneOf (position t) (map (λ (peak : ℕ × ℕ). peak.0) (map position_and_height ls))
      → digest_at (map (λ (l : Located). (position l.1, digest l.0 l.1)) ls) (position t) ≡ Some (digest first t)
  located_at [] first t all it = absurd it
  located_at (l ∷ ls) first t all it =
      let more : List Replacement = map (λ (l : Located). (position l.1, digest l.0 l.1)) ls in
      elim (cases_eq (position l.1) (position t)) [
        | inl same ↦
            ap (option_map (λ (one : Replacement). one.1))
            (cond-true (eqb (position l.1) (position t)) (Some (position l.1, digest l.0 l.1)) (find (λ one. eqb one.0 (position t)) more)
            (eq-eqb (position l.1) (position t) same))
            ∙ (let it = all.0 same in ap₂ (λ n u. Some (digest n u)) it.0 it.1)
        | inr apart ↦
            ap (option_map (λ (one : Replacement). one.1))
            (cond-false (eqb (position l.1) (position t)) (Some (position l.1, digest l.0 l.1)) (find (λ one. eqb one.0 (position t)) more)
            (ne_eqb (position l.1) (position t) apart))
            ∙ located_at ls first t all.1 (elim it [ inl same ↦ absurd (apart same) | inr other ↦ other ])
      ]

digest_taken : (node_of : NodeHash) (list : List (List ℕ)) (n first : ℕ) (t : Tree) → first + leaf_count t ≤ n
    → tree_digest node_of list first t ≡ tree_digest node_of (take n list) first t
digest_taken node_of list n first (leaf p) fits = sym (index_taken list n first (omega (arith, fits)))
digest_taken node_of list n first (branch p left right) fits =
    ap₂ (λ x y. node_of p x y) (digest_taken node_of list n first left (omega (arith, fits)))
    (digest_taken node_of list n (first + leaf_count left) right (omega (arith, fits)))

-- ---- what stays pinned in the tree of a list
pub pinned_peaks : (node_of : NodeHash) (list digests : List (List ℕ)) (tree : Nodes) (count : ℕ) → AreNodesOf node_of mmr_rule list tree
    → tree.boundary ≡ count → ArePinned tree count digests
    → digests ≡ peak_digests (tree_digest node_of (take count list)) (forest_of mmr_rule count)
pinned_peaks node_of list digests tree count are boundary pinned =
    let forest = forest_of mmr_rule count in
    let within : count ≤ length list = omega (arith, are.shape.within, are.counted, boundary) in
    some_all digests (peak_digests (tree_digest node_of (take count list)) forest)
    (pinned ∙ known_located (tree_digest node_of (take count list)) (node_at mmr_rule tree) (located forest)
    (all_located (λ (l : Located). node_at mmr_rule tree (position l.1) ≡ Some (tree_digest node_of (take count list) l.0 l.1)) forest
    (λ first t stands.
    are.digests first t (node-stays mmr_rule mmr_merges_equals count (length list) first t within (peak-node first t forest stands))
    (subst (λ n. IsKept mmr_rule n (position t)) (sym boundary) (inr (t, (first, stands), refl)))
    ∙ ap (λ (d : List ℕ). Some d) (digest_taken node_of list count first t (omega (
      arith,
      node-fits first t forest (peak-node first t forest stands),
      leaves-forest_of mmr_rule mmr_merges_equals count,
    ))))))

all_of : (P : ℕ → Type 0) (ps : List ℕ) → ((p : ℕ) → IsOneOf p ps → P p) → AllByRecursion P ps
all_of P [] each = tt
all_of P (p ∷ ps) each = (each p (inl refl), all_of P ps (λ q it. each q (inr it)))

-- each node that stays pinned is there
pub pinned_there : (tree : Nodes) → AreKeptNodes mmr_rule tree
    → AllByRecursion (λ p. IsSome (node_at mmr_rule tree p)) (pinned_positions mmr_rule tree.boundary)
pinned_there tree shape =
    all_of (λ p. IsSome (node_at mmr_rule tree p)) (pinned_positions mmr_rule tree.boundary)
    (λ p it. peak-there mmr_rule mmr_merges_equals tree tree.boundary p shape (omega arith) shape.within
    (pinned-peak p (forest_of mmr_rule tree.boundary) it))

-- ---- the tree of pinned digests
-- where all leaves are pruned there are no other nodes
pub tree_made : (made : Nodes) (count : ℕ) (digests : List (List ℕ)) → made.boundary ≡ count
    → made.pinned ≡ placed (pinned_positions mmr_rule count) digests → made.digests ≡ [] → AreKeptNodes mmr_rule made
    → made ≡ pruned_tree count digests
tree_made made count digests boundary pinned none shape =
    let all : node_count mmr_rule made.boundary ≡ node_count mmr_rule made.leaves + 0 = omega (arith, shape.counted, ap length none) in
    let high : made.leaves ≤ made.boundary = leaves-within mmr_rule mmr_merges_equals made.leaves made.boundary 0 all in
    let counted : made.leaves ≡ count = omega (arith, high, shape.within, boundary) in
    ap₂ (λ (n b : ℕ). record { leaves = n; boundary = b; pinned = made.pinned; digests = made.digests }) counted boundary
    ∙ ap₂ (λ (ps : List Replacement) (ds : List (List ℕ)). record { leaves = count; boundary = count; pinned = ps; digests = ds }) pinned none

module _ (node_of : NodeHash) (list digests : List (List ℕ)) (count : ℕ) (long : length list ≡ count)
    (same_count : length digests ≡ length (pinned_positions mmr_rule count))
    (peaks : digests ≡ peak_digests (tree_digest node_of list) (forest_of mmr_rule count)) where
  abbrev forest : List Tree
  forest = forest_of mmr_rule count

  at_peak : (first : ℕ) (t : Tree) → IsPeakAt first t forest
      → digest_at (placed (pinned_positions mmr_rule count) digests) (position t) ≡ Some (tree_digest node_of list first t)
  at_peak first t stands =
      ap (λ ds. digest_at (placed (pinned_positions mmr_rule count) ds) (position t)) peaks
      ∙ ap (λ (us : List Replacement). digest_at us (position t)) (placed_located (tree_digest node_of list) (located forest))
      ∙ located_at (tree_digest node_of list) (located forest) first t
      (all_located (λ (l : Located). position l.1 ≡ position t → (l.0 ≡ first) × (l.1 ≡ t)) forest
      (λ f u other same. one-node mmr_rule mmr_merges_equals count count f first u t (peak-node f u forest other)
      (peak-node first t forest stands) same))
      (peak-pinned first t forest stands)

  at_kept : (first : ℕ) (t : Tree) → IsNodeAt first t forest → IsKept mmr_rule count (position t)
      → node_at mmr_rule (pruned_tree count digests) (position t) ≡ Some (tree_digest node_of list first t)
  at_kept first t stands (inl past) = absurd (omega (arith, past, (numbered mmr_rule mmr_merges_equals count).below first t stands))
  at_kept first t stands (inr (u, (f, peak), same)) =
      let it = one-node mmr_rule mmr_merges_equals count count f first u t (peak-node f u forest peak) stands same in
      cond-true _ _ _ (lt-ltb (position t) (node_count mmr_rule count) ((numbered mmr_rule mmr_merges_equals count).below first t stands))
      ∙ ap (digest_at (placed (pinned_positions mmr_rule count) digests)) (sym same)
      ∙ at_peak f u peak ∙ ap₂ (λ n v. Some (tree_digest node_of list n v)) it.0 it.1

  pub pruned_nodes : AreNodesOf node_of mmr_rule list (pruned_tree count digests)
  pruned_nodes = record {
    counted = sym long;
    shape = shape-placed mmr_rule mmr_merges_equals count count (placed (pinned_positions mmr_rule count) digests) digests []
        (omega arith) refl same_count;
    digests = λ first t stands keeps. at_kept first t (subst (λ n. IsNodeAt first t (forest_of mmr_rule n)) long stands) keeps;
  }

-- ---- lists of bits that fill their chunks
count_full : (width count bits : ℕ) → 1 ≤ width → bits ≡ 8 * width * count → bits / (8 * width) ≡ count
count_full width count bits some is =
    let rows : bits ≡ count * (8 * width) + 0 = omega (arith, is, mul_comm count (8 * width)) in
    ap (λ n. n / (8 * width)) rows ∙ div-mul-add count (8 * width) 0 (omega (arith, some))

module _ (leaf_of : LeafHash) (node_of : NodeHash) (width : ℕ) (some : 1 ≤ width) where
  -- the pinned digests of a map are those of the list of its pruned bits
  pub parts_of_list : (all : List Bool) (tree : Nodes) (count : ℕ) (digests : List (List ℕ)) → AreLeavesOf leaf_of node_of width all tree []
      → tree.boundary ≡ count → ArePinned tree count digests
      → digests ≡ chunk_peaks leaf_of node_of width (take (8 * width * count) all)
  unfolding chunk_peaks
  parts_of_list all tree count digests are boundary pinned =
      let front = take (8 * width * count) all in
      let within : count ≤ length are.digests = omega (arith, are.nodes.shape.within, are.nodes.counted, boundary) in
      let long : length front ≡ 8 * width * count = length-take-le (8 * width * count) all
      (omega (arith, are.full, chunks_le width count (length are.digests) within)) in
      let full = count_full width count (length front) some long in
      let taken : length (take count are.digests) ≡ count = length-take-le count are.digests within in
      let leaves_same : take count are.digests ≡ leaf_digests leaf_of 0 (full_chunks width front) =
      leaves_are leaf_of width front (take count are.digests) (length front / (8 * width)) (taken ∙ sym full) (λ i lt.
      let low : i < count = omega (arith, lt, full) in
      index_taken are.digests count i low ∙ are.clean i (omega (arith, low, within)) refl
      ∙ ap (leaf_of (node_count mmr_rule i)) (ap (λ xs. chunk_at width xs i) (sym (take-append-drop (8 * width * count) all))
      ∙ chunk_at-more width front (drop (8 * width * count) all) i (omega (arith, long, chunks_le width (suc i) count (omega (arith, low)))))) in
      pinned_peaks node_of are.digests digests tree count are.nodes boundary pinned
      ∙ ap (λ ds. peak_digests (tree_digest node_of ds) (forest_of mmr_rule count)) leaves_same
      ∙ ap (λ n. peak_digests (tree_digest node_of (leaf_digests leaf_of 0 (full_chunks width front))) (forest_of mmr_rule n))
      (sym taken ∙ ap length leaves_same)

  -- the map of pinned digests is one of the list whose chunks have them as peaks
  pub leaves_of_parts : (all : List Bool) (count : ℕ) (digests : List (List ℕ)) → length all ≡ 8 * width * count
      → length digests ≡ length (pinned_positions mmr_rule count) → digests ≡ chunk_peaks leaf_of node_of width all
      → AreLeavesOf leaf_of node_of width all (pruned_tree count digests) []
  unfolding chunk_peaks
  leaves_of_parts all count digests long same_count peaks =
      let chunks = full_chunks width all in
      let list = leaf_digests leaf_of 0 chunks in
      let full = count_full width count (length all) some long in
      let many : length chunks ≡ count = length-chunks_of width (length all / (8 * width)) all ∙ full in
      let counted : length list ≡ count = length-leaf_digests leaf_of width 0 chunks ∙ many in
      record {
        digests = list;
        nodes = pruned_nodes node_of list digests count counted same_count
            (peaks ∙ ap (λ n. peak_digests (tree_digest node_of list) (forest_of mmr_rule n)) counted);
        full = omega (arith, long, ap (λ n. 8 * width * n) counted);
        clean = λ i lt none.
            let low : i < length chunks = omega (arith, lt, counted, many) in
            at-leaf_digests leaf_of width 0 chunks i low
            ∙ ap₂ (λ n chunk. leaf_of (node_count mmr_rule n) chunk) (omega arith)
            (at-chunks_of width (length all / (8 * width)) all i (omega (arith, low, many, full)));
      }

  -- ---- the map of its parts
  module _ (all : List Bool) (count : ℕ) (digests : List (List ℕ)) (long : length all ≡ 8 * width * count)
      (same_count : length digests ≡ length (pinned_positions mmr_rule count)) (peaks : digests ≡ chunk_peaks leaf_of node_of width all)
      (bits : Bits) (tree : Nodes) (bits_are : bits ≡ pruned_bits count) (tree_is : tree ≡ pruned_tree count digests) where
    pub parts_bits : AreBitsOf width all bits
    parts_bits = subst (AreBitsOf width all) (sym bits_are) (record {
      pruned = omega (arith, long);
      kept = sym (drop_all (8 * width * count) all (omega (arith, long)));
    })

    pub parts_leaves : AreLeavesOf leaf_of node_of width all tree []
    parts_leaves =
        subst (λ (t : Nodes). AreLeavesOf leaf_of node_of width all t []) (sym tree_is) (leaves_of_parts all count digests long same_count peaks)

    pub parts_full : tree.leaves ≡ full_count width bits
    parts_full = ap (λ (t : Nodes). t.leaves) tree_is ∙ none ∙ sym (ap (full_count width) bits_are)
      where
        none : count ≡ full_count width (pruned_bits count)
        none = omega (arith, chunks_of_bits width 0, some)

    pub parts_map : (root : List ℕ) → IsMapOf leaf_of node_of width all (record { bits = bits; tree = tree; stage = merkleized root })
    parts_map root = record { bits = parts_bits; leaves = parts_leaves }
