-- A map after each call is one of the list after it.
use Rattle.std.proofs.Common.{◌≡◌, ℕ, suc, ◌+◌, ◌-◌, ◌*◌, ◌/◌, ◌%◌, ◌<◌}
use Rattle.std.proofs.Common.{◌≤◌, Bool, true, false, eqb, leb, inl, inr, List, [], ◌∷◌, ◌++◌, length, drop}
use Rattle.std.proofs.Common.{refl, sym, ◌∙◌, ap, ap₂, subst, arith, length-append, length-drop, eq-eqb}
use Rattle.std.specs.List.{AllByRecursion}
use Rattle.std.specs.Prelude.{◌||◌, slice_set}
use Rattle.std.proofs.lemmas.Bool.{cases_lt, cases_eq, cond-true, cond-false, ne_eqb, lt-leb, le-leb}
use Rattle.std.proofs.lemmas.List.{length-set}
use Rattle.std.proofs.lemmas.Nat.{le-div, mod_below, div-add-mod', div-mul-add, mod-mul-add}
use Rattle.std.proofs.Math.Nat.{mul_comm, mul-add}
use Rattle.std.specs.BTreeSet.{insert_key}
use Rattle.std.specs.Ordering.{nat_cmp, match_ordering}
use Rattle.std.proofs.Common.{Ordering, Less, Equal, Greater}
use Rattle.std.proofs.lemmas.Map.Lookups.{exact_unsigned}
use Rattle.merkle_forest.specs.Hashing.{Hash}
use Rattle.merkle_forest.specs.declared.bagging.Bagging.{Bagging}
use Rattle.merkle_forest.specs.Forest.{mmr_rule}
use Rattle.merkle_core_parts.specs.Mem.{Nodes, NodeHash, AreNodesOf, node_count, replaced, list_root}
use Rattle.merkle_core_parts.specs.Laws.Replaced.{length-replaced}
use Rattle.state_theory.specs.Bits.{Bits, AreBitsOf, bit_count, chunk_at, full_chunks, last_chunk, pruned_to}
use Rattle.state_theory.specs.Maps.{LeafHash, AreLeavesOf, HasLeaves, changed, full_count, is_one_of, leaf_digests}
use Rattle.state_theory.specs.Maps.{IsMap, IsMapOf}
use Rattle.state_theory.specs.Maps.{chunks_root, bitmap_string, sealed_root, bitmap_root}
use Rattle.state_theory.specs.MapsCode.{remembered, leaves_from, leaves_at}
use Rattle.state_theory.proofs.ChunkLemmas.{chunk_at-more, chunk_at-set, chunk_end, chunks_le, chunks_of_bits}
use Rattle.state_theory.proofs.KeptLemmas.{count-kept, chunk-kept, kept-push, kept-set}
use Rattle.state_theory.proofs.LeafLemmas.{leaves_are, length-leaves_from, brought_leaf}
use Rattle.state_theory.proofs.WidthLemmas.{wide-some}

-- ---- how many chunks there are
-- bits that are kept fill chunks of all bits
pub full_kept : (width : ℕ) (all : List Bool) (bits : Bits) → 1 ≤ width → AreBitsOf width all bits
    → full_count width bits ≡ length all / (8 * width)
full_kept width all bits some are =
    let size = 8 * width in
    let kept = length bits.kept in
    let rest = mod_below kept size (omega (arith, some)) in
    let as_rows : length all ≡ full_count width bits * size + kept % size = omega (
      arith,
      sym (count-kept width all bits are),
      chunks_of_bits width kept,
      mul_comm (full_count width bits) size,
      mul-add size bits.pruned (kept / size),
    ) in
    sym (ap (λ n. n / size) as_rows ∙ div-mul-add (full_count width bits) size (kept % size) rest)

pub rest_kept : (width : ℕ) (all : List Bool) (bits : Bits) → 1 ≤ width → AreBitsOf width all bits
    → length bits.kept % (8 * width) ≡ length all % (8 * width)
rest_kept width all bits some are =
    let size = 8 * width in
    let kept = length bits.kept in
    let rest = mod_below kept size (omega (arith, some)) in
    let as_rows : length all ≡ full_count width bits * size + kept % size = omega (
      arith,
      sym (count-kept width all bits are),
      chunks_of_bits width kept,
      mul_comm (full_count width bits) size,
      mul-add size bits.pruned (kept / size),
    ) in
    sym (ap (λ n. n % size) as_rows ∙ mod-mul-add (full_count width bits) size (kept % size) rest)

pub rest_count : (width : ℕ) (bits : Bits) → 1 ≤ width → bit_count width bits % (8 * width) ≡ length bits.kept % (8 * width)
rest_count width bits some =
    let size = 8 * width in
    let kept = length bits.kept in
    let rest = mod_below kept size (omega (arith, some)) in
    let as_rows : bit_count width bits ≡ full_count width bits * size + kept % size = omega (
      arith,
      chunks_of_bits width kept,
      mul_comm (full_count width bits) size,
      mul-add size bits.pruned (kept / size),
    ) in
    ap (λ n. n % size) as_rows ∙ mod-mul-add (full_count width bits) size (kept % size) rest

-- full chunks have no more bits than there are
pub full_within : (width : ℕ) (bits : Bits) → 8 * width * full_count width bits ≤ bit_count width bits
full_within width bits =
    omega (arith, chunks_of_bits width (length bits.kept), mul-add (8 * width) bits.pruned (length bits.kept / (8 * width)))

pub full_below : (width : ℕ) (bits : Bits) (chunk : ℕ) → bits.pruned ≤ chunk → chunk < full_count width bits
    → 8 * width * (chunk - bits.pruned) + 8 * width ≤ length bits.kept
full_below width bits chunk from lt =
    omega (
      arith,
      chunk_end width (chunk - bits.pruned),
      chunks_le width (suc (chunk - bits.pruned)) (length bits.kept / (8 * width)) (omega (arith, from, lt)),
      chunks_of_bits width (length bits.kept),
    )

pub full_more : (width m n : ℕ) → 1 ≤ width → m ≤ n → m / (8 * width) ≤ n / (8 * width)
full_more width m n some le =
    le-div (m / (8 * width)) n (8 * width) (omega (arith, some)) (omega (arith, div-add-mod' m (8 * width), le))

-- a bit that is there stands in a chunk that is full, or in the one after those
pub chunk_within : (width : ℕ) (bits : Bits) (bit : ℕ) → 1 ≤ width → bit ≤ bit_count width bits → bit / (8 * width) ≤ full_count width bits
chunk_within width bits bit some le =
    elim (cases_lt (full_count width bits) (bit / (8 * width))) [
      | inl past ↦ absurd (
          let whole = chunks_le width (suc (full_count width bits)) (bit / (8 * width)) (omega (arith, past)) in
          let rest = mod_below (length bits.kept) (8 * width) (omega (arith, some)) in
          omega (
            arith,
            whole,
            rest,
            le,
            chunk_end width (full_count width bits),
            chunks_of_bits width bit,
            chunks_of_bits width (length bits.kept),
            mul-add (8 * width) bits.pruned (length bits.kept / (8 * width)),
          ))
      | inr within ↦ within
    ]

-- ---- numbers that are remembered
or_parts : (x y : Bool) → (x || y) ≡ false → (x ≡ false) × (y ≡ false)
or_parts true y none = absurd cc
or_parts false y none = (refl, none)

pub not_with : (numbers : List ℕ) (n i : ℕ) → is_one_of i (insert_key nat_cmp numbers n) ≡ false
    → (i ≡ n → ⊥) × (is_one_of i numbers ≡ false)
not_with [] n i none =
    (λ same. (let clash : true ≡ false = sym (eq-eqb n i (sym same)) ∙ (or_parts (eqb n i) false none).0 in absurd cc), refl)
not_with (m ∷ numbers) n i none = by (nat_cmp n m) refl (not_with numbers n i)
  where
    apart : eqb n i ≡ false → i ≡ n → ⊥
    apart test same = let clash : true ≡ false = sym (eq-eqb n i (sym same)) ∙ test in absurd cc

    there : (o : Ordering) → nat_cmp n m ≡ o
        → is_one_of i (match_ordering o (n ∷ m ∷ numbers) (m ∷ numbers) (m ∷ insert_key nat_cmp numbers n)) ≡ false
    there o is =
        ap (λ r. is_one_of i (match_ordering r (n ∷ m ∷ numbers) (m ∷ numbers) (m ∷ insert_key nat_cmp numbers n))) (sym is) ∙ none

    by : (o : Ordering) → nat_cmp n m ≡ o
        → (is_one_of i (insert_key nat_cmp numbers n) ≡ false → (i ≡ n → ⊥) × (is_one_of i numbers ≡ false))
        → (i ≡ n → ⊥) × (is_one_of i (m ∷ numbers) ≡ false)
    by Less is later =
        let parts = or_parts (eqb n i) (is_one_of i (m ∷ numbers)) (there Less is) in (apart parts.0, parts.1)
    by Equal is later =
        let same : n ≡ m = exact_unsigned n m is in
        let old = there Equal is in
        (apart (ap (λ k. eqb k i) same ∙ (or_parts (eqb m i) (is_one_of i numbers) old).0), old)
    by Greater is later =
        let parts = or_parts (eqb m i) (is_one_of i (insert_key nat_cmp numbers n)) (there Greater is) in
        let more = later parts.1 in
        (more.0, ap₂ (λ x y. x || y) parts.0 more.1)

pub all_with : (P : ℕ → Type 0) (numbers : List ℕ) (n : ℕ) → P n → AllByRecursion P numbers
    → AllByRecursion P (insert_key nat_cmp numbers n)
all_with P [] n own all = (own, tt)
all_with P (m ∷ numbers) n own all = by (nat_cmp n m) (all_with P numbers n own all.1)
  where
    by : (o : Ordering) → AllByRecursion P (insert_key nat_cmp numbers n)
        → AllByRecursion P (match_ordering o (n ∷ m ∷ numbers) (m ∷ numbers) (m ∷ insert_key nat_cmp numbers n))
    by Less later = (own, all)
    by Equal later = all
    by Greater later = (all.0, later)

pub all_weaker : (P Q : ℕ → Type 0) → ((n : ℕ) → P n → Q n) → (numbers : List ℕ) → AllByRecursion P numbers → AllByRecursion Q numbers
all_weaker P Q each [] all = tt
all_weaker P Q each (n ∷ numbers) all = (each n all.0, all_weaker P Q each numbers all.1)

module _ (leaf_of : LeafHash) (node_of : NodeHash) (width : ℕ) where
  -- ---- more bits
  pub leaves-push : (all : List Bool) (tree : Nodes) (chunks : List ℕ) (more : List Bool) → AreLeavesOf leaf_of node_of width all tree chunks
      → AreLeavesOf leaf_of node_of width (all ++ more) tree chunks
  leaves-push all tree chunks more are = record {
    digests = are.digests;
    nodes = are.nodes;
    full = omega (arith, are.full, length-append all more);
    clean = λ i lt none. are.clean i lt none
        ∙ ap (leaf_of (node_count mmr_rule i)) (sym (chunk_at-more width all more i
        (omega (arith, are.full, chunks_le width (suc i) (length are.digests) (omega (arith, lt))))));
  }

  -- ---- a bit that is set, in a chunk that is remembered or that has no leaf yet
  pub leaves-set : (all : List Bool) (tree : Nodes) (chunks after : List ℕ) (bit : ℕ) (value : Bool) → 1 ≤ width
      → ((i : ℕ) → i < tree.leaves → is_one_of i after ≡ false → (i ≡ bit / (8 * width) → ⊥) × (is_one_of i chunks ≡ false))
      → AreLeavesOf leaf_of node_of width all tree chunks → AreLeavesOf leaf_of node_of width (slice_set all bit value) tree after
  leaves-set all tree chunks after bit value some others are = record {
    digests = are.digests;
    nodes = are.nodes;
    full = omega (arith, are.full, length-set all bit value);
    clean = λ i lt none.
        let other = others i (omega (arith, lt, are.nodes.counted)) none in
        are.clean i lt other.1 ∙ ap (leaf_of (node_count mmr_rule i)) (sym (chunk_at-set width all i bit value other.0 some));
  }

  -- ---- leaves that are brought to the bits
  pub leaves-brought : (all : List Bool) (bits : Bits) (tree after : Nodes) (chunks : List ℕ) → 1 ≤ width → AreBitsOf width all bits
      → tree.boundary ≡ bits.pruned → HasLeaves width bits tree.leaves (changed chunks)
      → (are : AreLeavesOf leaf_of node_of width all tree chunks)
      → AreNodesOf node_of mmr_rule (replaced (are.digests ++ leaves_from leaf_of width bits tree.leaves (full_count width bits - tree.leaves))
      (leaves_at leaf_of width bits chunks)) after
      → AreLeavesOf leaf_of node_of width all after []
  leaves-brought all bits tree after chunks some bits_are pruned leaves are nodes =
      let count = full_count width bits in
      let old = are.digests in
      let made = λ (n : ℕ). replaced (old ++ leaves_from leaf_of width bits n (count - n)) (leaves_at leaf_of width bits chunks) in
      let long : length (made (length old)) ≡ count = omega (
        arith,
        length-replaced (old ++ leaves_from leaf_of width bits (length old) (count - length old)) (leaves_at leaf_of width bits chunks),
        length-append old (leaves_from leaf_of width bits (length old) (count - length old)),
        length-leaves_from leaf_of width bits (length old) (count - length old),
        leaves.0,
        are.nodes.counted,
      ) in
      record {
        digests = made (length old);
        nodes = subst (λ n. AreNodesOf node_of mmr_rule (made n) after) are.nodes.counted nodes;
        full = omega (arith, ap (λ n. 8 * width * n) long, full_within width bits, count-kept width all bits bits_are);
        clean = λ i lt none. brought_leaf leaf_of width bits all old chunks count i bits_are
            (all_weaker (λ chunk. (bits.pruned ≤ chunk) × (chunk < tree.leaves)) (λ chunk. bits.pruned ≤ chunk) (λ n both. both.0) chunks leaves.1)
            (omega (arith, leaves.0, are.nodes.counted)) (omega (arith, are.nodes.shape.within, are.nodes.counted, pruned)) (omega (arith, lt, long))
            are.clean;
      }

  -- ---- the root
  pub clean_digests : (all : List Bool) (bits : Bits) (tree : Nodes) → 1 ≤ width → AreBitsOf width all bits
      → tree.leaves ≡ full_count width bits → (are : AreLeavesOf leaf_of node_of width all tree [])
      → are.digests ≡ leaf_digests leaf_of 0 (full_chunks width all)
  clean_digests all bits tree some bits_are full are =
      let long : length are.digests ≡ length all / (8 * width) = sym are.nodes.counted ∙ full ∙ full_kept width all bits some bits_are in
      leaves_are leaf_of width all are.digests (length all / (8 * width)) long
      (λ i lt. are.clean i (omega (arith, lt, long)) refl)

-- the two cases of a root
pub sealed-full : (hash : Hash) (width : ℕ) (tree_root : List ℕ) (bits : ℕ) (last : List ℕ) → bits % (8 * width) ≡ 0
    → sealed_root hash width tree_root bits last ≡ tree_root
unfolding sealed_root
sealed-full hash width tree_root bits last full = cond-true _ _ _ (eq-eqb (bits % (8 * width)) 0 full)

pub sealed-partial : (hash : Hash) (width : ℕ) (tree_root : List ℕ) (bits : ℕ) (last : List ℕ) → (bits % (8 * width) ≡ 0 → ⊥)
    → sealed_root hash width tree_root bits last ≡ hash (bitmap_string tree_root bits (hash last))
unfolding sealed_root
sealed-partial hash width tree_root bits last rest = cond-false _ _ _ (ne_eqb (bits % (8 * width)) 0 rest)

-- a partial chunk is the last one
pub last-partial : (width : ℕ) (all : List Bool) (bits : Bits) → 1 ≤ width → AreBitsOf width all bits
    → (length all % (8 * width) ≡ 0 → ⊥) → (last_chunk width bits.kept).0 ≡ chunk_at width all (length all / (8 * width))
last-partial width all bits some are partial =
    let size = 8 * width in
    let kept = length bits.kept in
    let rest : kept % size ≡ 0 → ⊥ = λ none. partial (sym (rest_kept width all bits some are) ∙ none) in
    let any : kept ≡ 0 → ⊥ = λ none. rest (omega (arith, chunks_of_bits width kept, none)) in
    let at : kept / size ≡ full_count width bits - bits.pruned = omega arith in
    ap (λ (last : List ℕ × ℕ). last.0)
    (cond-false (eqb kept 0) _ _ (ne_eqb kept 0 any) ∙ cond-false (eqb (kept % size) 0) _ _ (ne_eqb (kept % size) 0 rest))
    ∙ ap (chunk_at width bits.kept) at
    ∙ chunk-kept width all bits (full_count width bits) are (omega arith)
    ∙ ap (chunk_at width all) (full_kept width all bits some are)

-- so the last chunk that is kept is sealed in where that of the list is
pub sealed_kept : (hash : Hash) (width : ℕ) (tree_root : List ℕ) (all : List Bool) (bits : Bits) → 1 ≤ width → AreBitsOf width all bits
    → sealed_root hash width tree_root (bit_count width bits) (last_chunk width bits.kept).0
    ≡ sealed_root hash width tree_root (length all) (chunk_at width all (length all / (8 * width)))
unfolding sealed_root
sealed_kept hash width tree_root all bits some are =
    let end = chunk_at width all (length all / (8 * width)) in
    ap (λ n. sealed_root hash width tree_root n (last_chunk width bits.kept).0) (count-kept width all bits are)
    ∙ elim (cases_eq (length all % (8 * width)) 0) [
      | inl aligned ↦
          (let test = eq-eqb (length all % (8 * width)) 0 aligned in cond-true _ _ _ test ∙ sym (cond-true _ _ _ test))
      | inr partial ↦ ap (sealed_root hash width tree_root (length all)) (last-partial width all bits some are partial)
    ]

pub root_is : (hash : Hash) (leaf_of : LeafHash) (node_of : NodeHash) (bagging : Bagging) (width : ℕ) (all : List Bool) (bits : Bits)
    (tree : Nodes) → 1 ≤ width → AreBitsOf width all bits → tree.leaves ≡ full_count width bits
    → (are : AreLeavesOf leaf_of node_of width all tree [])
    → sealed_root hash width (list_root hash node_of bagging mmr_rule are.digests 0) (bit_count width bits) (last_chunk width bits.kept).0
    ≡ bitmap_root hash leaf_of node_of bagging width all
unfolding bitmap_root chunks_root
root_is hash leaf_of node_of bagging width all bits tree some bits_are full are =
    sealed_kept hash width (list_root hash node_of bagging mmr_rule are.digests 0) all bits some bits_are
    ∙ ap (λ ds. sealed_root hash width (list_root hash node_of bagging mmr_rule ds 0) (length all) (chunk_at width all (length all / (8 * width))))
    (clean_digests leaf_of node_of width all bits tree some bits_are full are)

-- ---- bits and tree still fit after bits are pushed
pub map-push : (width : ℕ) (bits : Bits) (tree : Nodes) (chunks : List ℕ) (more : List Bool) → IsMap width bits tree (changed chunks)
    → IsMap width (record bits { kept = bits.kept ++ more }) tree (changed chunks)
map-push width bits tree chunks more is = record {
  wide = is.wide;
  pruned = is.pruned;
  leaves = (
    omega (
      arith,
      is.leaves.0,
      full_more width (length bits.kept) (length (bits.kept ++ more)) (wide-some width is.wide)
          (omega (arith, length-append bits.kept more)),
    ),
    is.leaves.1,
  );
}

-- after one is set
pub map-set : (width : ℕ) (bits : Bits) (tree : Nodes) (chunks : List ℕ) (bit at : ℕ) (value : Bool) → IsMap width bits tree (changed chunks)
    → 8 * width * bits.pruned ≤ bit
    → IsMap width (record bits { kept = slice_set bits.kept at value }) tree (changed (remembered tree.leaves chunks (bit / (8 * width))))
map-set width bits tree chunks bit at value is kept =
    let chunk = bit / (8 * width) in
    let some = wide-some width is.wide in
    let low : bits.pruned ≤ chunk = le-div bits.pruned bit (8 * width) (omega (arith, some)) (omega (arith, kept, mul_comm bits.pruned (8 * width))) in
    record {
      wide = is.wide;
      pruned = is.pruned;
      leaves = (
        omega (arith, is.leaves.0, ap (λ n. n / (8 * width)) (length-set bits.kept at value)),
        elim (cases_lt chunk tree.leaves) [
          | inl lt ↦
              subst (AllByRecursion (λ n. (bits.pruned ≤ n) × (n < tree.leaves)))
              (sym (cond-false (leb tree.leaves chunk) _ _ (lt-leb tree.leaves chunk lt)))
              (all_with (λ n. (bits.pruned ≤ n) × (n < tree.leaves)) chunks chunk (low, lt) is.leaves.1)
          | inr le ↦
              subst (AllByRecursion (λ n. (bits.pruned ≤ n) × (n < tree.leaves)))
              (sym (cond-true (leb tree.leaves chunk) _ _ (le-leb tree.leaves chunk le)))
              is.leaves.1
        ],
      );
    }

-- and after chunks are pruned
pub full-pruned : (width : ℕ) (bits : Bits) (chunk : ℕ) → 1 ≤ width → bits.pruned ≤ chunk → chunk ≤ full_count width bits
    → full_count width (pruned_to width bits chunk) ≡ full_count width bits
full-pruned width bits chunk some low high =
    let size = 8 * width in
    let kept = length bits.kept in
    let gone = chunk - bits.pruned in
    let left = kept / size - gone in
    let whole : gone + left ≡ kept / size = omega (arith, low, high) in
    let rest = mod_below kept size (omega (arith, some)) in
    let long : length (drop (size * gone) bits.kept) ≡ left * size + kept % size = omega (
      arith,
      length-drop (size * gone) bits.kept,
      chunks_of_bits width kept,
      mul-add size gone left,
      ap (λ n. size * n) whole,
      mul_comm left size,
    ) in
    omega (arith, ap (λ n. n / size) long ∙ div-mul-add left size (kept % size) rest, whole, low)

module _ (leaf_of : LeafHash) (node_of : NodeHash) (width : ℕ) (all : List Bool) where
  pub mapof-push : (bits : Bits) (tree : Nodes) (chunks : List ℕ) (more : List Bool)
      → IsMapOf leaf_of node_of width all (record { bits = bits; tree = tree; stage = changed chunks })
      → IsMapOf leaf_of node_of width (all ++ more)
      (record { bits = record bits { kept = bits.kept ++ more }; tree = tree; stage = changed chunks })
  mapof-push bits tree chunks more is = record {
    bits = kept-push width all bits more is.bits;
    leaves = leaves-push leaf_of node_of width all tree chunks more is.leaves;
  }

  pub mapof-set : (bits : Bits) (tree : Nodes) (chunks : List ℕ) (bit : ℕ) (value : Bool) → 1 ≤ width → 8 * width * bits.pruned ≤ bit
      → IsMapOf leaf_of node_of width all (record { bits = bits; tree = tree; stage = changed chunks })
      → IsMapOf leaf_of node_of width (slice_set all bit value) (record {
        bits = record bits { kept = slice_set bits.kept (bit - 8 * width * bits.pruned) value };
        tree = tree;
        stage = changed (remembered tree.leaves chunks (bit / (8 * width)));
      })
  mapof-set bits tree chunks bit value some kept is =
      let chunk = bit / (8 * width) in
      record {
        bits = kept-set width all bits bit value is.bits kept;
        leaves = leaves-set leaf_of node_of width all tree chunks (remembered tree.leaves chunks chunk) bit value some
            (λ i lt none. elim (cases_lt chunk tree.leaves) [
              | inl inside ↦ not_with chunks chunk i
                  (ap (is_one_of i) (sym (cond-false (leb tree.leaves chunk) _ _ (lt-leb tree.leaves chunk inside))) ∙ none)
              | inr past ↦ (
                λ same. absurd (omega (arith, lt, past, same)),
                ap (is_one_of i) (sym (cond-true (leb tree.leaves chunk) _ _ (le-leb tree.leaves chunk past))) ∙ none,
              )
            ])
            is.leaves;
      }
