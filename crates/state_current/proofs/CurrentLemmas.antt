-- Roots of what is kept are those of the state that it stands for.
use Rattle.std.proofs.Common.{◌≡◌, ℕ, zero, suc, ◌+◌, ◌-◌, ◌*◌, ◌/◌, ◌%◌, ◌^◌, ◌<◌, ◌≤◌, Bool, true, false, eqb, cond}
use Rattle.std.proofs.Common.{inl, inr, List, [], ◌∷◌, ◌++◌, length, map, drop, Option, None, Some, refl, sym, ◌∙◌}
use Rattle.std.proofs.Common.{ap, ap₂, subst, arith, append-nil}
use Rattle.std.specs.Prelude.{◌↔◌, IsSome, replicate, unwrap_or, if◌then◌else◌, ◌==◌, nat_le}
use Rattle.std.proofs.lemmas.Bool.{cases_lt, cond-true, cond-false, eq-eqb, ne_eqb, lt-ltb, le-ltb}
use Rattle.std.proofs.lemmas.List.{length-map}
use Rattle.std.proofs.lemmas.Nat.{div-add-mod', mod_below, le-div, mul-le, pow_pos}
use Rattle.std.proofs.Math.Nat.{mul_comm, mul-add}
use Rattle.merkle_forest.specs.declared.bagging.Bagging.TheVariants.{BackwardFold}
use Rattle.merkle_forest.specs.Forest.{Tree, position, Rule, forest_of}
use Rattle.merkle_forest.specs.Hashing.{Hash, root_of}
use Rattle.merkle_forest.specs.Laws.Nodes.{peak-node}
use Rattle.merkle_forest.specs.Laws.Peaks.{located_from-zero}
use Rattle.merkle_forest.specs.Nodes.{HasNode, IsPeakAt, nodes_of_height}
use Rattle.merkle_forest.specs.Peaks.{located_from, position_and_height}
use Rattle.merkle_forest.specs.Perfect.{IsPairing}
use Rattle.merkle_forest.specs.Trees.{Located, located, end_of, inactive_peaks, peak_digests, tree_root}
use Rattle.merkle_core_parts.specs.Laws.Mem.{at-peaks, nodes-empty}
use Rattle.merkle_core_parts.specs.Laws.Plain.{length-plain, plain_roots}
use Rattle.merkle_core_parts.specs.Mem.{AreKeptNodes, Nodes, IsPeakPosition, digests_from, list_root, node_at, plain_leaf_digests, plain_node}
use Rattle.state_theory.specs.Bits.{Bits, IsChunkWidth, bit_count, chunk_at as kept_chunk, chunk_of}
use Rattle.state_theory.specs.Laws.Bits.{kept_chunk as kept_is}
use Rattle.state_theory.specs.Canonical.{Setting, State, chunk, chunks, chunk_bits, full_chunks, next_bit}
use Rattle.state_theory.specs.Canonical.{forest, peaks, grafted_digests, grafted_root, operations_root}
use Rattle.state_theory.specs.Canonical.{pending_digest, partial_digest, canonical_string, canonical_root}
use Rattle.state_theory.specs.GraftedNodes.{AreGraftedLeaves, TwoTrees, chunks_node, grafted_lookup}
use Rattle.state_theory.specs.Grafting.{aligned_count_with, chunk_aligned_inactive_peaks}
use Rattle.state_theory.specs.Laws.Chunks.{chunk_at as chunk_listed}
use Rattle.state_theory.specs.Laws.GraftedNodes.{Aligned, Roots}
use Rattle.state_theory.specs.Laws.Heights.{same_power, some_height}
use Rattle.state_theory.specs.Laws.Roots.{is_grafted_root}
use Rattle.state_theory.specs.Laws.SameNodes.{AreBorn}
use Rattle.state_current.specs.Settled.{IsSettled}
use Rattle.state_current.specs.Kept.{Kept, AreTogether, StandsFor, IsPendingAmong}
use Rattle.state_current.proofs.PrunedLemmas.{peaks_above}
use Rattle.state_current.proofs.ReadLemmas.{node_kept, node_read}

-- what is used of a family
pub record IsGraftable (rule : Rule) : Type 0 where
  pub root : ℕ → ℕ → ℕ
  pub birth : ℕ → ℕ → ℕ
  pub pairs : IsPairing rule
  pub roots : Roots rule root
  pub aligned : Aligned rule
  pub born : AreBorn rule birth
  pub counted : (n chunk level : ℕ) → n ≤ 2 ^ 62 → 0 < level → level ≤ 62
      → HasNode (forest_of rule n) (chunk * 2 ^ level) level ↔ (chunk < nodes_of_height level (forest_of rule n))

-- ---- no operations
pub settled_none : (rule : Rule) (level n : ℕ) → IsSettled rule level n 0
unfolding forest_of
settled_none rule level n first peak stands = absurd stands

pub none_of_height : (rule : Rule) (level : ℕ) → 0 ≡ nodes_of_height level (forest_of rule 0)
unfolding forest_of
none_of_height rule level = refl

pub leaves_none : (setting : Setting) (floor : ℕ) → AreGraftedLeaves setting (record { operations = []; bits = []; floor = floor }) []
unfolding forest_of
leaves_none setting floor = record { counted = refl; joined = λ index node stands high. absurd stands }

-- a chunk of the state that has a bit
pub state_chunk_at : (setting : Setting) (state : State) (index : ℕ) → 0 < setting.width → chunk_bits setting * index < length state.operations
    → chunk setting state index ≡ chunk_of setting.width (drop (8 * setting.width * index) state.bits)
unfolding chunks
state_chunk_at setting state index some lt =
    let size : ℕ = chunk_bits setting in
    let count : ℕ = length state.operations in
    let parts = div-add-mod' count size in
    let swap = mul_comm (count / size) size in
    elim (cases_lt index (count / size)) [
      | inl full ↦ chunk_listed setting.width _ index state.bits (omega (arith, full))
      | inr last ↦
          (let more : size * (count / size) ≤ size * index = mul-le size (count / size) size index (omega arith) last in
          let rest : next_bit setting state ≡ 0 → ⊥ = λ none. omega (arith, parts, swap, more, lt, none) in
          let one : ◌≡◌ {A = ℕ} (if next_bit setting state == 0 then 0 else 1) 1 = cond-false _ 0 1 (ne_eqb (next_bit setting state) 0 rest) in
          let same : index ≡ count / size =
          (elim (cases_lt (count / size) index) [
            | inl past ↦ absurd (let far : size * suc (count / size) ≤ size * index = mul-le size (suc (count / size)) size index (omega arith) past in
                let end : size * suc (count / size) ≡ size * (count / size) + size = omega arith in
                let small = mod_below count size (omega (arith, some)) in
                omega (arith, parts, swap, far, end, small, lt))
            | inr le ↦ omega (arith, le, last)
          ]) in
          chunk_listed setting.width _ index state.bits (omega (arith, same, one)))
    ]

module _ (setting : Setting) (state : State) (kept : Kept) (facts : IsGraftable setting.rule) (stands : StandsFor setting state kept) where
  abbrev rule : Rule
  rule = setting.rule

  abbrev hash : Hash
  hash = setting.hash

  abbrev level : ℕ
  level = setting.grafting_height

  abbrev count : ℕ
  count = length state.operations

  pub all_are : kept.operations.leaves ≡ count
  all_are = stands.operations.counted ∙ length-plain hash rule 0 state.operations

  -- ---- the operations' root
  pub operations_root_is : (inactive : ℕ) (root : List ℕ)
      → inactive ≡ inactive_peaks kept.floor (located (forest_of rule kept.operations.leaves))
      → root ≡ list_root hash (plain_node hash) BackwardFold rule (plain_leaf_digests hash rule 0 state.operations) inactive
      → root ≡ operations_root setting state
  unfolding operations_root
  operations_root_is inactive root inactive_is is =
      is ∙ plain_roots rule facts.pairs hash BackwardFold state.operations inactive
      ∙ ap (tree_root hash BackwardFold rule state.operations)
      (inactive_is ∙ ap₂ (λ f n. inactive_peaks f (located (forest_of rule n))) stands.floor all_are)

  -- ---- the grafted root
  module _ (together : AreTogether rule setting.width kept) where
    same_level : together.level ≡ level
    same_level = same_power together.level level (sym together.whole ∙ stands.whole)

    low : level ≤ 62
    low = omega (arith, same_level, together.low)

    abbrev trees : TwoTrees
    trees = record { grafting_height = level; operations = node_at rule kept.operations; chunks = node_at rule kept.chunks }

    peak_read : count ≤ 2 ^ 62 → (first : ℕ) (tree : Tree) → IsPeakAt first tree (forest_of rule count)
        → grafted_lookup rule hash trees (position tree) ≡ Some (grafted_digests setting state first tree)
    peak_read few first tree peak =
        let Settled : ℕ → ℕ → Type 0 = λ l n. IsSettled rule l n kept.bits.pruned in
        let settled : IsSettled rule level count kept.chunks.boundary =
        subst (IsSettled rule level count) (sym together.pruned)
        (subst (λ l. Settled l count) same_level (subst (Settled together.level) all_are together.settled)) in
        let pruned : kept.operations.boundary ≤ kept.chunks.boundary * 2 ^ level =
        omega (
          arith,
          together.pruned_operations,
          ap (λ l. kept.bits.pruned * 2 ^ l) same_level,
          ap (λ k. k * 2 ^ level) together.pruned,
        ) in
        node_read setting facts.root facts.pairs facts.roots facts.aligned stands.whole facts.birth facts.born
        (λ n chunk small. facts.counted n chunk level small (some_height setting.width level stands.whole) low)
        state few stands.leaf_digests kept.operations kept.chunks stands.operations stands.joined stands.chunks pruned
        first tree (peak-node first tree (forest_of rule count) peak)
        (peaks_above rule facts.root facts.pairs facts.roots facts.aligned hash count level kept.chunks.boundary settled first tree peak)

    pub peaks_are : count ≤ 2 ^ 62 → (n : ℕ) → n ≡ count
        → digests_from rule n (grafted_lookup rule hash trees) 0 ≡ peak_digests (grafted_digests setting state) (forest setting state)
    peaks_are few n is =
        ap (λ k. digests_from rule k (grafted_lookup rule hash trees) 0) is
        ∙ ap (λ ps. map (λ peak. unwrap_or (grafted_lookup rule hash trees peak.0) []) (map position_and_height ps))
        (located_from-zero (forest_of rule count))
        ∙ at-peaks (grafted_lookup rule hash trees) (grafted_digests setting state) (forest_of rule count) (peak_read few)

    pub grafted_root_is : count ≤ 2 ^ 62 → (n inactive : ℕ) (digests : List (List ℕ)) (root : List ℕ) → n ≡ kept.operations.leaves
        → inactive ≡ chunk_aligned_inactive_peaks (2 ^ level) kept.floor (located (forest_of rule n))
        → digests ≡ digests_from rule n (grafted_lookup rule hash trees) 0
        → root ≡ root_of hash BackwardFold n inactive digests → root ≡ grafted_root setting state
    grafted_root_is few n inactive digests root is inactive_is digests_are root_is =
        let same : n ≡ count = is ∙ all_are in
        is_grafted_root setting state BackwardFold n inactive (forest setting state) (peaks setting state) (grafted_digests setting state)
        digests root refl refl refl
        (inactive_is ∙ ap₂ (λ b f. chunk_aligned_inactive_peaks b f (located (forest_of rule n))) (sym stands.whole) stands.floor
        ∙ ap (λ k. chunk_aligned_inactive_peaks (chunk_bits setting) state.floor (located (forest_of rule k))) same)
        refl (digests_are ∙ peaks_are few n same) same root_is

    -- ---- the pending chunk, and the partial one
    graftable_are : kept.chunks.leaves ≡ nodes_of_height level (forest setting state)
    graftable_are = together.leaves ∙ ap₂ (λ l n. nodes_of_height l (forest_of rule n)) same_level all_are

    pub chunk_is : (index : ℕ) → kept.bits.pruned ≤ index → chunk_bits setting * index < count
        → kept_chunk setting.width kept.bits.kept (index - kept.bits.pruned) ≡ chunk setting state index
    chunk_is index le lt =
        kept_is setting.width index kept.bits le ∙ ap (λ bs. chunk_of setting.width (drop (8 * setting.width * index) bs)) (sym stands.bits)
        ∙ sym (state_chunk_at setting state index (omega (arith, stands.whole, pow_pos level)) lt)

    full_lt : (index : ℕ) → index < full_chunks setting state → chunk_bits setting * index < count
    full_lt index lt =
        let size : ℕ = chunk_bits setting in
        let end : size * suc index ≤ size * (count / size) = mul-le size (suc index) size (count / size) (omega arith) lt in
        let next : size * suc index ≡ size * index + size = omega arith in
        omega (arith, end, next, div-add-mod' count size, mul_comm (count / size) size, stands.whole, pow_pos level)

    pub pending_none : (graftable full : ℕ) → graftable ≡ kept.chunks.leaves → full ≡ bit_count setting.width kept.bits / (8 * setting.width)
        → full ≤ graftable → None ≡ pending_digest setting state
    unfolding pending_digest
    pending_none graftable full graftable_is full_is le =
        let full_all : full ≡ full_chunks setting state = full_is ∙ ap (λ n. n / chunk_bits setting) (together.bits ∙ all_are) in
        sym (cond-false _ _ _ (le-ltb (nodes_of_height level (forest setting state)) (full_chunks setting state)
        (omega (arith, le, full_all, graftable_is, graftable_are))))

    pub pending_some : (graftable full : ℕ) (bytes digest : List ℕ) → graftable ≡ kept.chunks.leaves
        → full ≡ bit_count setting.width kept.bits / (8 * setting.width) → graftable < full → kept.bits.pruned ≤ graftable
        → bytes ≡ kept_chunk setting.width kept.bits.kept (graftable - kept.bits.pruned) → digest ≡ hash (bytes ++ [])
        → Some digest ≡ pending_digest setting state
    unfolding pending_digest
    pending_some graftable full bytes digest graftable_is full_is lt kept_from bytes_are is =
        let full_all : full ≡ full_chunks setting state = full_is ∙ ap (λ n. n / chunk_bits setting) (together.bits ∙ all_are) in
        let same : graftable ≡ nodes_of_height level (forest setting state) = graftable_is ∙ graftable_are in
        ap (λ d. Some d) (is ∙ ap hash (append-nil bytes ∙ bytes_are
        ∙ chunk_is graftable kept_from (full_lt graftable (omega (arith, lt, full_all))) ∙ ap (chunk setting state) same))
        ∙ sym (cond-true _ _ _ (lt-ltb (nodes_of_height level (forest setting state)) (full_chunks setting state) (omega (arith, lt, full_all, same))))

    pub partial_none : (next bits : ℕ) → bits ≡ bit_count setting.width kept.bits → next ≡ bits % (8 * setting.width) → next ≡ 0
        → None ≡ partial_digest setting state
    unfolding partial_digest
    partial_none next bits bits_are next_is none =
        let same : next_bit setting state ≡ 0 =
        sym (ap (λ n. n % chunk_bits setting) (bits_are ∙ together.bits ∙ all_are)) ∙ sym next_is ∙ none in
        sym (cond-true _ _ _ (eq-eqb (next_bit setting state) 0 same))

    pub partial_some : (next bits full : ℕ) (bytes digest : List ℕ) → bits ≡ bit_count setting.width kept.bits
        → next ≡ bits % (8 * setting.width) → (next ≡ 0 → ⊥) → full ≡ bits / (8 * setting.width) → kept.bits.pruned ≤ full
        → bytes ≡ kept_chunk setting.width kept.bits.kept (full - kept.bits.pruned) → digest ≡ hash (bytes ++ [])
        → Some digest ≡ partial_digest setting state
    unfolding partial_digest
    partial_some next bits full bytes digest bits_are next_is some full_is kept_from bytes_are is =
        let all : bits ≡ count = bits_are ∙ together.bits ∙ all_are in
        let size : ℕ = chunk_bits setting in
        let next_all : next_bit setting state ≡ next = sym (ap (λ n. n % size) all) ∙ sym next_is in
        let full_all : full ≡ full_chunks setting state = full_is ∙ ap (λ n. n / size) all in
        let lt : size * full < count =
        omega (arith, ap (λ k. size * k) full_all, div-add-mod' count size, mul_comm (count / size) size, next_all, some) in
        ap (λ d. Some d) (is ∙ ap hash (append-nil bytes ∙ bytes_are ∙ chunk_is full kept_from lt ∙ ap (chunk setting state) full_all))
        ∙ sym (cond-false _ _ _ (ne_eqb (next_bit setting state) 0 (λ none. some (sym next_all ∙ none))))

-- ---- what the calls of what is kept owe
-- the peaks are there
pub peaks_known : (rule : Rule) (hash : Hash) (width : ℕ) (kept : Kept) (facts : IsGraftable rule) (together : AreTogether rule width kept)
    → AreKeptNodes rule kept.operations → AreKeptNodes rule kept.chunks → kept.operations.leaves ≤ 2 ^ 62 → (level : ℕ) → 8 * width ≡ 2 ^ level
    → (p : ℕ) → IsPeakPosition rule kept.operations.leaves p
    → IsSome (grafted_lookup rule hash (record { grafting_height = level; operations = node_at rule kept.operations; chunks = node_at rule kept.chunks }) p)
peaks_known rule hash width kept facts together shape chunks_shape few level whole p (tree, (first, stands), at) =
    let same : together.level ≡ level = same_power together.level level (sym together.whole ∙ whole) in
    let low : level ≤ 62 = omega (arith, same, together.low) in
    let settled : IsSettled rule level kept.operations.leaves kept.chunks.boundary =
    subst (IsSettled rule level kept.operations.leaves) (sym together.pruned)
    (subst (λ l. IsSettled rule l kept.operations.leaves kept.bits.pruned) same together.settled) in
    let pruned : kept.operations.boundary ≤ kept.chunks.boundary * 2 ^ level =
    omega (
      arith,
      together.pruned_operations,
      ap (λ l. kept.bits.pruned * 2 ^ l) same,
      ap (λ k. k * 2 ^ level) together.pruned,
    ) in
    let trees : TwoTrees = record { grafting_height = level; operations = node_at rule kept.operations; chunks = node_at rule kept.chunks } in
    subst (λ q. IsSome (grafted_lookup rule hash trees q)) at
    (node_kept rule facts.root facts.pairs facts.roots facts.aligned hash level facts.birth facts.born
    (λ n chunk small. facts.counted n chunk level small (some_height width level whole) low)
    kept.operations.leaves few kept.operations kept.chunks shape chunks_shape refl
    (together.leaves ∙ ap (λ l. nodes_of_height l (forest_of rule kept.operations.leaves)) same) pruned first tree
    (peak-node first tree (forest_of rule kept.operations.leaves) stands)
    (peaks_above rule facts.root facts.pairs facts.roots facts.aligned hash kept.operations.leaves level kept.chunks.boundary settled first tree stands))

-- a chunk with a bit that is not pruned may be asked for
pub may_get : (width index : ℕ) (bits : Bits) → bits.pruned ≤ index → 8 * width * index < bit_count width bits
    → 8 * width * (index - bits.pruned) < length bits.kept
may_get width index bits le lt =
    let sum : bits.pruned + (index - bits.pruned) ≡ index = omega (arith, le) in
    omega (
      arith,
      lt,
      sym (mul-add (8 * width) bits.pruned (index - bits.pruned)),
      ap (λ k. 8 * width * k) sum,
    )

-- where fewer chunks have their node than are full, the digest of one is pending
pub pending_among : (rule : Rule) (width : ℕ) (kept : Kept) → AreTogether rule width kept → (graftable full size : ℕ) (digest : List ℕ)
    → graftable ≡ kept.chunks.leaves → full ≡ bit_count width kept.bits / (8 * width) → graftable < full → length digest ≡ size
    → IsPendingAmong rule width kept.operations.leaves size digest
pending_among rule width kept together graftable full size digest graftable_is full_is lt sized = record {
  sized = sized;
  behind = λ height whole.
      let leaves : ℕ = kept.operations.leaves in
      let same : together.level ≡ height = same_power together.level height (sym together.whole ∙ whole) in
      let nodes : graftable ≡ nodes_of_height height (forest_of rule leaves) =
      graftable_is ∙ together.leaves ∙ ap (λ l. nodes_of_height l (forest_of rule leaves)) same in
      let all : full ≡ leaves / 2 ^ height =
      full_is ∙ ap (λ n. n / (8 * width)) together.bits ∙ ap (λ size. leaves / size) whole in
      omega (arith, nodes, all, lt);
}

-- ---- counts
pub inactive_low : (floor : ℕ) (ps : List Located) → inactive_peaks floor ps ≤ length ps
inactive_low floor [] = omega arith
inactive_low floor (p ∷ ps) = by (nat_le (end_of p) floor) (inactive_low floor ps)
  where
    by : (b : Bool) → inactive_peaks floor ps ≤ length ps → cond b (suc (inactive_peaks floor ps)) 0 ≤ suc (length ps)
    by true le = omega (arith, le)
    by false le = omega arith

aligned_low : (bits floor : ℕ) (ps : List Located) → chunk_aligned_inactive_peaks bits floor ps ≤ length ps
aligned_low bits floor [] = omega arith
aligned_low bits floor (p ∷ ps) = by (nat_le (end_of p) floor) (aligned_low bits floor ps)
  where
    one : (b : Bool) → cond b 1 0 ≤ suc (length ps)
    one true = omega arith
    one false = omega arith

    step : (later : ℕ) → later ≤ length ps → aligned_count_with bits later p ≤ suc (length ps)
    step zero le = one (eqb (end_of p % bits) 0)
    step (suc later) le = omega (arith, le)

    by : (b : Bool) → chunk_aligned_inactive_peaks bits floor ps ≤ length ps
        → cond b (aligned_count_with bits (chunk_aligned_inactive_peaks bits floor ps) p) 0 ≤ suc (length ps)
    by true le = step (chunk_aligned_inactive_peaks bits floor ps) le
    by false le = omega arith

many : (rule : Rule) (n : ℕ) (digest_of : ℕ → Option (List ℕ)) → length (digests_from rule n digest_of 0) ≡ length (located (forest_of rule n))
many rule n digest_of =
    length-map (map position_and_height (located_from 0 (forest_of rule n))) (λ peak. unwrap_or (digest_of peak.0) [])
    ∙ length-map (located_from 0 (forest_of rule n)) position_and_height
    ∙ ap length (located_from-zero (forest_of rule n))

pub inactive_within : (rule : Rule) (n floor inactive : ℕ) (digest_of : ℕ → Option (List ℕ))
    → inactive ≡ inactive_peaks floor (located (forest_of rule n)) → inactive ≤ length (digests_from rule n digest_of 0)
inactive_within rule n floor inactive digest_of is =
    omega (arith, is, many rule n digest_of, inactive_low floor (located (forest_of rule n)))

pub aligned_within : (rule : Rule) (n bits floor inactive : ℕ) (digest_of : ℕ → Option (List ℕ))
    → inactive ≡ chunk_aligned_inactive_peaks bits floor (located (forest_of rule n)) → inactive ≤ length (digests_from rule n digest_of 0)
aligned_within rule n bits floor inactive digest_of is =
    omega (arith, is, many rule n digest_of, aligned_low bits floor (located (forest_of rule n)))

-- ---- nothing is kept yet
abbrev pub no_nodes : Nodes
no_nodes = record { leaves = 0; boundary = 0; pinned = []; digests = [] }

abbrev pub nothing : Kept
nothing = record { operations = no_nodes; chunks = no_nodes; bits = record { pruned = 0; kept = [] }; floor = 0 }

pub together_none : (rule : Rule) (width : ℕ) → IsChunkWidth width → AreTogether rule width nothing
together_none rule width wide = record {
  level = wide.0;
  whole = wide.1;
  low = wide.2;
  bits = omega arith;
  leaves = none_of_height rule wide.0;
  pruned = refl;
  pruned_operations = omega arith;
  settled = settled_none rule wide.0 0;
}

pub stands_none : (setting : Setting) → 8 * setting.width ≡ 2 ^ setting.grafting_height
    → StandsFor setting (record { operations = []; bits = []; floor = 0 }) nothing
stands_none setting whole = let zero_bits : 0 ≡ 8 * setting.width * 0 = omega arith in record {
  whole = whole;
  operations = nodes-empty setting.rule (plain_node setting.hash);
  leaf_digests = [];
  joined = leaves_none setting 0;
  chunks = nodes-empty setting.rule (chunks_node setting.hash setting.rule setting.grafting_height);
  bits = ap (λ n. replicate n false ++ []) zero_bits;
  floor = refl;
}

-- ---- bits and chunks
pub full_of_bits : (width index bits : ℕ) → 0 < width → index < bits / (8 * width) → 8 * width * index < bits
full_of_bits width index bits some lt =
    let size : ℕ = 8 * width in
    let end : size * suc index ≤ size * (bits / size) = mul-le size (suc index) size (bits / size) (omega arith) lt in
    let next : size * suc index ≡ size * index + size = omega arith in
    omega (arith, end, next, div-add-mod' bits size, mul_comm (bits / size) size, some)

pub pruned_of_bits : (width full : ℕ) (bits : Bits) → 0 < width → full ≡ bit_count width bits / (8 * width) → bits.pruned ≤ full
pruned_of_bits width full bits some is =
    omega (
      arith,
      is,
      le-div bits.pruned (bit_count width bits) (8 * width) (omega (arith, some)) (omega (arith, mul_comm bits.pruned (8 * width))),
    )

pub rest_of_bits : (width full next bits : ℕ) → full ≡ bits / (8 * width) → next ≡ bits % (8 * width) → (next ≡ 0 → ⊥)
    → 8 * width * full < bits
rest_of_bits width full next bits full_is next_is some =
    omega (
      arith,
      ap (λ k. 8 * width * k) full_is,
      next_is,
      some,
      div-add-mod' bits (8 * width),
      mul_comm (bits / (8 * width)) (8 * width),
    )

-- ---- all together
pub canonical_root_is : (setting : Setting) (state : State) (kept : Kept) (facts : IsGraftable setting.rule) (stands : StandsFor setting state kept)
    → AreTogether setting.rule setting.width kept → (next : ℕ) (operations grafted : List ℕ) (pending partial : Option (List ℕ)) (root : List ℕ)
    → next ≡ bit_count setting.width kept.bits % (8 * setting.width)
    → operations ≡ operations_root setting state → grafted ≡ grafted_root setting state → pending ≡ pending_digest setting state
    → partial ≡ partial_digest setting state
    → root ≡ setting.hash (canonical_string operations grafted pending next partial) → root ≡ canonical_root setting state
unfolding canonical_root
canonical_root_is setting state kept facts stands together next operations grafted pending partial root next_is operations_is grafted_is
    pending_is partial_is is =
    let same : next ≡ next_bit setting state =
    next_is ∙ ap (λ n. n % chunk_bits setting) (together.bits ∙ all_are setting state kept facts stands) in
    is ∙ rw (operations_is, grafted_is, pending_is, partial_is, same) refl
