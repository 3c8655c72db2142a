-- What is kept stands for the state that has grown.
use Rattle.std.proofs.Common.{◌≡◌, ◌⊎◌, ℕ, ◌+◌, ◌-◌, ◌*◌, ◌/◌}
use Rattle.std.proofs.Common.{◌^◌, ◌<◌, ◌≤◌, Bool, true, false, eqb, cond, inl, inr}
use Rattle.std.proofs.Common.{List, [], ◌∷◌, ◌++◌, length, drop, Some, refl, sym, ◌∙◌, ap, ap₂, subst, arith}
use Rattle.std.proofs.Common.{length-append}
use Rattle.std.specs.List.{AllByRecursion}
use Rattle.std.specs.Prelude.{◌||◌, nat_lt, slice_set, unwrap_or}
use Rattle.std.proofs.lemmas.Bool.{cases_lt, cond-true, cond-false, eq-eqb, lt-ltb, le-ltb}
use Rattle.std.proofs.lemmas.List.{length-set}
use Rattle.std.proofs.lemmas.Nat.{pow_pos, le-div, mul-le}
use Rattle.std.proofs.Math.Nat.{mul_comm}
use Rattle.merkle_forest.specs.Forest.{position, height, Rule, forest_of}
use Rattle.merkle_forest.specs.Laws.NodeGrowth.{node-stays}
use Rattle.merkle_forest.specs.Laws.Nodes.{node-leaves}
use Rattle.merkle_forest.specs.Nodes.{HasNode, IsNodeAt, IsPeakAt, nodes_of_height}
use Rattle.merkle_forest.specs.Perfect.{IsPairing}
use Rattle.merkle_core_parts.specs.Laws.Plain.{digest-plain, length-plain}
use Rattle.merkle_core_parts.specs.Mem.{AreNodesOf, NodeHash, Nodes, Replacement, node_at, plain_leaf_digests, plain_node, replaced, tree_digest}
use Rattle.state_theory.specs.Bits.{Bits, bit_count, chunk_at as kept_chunk}
use Rattle.state_theory.specs.Laws.Bits.{kept_chunk as kept_is, length-all}
use Rattle.state_theory.specs.Bits.{chunk_of}
use Rattle.state_theory.specs.Canonical.{Setting, State, chunk, forest}
use Rattle.state_theory.specs.GraftedNodes.{chunks_node}
use Rattle.state_theory.specs.Grafting.{grafted}
use Rattle.state_theory.specs.Laws.Heights.{same_power, some_height}
use Rattle.state_current.specs.ChunkLeaves.{IsReady, chunk_leaf, leaves_from, leaves_over}
use Rattle.state_current.specs.Growth.{AreBrought, Change, IsGraftedLeaf, cleared, grown, is_updated}
use Rattle.state_current.specs.Settled.{IsSettled}
use Rattle.state_theory.specs.Bits.{all_bits}
use Rattle.state_current.specs.Kept.{Kept, AreTogether, StandsFor}
use Rattle.state_current.proofs.CurrentLemmas.{IsGraftable, state_chunk_at, may_get}
use Rattle.state_current.proofs.LeafLemmas.{leaves_grow}
use Rattle.state_current.proofs.ReadLemmas.{after_boundary}
use Rattle.state_current.proofs.TreeLemmas.{length-leaves_from, get-leaves_from}

-- ---- bits that are cleared
pub length-cleared : (bits : List Bool) (places : List ℕ) → length (cleared bits places) ≡ length bits
length-cleared bits [] = refl
length-cleared bits (p ∷ places) = length-cleared (slice_set bits p false) places ∙ length-set bits p false

-- ---- so many chunks have their node, and more as there are more operations
-- they are no more than the operations
pub nodes_few : (rule : Rule) → IsPairing rule → (n level : ℕ)
    → ((chunk : ℕ) → chunk < nodes_of_height level (forest_of rule n) → HasNode (forest_of rule n) (chunk * 2 ^ level) level)
    → nodes_of_height level (forest_of rule n) ≤ n
nodes_few rule pairs n level there =
    elim (cases_lt n (nodes_of_height level (forest_of rule n))) [
      | inl past ↦ absurd (
          let node = there n past in
          let fits = (node-leaves rule pairs n (n * 2 ^ level) node.0 node.1).1 in
          omega (arith, fits, mul-le n 1 n (2 ^ level) (omega arith) (pow_pos level), pow_pos (height node.0)))
      | inr le ↦ le
    ]

module _ (rule : Rule) (facts : IsGraftable rule) (width level : ℕ) (whole : 8 * width ≡ 2 ^ level) (low : level ≤ 62) where
  abbrev some : 0 < level
  some = some_height width level whole

  pub more_chunks : (n m : ℕ) → n ≤ m → m ≤ 2 ^ 62 → nodes_of_height level (forest_of rule n) ≤ nodes_of_height level (forest_of rule m)
  more_chunks n m le few =
      let k : ℕ = nodes_of_height level (forest_of rule n) in
      let l : ℕ = nodes_of_height level (forest_of rule m) in
      elim (cases_lt l k) [
        | inl past ↦ absurd (
            let it = (facts.counted n l level (omega (arith, le, few)) some low).1 past in
            let lt = (facts.counted m l level few some low).0 (it.0, node-stays rule facts.pairs n m (l * 2 ^ level) it.0 le it.1, it.2) in
            omega (arith, lt))
        | inr fits ↦ fits
      ]

  pub ready : (tree : Nodes) (bits : Bits) (n chunk : ℕ) → tree.leaves ≡ n → n ≤ 2 ^ 62 → bit_count width bits ≡ n
      → tree.boundary ≡ bits.pruned * 2 ^ level → bits.pruned ≤ chunk → chunk < nodes_of_height level (forest_of rule n)
      → IsReady rule width level tree bits chunk
  ready tree bits n chunk all few counted boundary from lt =
      let it = (facts.counted n chunk level few some low).1 lt in
      let fits = (node-leaves rule facts.pairs n (chunk * 2 ^ level) it.0 it.1).1 in
      let begins : 8 * width * chunk ≡ chunk * 2 ^ level = mul_comm (8 * width) chunk ∙ ap (λ k. chunk * k) whole in
      record {
        kept = from;
        bit = may_get width chunk bits from (omega (arith, fits, begins, counted, ap (λ h. 2 ^ h) it.2, pow_pos level));
        node = subst (λ k. HasNode (forest_of rule k) (chunk * 2 ^ level) level) (sym all) it;
        there = omega (arith, boundary, mul-le bits.pruned (2 ^ level) chunk (2 ^ level) from (omega arith));
      }

  -- a place that is not pruned is over a chunk that is not pruned
  pub place_from : (pruned at : ℕ) → 8 * width * pruned ≤ at → pruned ≤ at / (8 * width)
  place_from pruned at le = le-div pruned at (8 * width) (omega (arith, whole, pow_pos level)) (omega (arith, le, mul_comm pruned (8 * width)))

  pub places_ready : (tree : Nodes) (bits : Bits) (n m count : ℕ) (places : List ℕ) → tree.leaves ≡ n → n ≤ 2 ^ 62 → bit_count width bits ≡ n
      → tree.boundary ≡ bits.pruned * 2 ^ level → count ≤ nodes_of_height level (forest_of rule n)
      → AllByRecursion (λ at. (8 * width * bits.pruned ≤ at) × (at < m)) places
      → AllByRecursion (λ at. at / (8 * width) < count → IsReady rule width level tree bits (at / (8 * width))) places
  places_ready tree bits n m count [] all few counted boundary le there = tt
  places_ready tree bits n m count (at ∷ places) all few counted boundary le there = (
    λ lt. ready tree bits n (at / (8 * width)) all few counted boundary (place_from bits.pruned at there.0.0) (omega (arith, lt, le)),
    places_ready tree bits n m count places all few counted boundary le there.1,
  )

  -- ---- what is kept fits each other again
  pub at_level : (kept : Kept) → AreTogether rule width kept → AreTogether rule width kept
  at_level kept together =
      let same : together.level ≡ level = same_power together.level level (sym together.whole ∙ whole) in
      record {
        level = level;
        whole = whole;
        low = low;
        bits = together.bits;
        leaves = together.leaves ∙ ap (λ l. nodes_of_height l (forest_of rule kept.operations.leaves)) same;
        pruned = together.pruned;
        pruned_operations = together.pruned_operations ∙ ap (λ l. kept.bits.pruned * 2 ^ l) same;
        settled = subst (λ l. IsSettled rule l kept.operations.leaves kept.bits.pruned) same together.settled;
      }

  pub together_after : (before after : Kept) (n m : ℕ) → AreTogether rule width before → before.operations.leaves ≡ n → n ≤ m
      → after.operations.leaves ≡ m → bit_count width after.bits ≡ m → after.bits.pruned ≡ before.bits.pruned
      → after.operations.boundary ≡ before.operations.boundary → after.chunks.boundary ≡ before.chunks.boundary
      → after.chunks.leaves ≡ nodes_of_height level (forest_of rule after.operations.leaves) → AreTogether rule width after
  unfolding at_level
  together_after before after n m given were le all counted pruned operations_boundary chunks_boundary leaves_are =
      let together = at_level before given in
      record {
        level = level;
        whole = whole;
        low = low;
        bits = counted ∙ sym all;
        leaves = leaves_are;
        pruned = chunks_boundary ∙ together.pruned ∙ sym pruned;
        pruned_operations = operations_boundary ∙ together.pruned_operations ∙ ap (λ k. k * 2 ^ level) (sym pruned);
        settled = λ first peak stands.
            let it = together.settled first peak (subst (λ k. IsPeakAt first peak (forest_of rule k)) pruned stands) in (
              it.0,
              node-stays rule facts.pairs before.operations.leaves after.operations.leaves (first * 2 ^ level) it.0
                  (omega (arith, were, le, all)) it.1,
              it.2,
            );
      }

-- ---- the updates
or_right : (b : Bool) → (b || true) ≡ true
or_right true = refl
or_right false = refl

passed : (leaf : ℕ → List ℕ) (size count at p : ℕ) (places : List ℕ) → is_updated at (leaves_over leaf size count places) ≡ true
    → is_updated at (leaves_over leaf size count (p ∷ places)) ≡ true
passed leaf size count at p places is = by (nat_lt (p / size) count)
  where
    by : (b : Bool)
        → is_updated at (cond b ((p / size, leaf (p / size)) ∷ leaves_over leaf size count places) (leaves_over leaf size count places)) ≡ true
    by true = ap (λ b. eqb (p / size) at || b) is ∙ or_right (eqb (p / size) at)
    by false = is

own : (leaf : ℕ → List ℕ) (size count p : ℕ) (places : List ℕ) → p / size < count
    → is_updated (p / size) (leaves_over leaf size count (p ∷ places)) ≡ true
own leaf size count p places lt =
    ap (is_updated (p / size)) (cond-true _ _ _ (lt-ltb (p / size) count lt))
    ∙ ap (λ b. b || is_updated (p / size) (leaves_over leaf size count places)) (eq-eqb (p / size) (p / size) refl)

-- each place over a leaf has its update
pub all_covered : (leaf : ℕ → List ℕ) (size count : ℕ) (places : List ℕ)
    → AllByRecursion (λ at. at / size < count → is_updated (at / size) (leaves_over leaf size count places) ≡ true) places
all_covered leaf size count places = go places (λ at is. is)
  where
    go : (rest : List ℕ)
        → ((at : ℕ) → is_updated at (leaves_over leaf size count rest) ≡ true → is_updated at (leaves_over leaf size count places) ≡ true)
        → AllByRecursion (λ at. at / size < count → is_updated (at / size) (leaves_over leaf size count places) ≡ true) rest
    go [] later = tt
    go (p ∷ rest) later =
        (λ lt. later (p / size) (own leaf size count p rest lt), go rest (λ at is. later at (passed leaf size count at p rest is)))

pub all_right : (P : ℕ → List ℕ → Type 0) (leaf : ℕ → List ℕ) (size count : ℕ) (places : List ℕ)
    → AllByRecursion (λ at. at / size < count → P (at / size) (leaf (at / size))) places
    → AllByRecursion (λ (one : Replacement). P one.0 one.1) (leaves_over leaf size count places)
all_right P leaf size count [] all = tt
all_right P leaf size count (p ∷ places) all = by (cases_lt (p / size) count) (all_right P leaf size count places all.1)
  where
    by : (p / size < count) ⊎ (count ≤ p / size) → AllByRecursion (λ (one : Replacement). P one.0 one.1) (leaves_over leaf size count places)
        → AllByRecursion (λ (one : Replacement). P one.0 one.1) (leaves_over leaf size count (p ∷ places))
    by (inl lt) rest =
        subst (AllByRecursion (λ (one : Replacement). P one.0 one.1)) (sym (cond-true _ _ _ (lt-ltb (p / size) count lt))) (all.0 lt, rest)
    by (inr le) rest = subst (AllByRecursion (λ (one : Replacement). P one.0 one.1)) (sym (cond-false _ _ _ (le-ltb (p / size) count le))) rest

pub all_mapped : (P Q : ℕ → Type 0) → ((n : ℕ) → P n → Q n) → (places : List ℕ) → AllByRecursion P places → AllByRecursion Q places
all_mapped P Q each [] all = tt
all_mapped P Q each (n ∷ places) all = (each n all.0, all_mapped P Q each places all.1)

-- ---- the leaf that is made of a chunk is that of the state
module _ (setting : Setting) (facts : IsGraftable setting.rule) (state : State) (tree : Nodes) (bits : Bits)
    (whole : 8 * setting.width ≡ 2 ^ setting.grafting_height)
    (of_operations : AreNodesOf (plain_node setting.hash) setting.rule (plain_leaf_digests setting.hash setting.rule 0 state.operations) tree)
    (bits_are : state.bits ≡ all_bits setting.width bits) where
  abbrev leaf : ℕ → List ℕ
  leaf = chunk_leaf setting.rule facts.root setting.hash setting.width setting.grafting_height tree bits

  pub leaf_right : (index : ℕ) → IsReady setting.rule setting.width setting.grafting_height tree bits index
      → IsGraftedLeaf setting state index (leaf index)
  leaf_right index is_ready node stands high =
      let rule : Rule = setting.rule in
      let level : ℕ = setting.grafting_height in
      let first : ℕ = index * 2 ^ level in
      let digests : List (List ℕ) = plain_leaf_digests setting.hash rule 0 state.operations in
      let many : length digests ≡ length state.operations = length-plain setting.hash rule 0 state.operations in
      let at : facts.root first level ≡ position node =
      ap (facts.root first) (sym high) ∙ sym (facts.roots (length state.operations) first node stands) in
      let listed : IsNodeAt first node (forest_of rule (length digests)) = subst (λ k. IsNodeAt first node (forest_of rule k)) (sym many) stands in
      let read : node_at rule tree (position node) ≡ Some (tree_digest (plain_node setting.hash) digests first node) =
      of_operations.digests first node listed
      (inl (after_boundary rule facts.pairs tree.boundary (length state.operations) first node is_ready.there stands)) in
      let fits = (node-leaves rule facts.pairs (length state.operations) first node stands).1 in
      let begins : 8 * setting.width * index ≡ first = mul_comm (8 * setting.width) index ∙ ap (λ k. index * k) whole in
      let lt : 8 * setting.width * index < length state.operations = omega (arith, fits, begins, ap (λ h. 2 ^ h) high, pow_pos level) in
      let same_chunk : kept_chunk setting.width bits.kept (index - bits.pruned) ≡ chunk setting state index =
      kept_is setting.width index bits is_ready.kept ∙ ap (λ bs. chunk_of setting.width (drop (8 * setting.width * index) bs)) (sym bits_are)
      ∙ sym (state_chunk_at setting state index (omega (arith, whole, pow_pos level)) lt) in
      ap₂ (λ c o. grafted setting.hash c (unwrap_or o []))
      same_chunk (ap (node_at rule tree) at ∙ read)
      ∙ ap (grafted setting.hash (chunk setting state index))
      (digest-plain setting.hash rule facts.pairs state.operations first node stands)

  -- so the tree of the chunks is brought to the state
  pub brought : (before : State) (places : List ℕ) → (let k = nodes_of_height setting.grafting_height (forest setting before) in
      let l = nodes_of_height setting.grafting_height (forest setting state) in
      k ≤ l → ((index : ℕ) → k ≤ index → index < l → IsReady setting.rule setting.width setting.grafting_height tree bits index)
      → AllByRecursion (λ at. at / (8 * setting.width) < k
      → IsReady setting.rule setting.width setting.grafting_height tree bits (at / (8 * setting.width))) places
      → AreBrought setting before state places (leaves_from leaf k (l - k)) (leaves_over leaf (8 * setting.width) k places))
  brought before places more fresh old =
      let k : ℕ = nodes_of_height setting.grafting_height (forest setting before) in
      let l : ℕ = nodes_of_height setting.grafting_height (forest setting state) in
      record {
        counted = omega (arith, length-leaves_from leaf k (l - k), more);
        added = λ index digest is.
            let it = get-leaves_from leaf k (l - k) index digest is in
            subst (λ d. IsGraftedLeaf setting state (k + index) d) (sym it.0)
            (leaf_right (k + index) (fresh (k + index) (omega arith) (omega (arith, it.1, more))));
        updates = all_right (IsGraftedLeaf setting state) leaf (8 * setting.width) k places
            (all_mapped
            (λ at. at / (8 * setting.width) < k → IsReady setting.rule setting.width setting.grafting_height tree bits (at / (8 * setting.width)))
            (λ at. at / (8 * setting.width) < k → IsGraftedLeaf setting state (at / (8 * setting.width)) (leaf (at / (8 * setting.width))))
            (λ at is_ready lt. leaf_right (at / (8 * setting.width)) (is_ready lt)) places old);
        covered = all_covered leaf (8 * setting.width) k places;
      }

-- ---- what is kept after a batch
pub after_count : (width : ℕ) (before after : Bits) (more : List Bool) (places : List ℕ)
    → all_bits width after ≡ cleared (all_bits width before ++ more) places → bit_count width after ≡ bit_count width before + length more
after_count width before after more places is =
    omega (
      arith,
      length-all width after,
      ap length is,
      length-cleared (all_bits width before ++ more) places,
      length-append (all_bits width before) more,
      length-all width before,
    )

-- what grew: the tree of the operations and the bits
pub record AreGrown (width : ℕ) (before : Kept) (tree : Nodes) (bits : Bits) : Type 0 where
  pub longer : before.operations.leaves ≤ tree.leaves
  pub few : tree.leaves ≤ 2 ^ 62
  pub counted : bit_count width bits ≡ tree.leaves
  pub pruned : bits.pruned ≡ before.bits.pruned
  pub boundary : tree.boundary ≡ before.operations.boundary

module _ (rule : Rule) (facts : IsGraftable rule) (width level : ℕ) (whole : 8 * width ≡ 2 ^ level) (low : level ≤ 62) (before : Kept)
    (given : AreTogether rule width before) (tree : Nodes) (bits : Bits) (it : AreGrown width before tree bits) where
  same_level : given.level ≡ level
  same_level = same_power given.level level (sym given.whole ∙ whole)

  leaves_were : before.chunks.leaves ≡ nodes_of_height level (forest_of rule before.operations.leaves)
  leaves_were = given.leaves ∙ ap (λ l. nodes_of_height l (forest_of rule before.operations.leaves)) same_level

  boundary_is : tree.boundary ≡ bits.pruned * 2 ^ level
  boundary_is =
      it.boundary ∙ given.pruned_operations ∙ ap (λ l. before.bits.pruned * 2 ^ l) same_level ∙ ap (λ k. k * 2 ^ level) (sym it.pruned)

  pub grow_more : before.chunks.leaves ≤ nodes_of_height level (forest_of rule tree.leaves)
  grow_more = omega (arith, leaves_were, more_chunks rule facts width level whole low before.operations.leaves tree.leaves it.longer it.few)

  pub grow_new : before.chunks.boundary ≤ before.chunks.leaves → (index : ℕ) → before.chunks.leaves ≤ index
      → index < nodes_of_height level (forest_of rule tree.leaves) → IsReady rule width level tree bits index
  grow_new within index ge lt =
      ready rule facts width level whole low tree bits tree.leaves index refl it.few it.counted boundary_is
      (omega (arith, within, ge, given.pruned, it.pruned)) lt

  pub grow_old : (m : ℕ) (places : List ℕ) → AllByRecursion (λ at. (8 * width * before.bits.pruned ≤ at) × (at < m)) places
      → AllByRecursion (λ at. at / (8 * width) < before.chunks.leaves → IsReady rule width level tree bits (at / (8 * width))) places
  grow_old m places there =
      places_ready rule facts width level whole low tree bits tree.leaves m before.chunks.leaves places refl it.few it.counted boundary_is grow_more
      (subst (λ p. AllByRecursion (λ at. (8 * width * p ≤ at) × (at < m)) places) (sym it.pruned) there)

-- what is kept is told by its parts
abbrev pub kept_of : Nodes → Nodes → Bits → ℕ → Kept
kept_of operations chunks bits floor = record { operations = operations; chunks = chunks; bits = bits; floor = floor }

pub same_kept : (operations operations_are chunks chunks_are : Nodes) (bits bits_are : Bits) (floor : ℕ) → operations ≡ operations_are
    → chunks ≡ chunks_are → bits ≡ bits_are → kept_of operations chunks bits floor ≡ kept_of operations_are chunks_are bits_are floor
same_kept operations operations_are chunks chunks_are bits bits_are floor same_operations same_chunks same_bits =
    ap (λ o. kept_of o chunks bits floor) same_operations ∙ ap (λ c. kept_of operations_are c bits floor) same_chunks
    ∙ ap (λ b. kept_of operations_are chunks_are b floor) same_bits

-- the leaves that the code makes
abbrev pub leaf_of : Setting → (ℕ → ℕ → ℕ) → Nodes → Bits → ℕ → List ℕ
leaf_of setting root tree bits = chunk_leaf setting.rule root setting.hash setting.width setting.grafting_height tree bits

pub stands_after : (setting : Setting) (facts : IsGraftable setting.rule) (low : setting.grafting_height ≤ 62) (state : State) (change : Change)
    (before after : Kept) (m : ℕ)
    → StandsFor setting state before → AreTogether setting.rule setting.width before → before.chunks.boundary ≤ before.chunks.leaves
    → AreGrown setting.width before after.operations after.bits
    → AllByRecursion (λ at. (8 * setting.width * before.bits.pruned ≤ at) × (at < m)) change.cleared
    → AreNodesOf (plain_node setting.hash) setting.rule (plain_leaf_digests setting.hash setting.rule 0
    (state.operations ++ change.operations)) after.operations
    → ((leaf_digests : List (List ℕ)) → AreNodesOf (chunks_node setting.hash setting.rule setting.grafting_height) setting.rule leaf_digests before.chunks
    → AreNodesOf (chunks_node setting.hash setting.rule setting.grafting_height) setting.rule
    (replaced (leaf_digests ++ leaves_from (leaf_of setting facts.root after.operations after.bits) before.chunks.leaves
    (nodes_of_height setting.grafting_height (forest_of setting.rule after.operations.leaves) - before.chunks.leaves))
    (leaves_over (leaf_of setting facts.root after.operations after.bits) (8 * setting.width) before.chunks.leaves change.cleared))
    after.chunks)
    → all_bits setting.width after.bits ≡ cleared (all_bits setting.width before.bits ++ change.bits) change.cleared
    → after.floor ≡ change.floor → StandsFor setting (grown state change) after
stands_after setting facts low state change before after m stands together within it there of_operations of_chunks bits_are floor_is =
    let rule : Rule = setting.rule in
    let level : ℕ = setting.grafting_height in
    let width : ℕ = setting.width in
    let later : State = grown state change in
    let leaf_at : ℕ → List ℕ = leaf_of setting facts.root after.operations after.bits in
    let node : NodeHash = chunks_node setting.hash rule level in
    let k : ℕ = nodes_of_height level (forest setting state) in
    let l : ℕ = nodes_of_height level (forest setting later) in
    let count_is : after.operations.leaves ≡ length later.operations =
    of_operations.counted ∙ length-plain setting.hash rule 0 (state.operations ++ change.operations) in
    let few : length later.operations ≤ 2 ^ 62 = omega (arith, count_is, it.few) in
    let k_is : before.chunks.leaves ≡ k = stands.chunks.counted ∙ stands.joined.counted in
    let l_is : nodes_of_height level (forest_of rule after.operations.leaves) ≡ l = ap (λ n. nodes_of_height level (forest_of rule n)) count_is in
    let some : 1 ≤ width = omega (arith, stands.whole, pow_pos level) in
    let later_bits : later.bits ≡ all_bits width after.bits =
    ap (λ bs. cleared (bs ++ change.bits) change.cleared) stands.bits ∙ sym bits_are in
    let paired : length state.bits ≡ length state.operations =
    ap length stands.bits ∙ length-all width before.bits ∙ together.bits ∙ stands.operations.counted
    ∙ length-plain setting.hash rule 0 state.operations in
    let more : k ≤ l = omega (arith, k_is, l_is, grow_more rule facts width level stands.whole low before together after.operations after.bits it) in
    let are : AreBrought setting state later change.cleared (leaves_from leaf_at k (l - k)) (leaves_over leaf_at (8 * width) k change.cleared) =
    brought setting facts later after.operations after.bits stands.whole of_operations later_bits state change.cleared more
    (λ index ge lt. grow_new rule facts width level stands.whole low before together after.operations after.bits it within index
    (omega (arith, ge, k_is)) (omega (arith, lt, l_is)))
    (subst (λ c. AllByRecursion (λ at. at / (8 * width) < c → IsReady rule width level after.operations after.bits (at / (8 * width))) change.cleared) k_is
    (grow_old rule facts width level stands.whole low before together after.operations after.bits it m change.cleared there)) in
    let ds : List (List ℕ) = stands.leaf_digests in
    record {
      whole = stands.whole;
      operations = of_operations;
      leaf_digests = replaced (ds ++ leaves_from leaf_at k (l - k)) (leaves_over leaf_at (8 * width) k change.cleared);
      joined = leaves_grow setting facts.root facts.pairs facts.roots stands.whole
          (λ n index small. facts.counted n index level small (some_height width level stands.whole) low)
          state change few some paired ds (leaves_from leaf_at k (l - k)) (leaves_over leaf_at (8 * width) k change.cleared) are stands.joined;
      chunks = subst (λ c. AreNodesOf node rule (replaced (ds ++ leaves_from leaf_at c (l - c))
          (leaves_over leaf_at (8 * width) c change.cleared)) after.chunks) k_is
          (subst (λ e. AreNodesOf node rule (replaced (ds ++ leaves_from leaf_at before.chunks.leaves (e - before.chunks.leaves))
          (leaves_over leaf_at (8 * width) before.chunks.leaves change.cleared)) after.chunks) l_is (of_chunks ds stands.chunks));
      bits = later_bits;
      floor = floor_is;
    }
