-- What is kept stands for the same state once chunks are pruned.
use Rattle.std.proofs.Common.{◌≡◌, ℕ, zero, suc, ◌+◌, ◌-◌, ◌*◌, ◌/◌, ◌^◌, ◌<◌, ◌≤◌, Result, Ok, Err, Bool, false, inl}
use Rattle.std.proofs.Common.{inr, List, [], ◌∷◌, ◌++◌, append_assoc, length, take, drop, get_or, refl, sym, ◌∙◌, ap}
use Rattle.std.proofs.Common.{ap₂, subst, arith, length-drop}
use Rattle.std.specs.Prelude.{OnOk, replicate}
use Rattle.std.proofs.lemmas.Bool.{cases_lt}
use Rattle.std.proofs.lemmas.List.{get_or-append-add, length-replicate, take-append-drop, replicate-append-replicate}
use Rattle.std.proofs.lemmas.Nat.{div-add-mod', mul-le}
use Rattle.std.proofs.Math.Nat.{mul-add, mul_comm}
use Rattle.merkle_forest.specs.Forest.{Rule, forest_of}
use Rattle.merkle_forest.specs.Nodes.{HasNode, nodes_of_height}
use Rattle.merkle_forest.specs.Perfect.{IsPairing}
use Rattle.merkle_core_parts.specs.Laws.Pruned.{pruned-already, pruned-further}
use Rattle.merkle_core_parts.specs.Mem.{AreNodesOf, Nodes, plain_leaf_digests, plain_node, pruned_before}
use Rattle.state_theory.specs.Bits.{Bits, bit_count, pruned_to}
use Rattle.state_theory.specs.Canonical.{Setting, State}
use Rattle.state_theory.specs.GraftedNodes.{chunks_node}
use Rattle.state_current.specs.Settled.{IsGreatestSettled, IsSettled}
use Rattle.state_theory.specs.Bits.{all_bits}
use Rattle.state_current.proofs.SettledNodes.{settled_grafted, settled_within}
use Rattle.state_current.specs.Kept.{AreClearBefore, AreTogether, Kept, StandsFor}

pub pruned_boundary : (rule : Rule) (nodes : Nodes) (location : ℕ) → nodes.boundary ≤ location
    → (pruned_before rule nodes location).boundary ≡ location
pruned_boundary rule nodes location le =
    elim (cases_lt nodes.boundary location) [
      | inl further ↦ ap (λ (n : Nodes). n.boundary) (pruned-further rule nodes location further)
      | inr already ↦ (let same : nodes.boundary ≡ location = omega (arith, le, already) in
          ap (λ (n : Nodes). n.boundary) (pruned-already rule nodes location already) ∙ same)
    ]

pub pruned_leaves : (rule : Rule) (nodes : Nodes) (location : ℕ) → (pruned_before rule nodes location).leaves ≡ nodes.leaves
pruned_leaves rule nodes location =
    elim (cases_lt nodes.boundary location) [
      | inl further ↦ ap (λ (n : Nodes). n.leaves) (pruned-further rule nodes location further)
      | inr already ↦ ap (λ (n : Nodes). n.leaves) (pruned-already rule nodes location already)
    ]

-- what was pruned
pub record ArePruned (rule : Rule) (width chunk : ℕ) (before after : Kept) : Type 0 where
  pub further : before.bits.pruned ≤ chunk
  pub there : 8 * width * chunk ≤ before.operations.leaves
  pub operations : after.operations ≡ pruned_before rule before.operations (8 * width * chunk)
  pub chunks : after.chunks ≡ pruned_before rule before.chunks chunk
  pub bits : after.bits ≡ pruned_to width before.bits chunk

module _ (rule : Rule) (width chunk : ℕ) (before after : Kept) (given : AreTogether rule width before) (it : ArePruned rule width chunk before after) where
  abbrev gone : ℕ
  gone = 8 * width * (chunk - before.bits.pruned)

  all_gone : 8 * width * before.bits.pruned + gone ≡ 8 * width * chunk
  all_gone =
      let sum : before.bits.pruned + (chunk - before.bits.pruned) ≡ chunk = omega (arith, it.further) in
      sym (mul-add (8 * width) before.bits.pruned (chunk - before.bits.pruned)) ∙ ap (λ k. 8 * width * k) sum

  pub gone_within : gone ≤ length before.bits.kept
  gone_within = omega (arith, all_gone, it.there, given.bits)

  begins : 8 * width * chunk ≡ chunk * 2 ^ given.level
  begins = mul_comm (8 * width) chunk ∙ ap (λ k. chunk * k) given.whole

  was : before.operations.boundary ≤ 8 * width * chunk
  was =
      let at : 8 * width * before.bits.pruned ≡ before.bits.pruned * 2 ^ given.level =
      mul_comm (8 * width) before.bits.pruned ∙ ap (λ k. before.bits.pruned * k) given.whole in
      omega (arith, given.pruned_operations, at, all_gone)

  pub together_pruned : ((level : ℕ) → 8 * width ≡ 2 ^ level → IsSettled rule level before.operations.leaves chunk) → AreTogether rule width after
  together_pruned settled =
      let pruned : after.bits.pruned ≡ chunk = ap (λ (b : Bits). b.pruned) it.bits in
      let leaves : after.operations.leaves ≡ before.operations.leaves =
      ap (λ (n : Nodes). n.leaves) it.operations ∙ pruned_leaves rule before.operations (8 * width * chunk) in
      record {
        level = given.level;
        whole = given.whole;
        low = given.low;
        bits = omega (
          arith,
          ap (λ (b : Bits). bit_count width b) it.bits,
          length-drop gone before.bits.kept,
          all_gone,
          gone_within,
          given.bits,
          leaves,
        );
        leaves = ap (λ (n : Nodes). n.leaves) it.chunks ∙ pruned_leaves rule before.chunks chunk ∙ given.leaves
            ∙ ap (λ n. nodes_of_height given.level (forest_of rule n)) (sym leaves);
        pruned = ap (λ (n : Nodes). n.boundary) it.chunks
            ∙ pruned_boundary rule before.chunks chunk (omega (arith, given.pruned, it.further)) ∙ sym pruned;
        pruned_operations = ap (λ (n : Nodes). n.boundary) it.operations ∙ pruned_boundary rule before.operations (8 * width * chunk) was
            ∙ begins ∙ ap (λ k. k * 2 ^ given.level) (sym pruned);
        settled = subst (λ n. IsSettled rule given.level n after.bits.pruned) (sym leaves)
            (subst (λ k. IsSettled rule given.level before.operations.leaves k) (sym pruned) (settled given.level given.whole));
      }

  pub bits_stay : take gone before.bits.kept ≡ replicate gone false → all_bits width before.bits ≡ all_bits width after.bits
  bits_stay clear =
      let front : List Bool = replicate (8 * width * before.bits.pruned) false in
      ap (λ ks. front ++ ks) (sym (take-append-drop gone before.bits.kept) ∙ ap (λ ts. ts ++ drop gone before.bits.kept) clear)
      ∙ sym (append_assoc front (replicate gone false) (drop gone before.bits.kept))
      ∙ ap (λ ts. ts ++ drop gone before.bits.kept)
      (replicate-append-replicate (8 * width * before.bits.pruned) gone false ∙ ap (λ n. replicate n false) all_gone)
      ∙ ap (all_bits width) (sym it.bits)

pub stands_pruned : (setting : Setting) (state : State) (chunk : ℕ) (before after : Kept) → AreTogether setting.rule setting.width before
    → ArePruned setting.rule setting.width chunk before after → after.floor ≡ before.floor
    → take (8 * setting.width * (chunk - before.bits.pruned)) before.bits.kept ≡ replicate (8 * setting.width * (chunk - before.bits.pruned)) false
    → ((leaf_digests : List (List ℕ)) → AreNodesOf (plain_node setting.hash) setting.rule leaf_digests before.operations
    → AreNodesOf (plain_node setting.hash) setting.rule leaf_digests after.operations)
    → ((leaf_digests : List (List ℕ)) → AreNodesOf (chunks_node setting.hash setting.rule setting.grafting_height) setting.rule leaf_digests before.chunks
    → AreNodesOf (chunks_node setting.hash setting.rule setting.grafting_height) setting.rule leaf_digests after.chunks)
    → StandsFor setting state before → StandsFor setting state after
stands_pruned setting state chunk before after given it floor_is clear operations chunks stands = record {
  whole = stands.whole;
  operations = operations (plain_leaf_digests setting.hash setting.rule 0 state.operations) stands.operations;
  leaf_digests = stands.leaf_digests;
  joined = stands.joined;
  chunks = chunks stands.leaf_digests stands.chunks;
  bits = stands.bits ∙ bits_stay setting.rule setting.width chunk before after given it clear;
  floor = floor_is ∙ stands.floor;
}

pub gone_in : {rule : Rule} (width chunk : ℕ) (before : Kept) → AreTogether rule width before → before.bits.pruned ≤ chunk
    → 8 * width * chunk ≤ before.operations.leaves → 8 * width * (chunk - before.bits.pruned) ≤ length before.bits.kept
gone_in width chunk before given further there =
    let sum : before.bits.pruned + (chunk - before.bits.pruned) ≡ chunk = omega (arith, further) in
    omega (
      arith,
      mul-add (8 * width) before.bits.pruned (chunk - before.bits.pruned),
      ap (λ k. 8 * width * k) sum,
      there,
      given.bits,
    )

-- ---- chunks that are settled
-- they end within the operations
pub settled_ends : (rule : Rule) → IsPairing rule → (width level chunk n : ℕ) → 8 * width ≡ 2 ^ level → IsSettled rule level n chunk
    → 8 * width * chunk ≤ n
settled_ends rule pairs width level chunk n whole settled =
    omega (arith, settled_within rule pairs n level chunk settled, mul_comm (8 * width) chunk ∙ ap (λ k. chunk * k) whole)

-- and are among the leaves of the tree of the chunks
pub settled_leaves : (rule : Rule) → IsPairing rule → (width chunk : ℕ) (kept : Kept) (given : AreTogether rule width kept)
    → ((i : ℕ) → HasNode (forest_of rule kept.operations.leaves) (i * 2 ^ given.level) given.level
    → i < nodes_of_height given.level (forest_of rule kept.operations.leaves))
    → IsSettled rule given.level kept.operations.leaves chunk → chunk ≤ kept.chunks.leaves
settled_leaves rule pairs width chunk kept given counted settled =
    omega (arith, settled_grafted rule pairs kept.operations.leaves given.level chunk settled counted, given.leaves)

-- ---- bits that are clear
take_clear : (xs : List Bool) (n : ℕ) → n ≤ length xs → ((j : ℕ) → j < n → get_or xs j false ≡ false) → take n xs ≡ replicate n false
take_clear xs zero le each = refl
take_clear [] (suc n) le each = absurd (omega (arith, le))
take_clear (x ∷ xs) (suc n) le each =
    let first : x ≡ false = each 0 (omega arith) in
    ap₂ (λ b bs. b ∷ bs) first (take_clear xs n (omega (arith, le)) (λ j lt. each (suc j) (omega (arith, lt))))

pub clear_kept : (width chunk : ℕ) (bits : Bits) → bits.pruned ≤ chunk → 8 * width * (chunk - bits.pruned) ≤ length bits.kept
    → AreClearBefore width bits (8 * width * chunk)
    → take (8 * width * (chunk - bits.pruned)) bits.kept ≡ replicate (8 * width * (chunk - bits.pruned)) false
clear_kept width chunk bits further within clear =
    let size : ℕ = 8 * width in
    let front : List Bool = replicate (size * bits.pruned) false in
    let sum : bits.pruned + (chunk - bits.pruned) ≡ chunk = omega (arith, further) in
    let whole : size * bits.pruned + size * (chunk - bits.pruned) ≡ size * chunk =
    sym (mul-add size bits.pruned (chunk - bits.pruned)) ∙ ap (λ k. size * k) sum in
    take_clear bits.kept (size * (chunk - bits.pruned)) within
    (λ j lt. (let at : length front + j ≡ size * bits.pruned + j = omega (arith, length-replicate (size * bits.pruned) false) in
    sym (get_or-append-add front bits.kept j false) ∙ ap (λ k. get_or (front ++ bits.kept) k false) at
    ∙ clear (size * bits.pruned + j) (omega (arith, whole, lt))))

-- ---- how far is pruned
pub chunk_within : (size location chunk : ℕ) → chunk ≤ location / size → size * chunk ≤ location
chunk_within size location chunk le =
    omega (arith, mul-le size chunk size (location / size) (omega arith) le, mul_comm (location / size) size, div-add-mod' location size)

pub greatest_of : (rule : Rule) (l m n o b c i j a d : ℕ) → l ≡ m → n ≡ o → b ≡ c → i ≡ j → a ≡ d
    → IsGreatestSettled rule l n b i a → IsGreatestSettled rule m o c j d
greatest_of rule l m n o b c i j a d level leaves before limit after it = rw (sym level, sym leaves, sym before, sym limit, sym after) it

pub on_ok : {A E : Type 0} (P Q : Type 0) → (P → Q) → (r : Result A E) → OnOk r P → OnOk r Q
on_ok P Q each (Ok a) is = each is
on_ok P Q each (Err e) is = tt

-- chunks that are settled are so for who reads the counts
pub settled_as_read : (rule : Rule) (level read_level leaves operations pruned chunks : ℕ) → level ≡ read_level → operations ≡ leaves
    → chunks ≡ pruned → IsSettled rule level leaves pruned → IsSettled rule read_level operations chunks
settled_as_read rule level read_level leaves operations pruned chunks same_level same_leaves same_chunks settled =
    subst (λ n. IsSettled rule read_level n chunks) (sym same_leaves)
    (subst (λ p. IsSettled rule read_level leaves p) (sym same_chunks)
    (subst (λ l. IsSettled rule l leaves pruned) same_level settled))
