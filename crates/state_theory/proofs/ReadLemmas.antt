-- The cases of the root that a proof of a bit leads to.
use Rattle.std.proofs.Common.{◌≡◌, ℕ, zero, suc, ◌+◌, ◌-◌, ◌*◌, ◌/◌, ◌%◌, ◌<◌}
use Rattle.std.proofs.Common.{◌≤◌, eqb, leb, ltb, false, List, [], ◌∷◌, ◌++◌, length, map, take, get_or}
use Rattle.std.proofs.Common.{Option, None, Some, option_map, refl, sym, ◌∙◌, ap, ap₂, arith}
use Rattle.std.specs.Prelude.{◌||◌}
use Rattle.std.proofs.lemmas.Bool.{cond-true, cond-false, eq-eqb, ne_eqb, lt-leb, le-leb, lt-ltb}
use Rattle.std.proofs.lemmas.List.{length-map}
use Rattle.merkle_forest.specs.declared.bagging.Bagging.{Bagging}
use Rattle.merkle_forest.specs.Forest.{Rule, mmr_rule}
use Rattle.merkle_forest.specs.Hashing.{Hash, number}
use Rattle.merkle_forest.specs.Made.{at_bitmap_root, Made, bytes, value}
use Rattle.merkle_core_parts.specs.Laws.Held.{right-there}
use Rattle.merkle_core_parts.specs.Mem.{Nodes, NodeHash, AreNodesOf, node_at, tree_digest, list_root}
use Rattle.merkle_theory.specs.MadeTrees.{Over}
use Rattle.merkle_theory.specs.Plans.{IsLookupOf, honest_digests}
use Rattle.std.specs.Prelude.{IfSome}
use Rattle.std.proofs.Common.{subst, append-nil}
use Rattle.state_theory.specs.Inclusion.{also, partial_made, BitClaim, tree_read, last_of, front_of, partial_read, bit_root}
use Rattle.state_theory.specs.Bits.{Bits, last_chunk}
use Rattle.state_theory.specs.InclusionCode.{last_digests, proof_digests}
use Rattle.state_theory.specs.Maps.{bitmap_string}
use Rattle.state_theory.proofs.HonestLemmas.{value-also, mapped}

-- ---- the last digest and those before it, in both words
get_or-mapped : {D : Type 0} (encoding : D → List ℕ) (xs : List D) (i : ℕ) (x : D) → i < length xs → x ≡ get_or xs i x
    → encoding x ≡ get_or (map encoding xs) i []
get_or-mapped encoding [] i x lt is = absurd (omega (arith, lt))
get_or-mapped encoding (y ∷ xs) zero x lt is = ap encoding is
get_or-mapped encoding (y ∷ xs) (suc i) x lt is = get_or-mapped encoding xs i x (omega (arith, lt)) is

pub last-mapped : {D : Type 0} (encoding : D → List ℕ) (xs : List D) (i : ℕ) (x : D) → i < length xs → i ≡ length xs - 1
    → x ≡ get_or xs i x → encoding x ≡ last_of (map encoding xs)
last-mapped encoding xs i x lt at is =
    let same : i ≡ length (map encoding xs) - 1 = omega (arith, at, length-map xs encoding) in
    get_or-mapped encoding xs i x lt is ∙ ap (λ n. get_or (map encoding xs) n []) same

pub map-taken : {D : Type 0} (encoding : D → List ℕ) (n : ℕ) (xs : List D) → map encoding (take n xs) ≡ take n (map encoding xs)
map-taken encoding zero xs = refl
map-taken encoding (suc n) [] = refl
map-taken encoding (suc n) (x ∷ xs) = ap (λ rest. encoding x ∷ rest) (map-taken encoding n xs)

pub front-mapped : {D : Type 0} (encoding : D → List ℕ) (xs : List D) (n : ℕ) → n ≡ length xs - 1
    → map encoding (take n xs) ≡ front_of (map encoding xs)
front-mapped encoding xs n at =
    let same : n ≡ length (map encoding xs) - 1 = omega (arith, at, length-map xs encoding) in
    map-taken encoding n xs ∙ ap (λ k. take k (map encoding xs)) same

-- what is known of the nodes of a tree is known of its list
pub lookup_of : (node : NodeHash) (rule : Rule) (list : List (List ℕ)) (nodes : Nodes) → AreNodesOf node rule list nodes
    → IsLookupOf node rule list (node_at rule nodes)
lookup_of node rule list nodes are first tree digest stands is =
    subst (λ o. IfSome o (λ d. d ≡ tree_digest node list first tree)) is (right-there node rule list nodes are first tree stands)

-- ---- the cases of the digests that are put together
module _ (hash : Hash) (node : NodeHash) (bagging : Bagging) (width : ℕ) (list : List (List ℕ)) (bits : Bits) (chunk : ℕ) where
  pub put_last : chunk ≡ length list → list_root hash node bagging mmr_rule list 0 ∷ [] ≡ proof_digests hash node bagging width list bits chunk
  unfolding proof_digests
  put_last same = sym (cond-true (eqb chunk (length list)) _ _ (eq-eqb chunk (length list) same))

  put : (chunk ≡ length list → ⊥) → honest_digests hash (tree_digest node list) bagging mmr_rule (length list) 0 chunk
      (chunk + 1) ++ last_digests hash width bits
      ≡ proof_digests hash node bagging width list bits chunk
  unfolding proof_digests
  put apart = sym (cond-false (eqb chunk (length list)) _ _ (ne_eqb chunk (length list) apart))

  pub put_full : (chunk ≡ length list → ⊥) → length bits.kept % (8 * width) ≡ 0
      → honest_digests hash (tree_digest node list) bagging mmr_rule (length list) 0 chunk (chunk + 1)
      ≡ proof_digests hash node bagging width list bits chunk
  put_full apart full =
      let tree = honest_digests hash (tree_digest node list) bagging mmr_rule (length list) 0 chunk (chunk + 1) in
      sym (append-nil tree)
      ∙ ap (λ ds. tree ++ ds) (sym (cond-true (eqb (length bits.kept % (8 * width)) 0) _ _ (eq-eqb (length bits.kept % (8 * width)) 0 full)))
      ∙ put apart

  pub put_partial : (chunk ≡ length list → ⊥) → (length bits.kept % (8 * width) ≡ 0 → ⊥)
      → honest_digests hash (tree_digest node list) bagging mmr_rule (length list) 0 chunk (chunk + 1) ++ hash (last_chunk width bits.kept).0 ∷ []
      ≡ proof_digests hash node bagging width list bits chunk
  put_partial apart rest =
      let tree = honest_digests hash (tree_digest node list) bagging mmr_rule (length list) 0 chunk (chunk + 1) in
      ap (λ ds. tree ++ ds) (sym (cond-false (eqb (length bits.kept % (8 * width)) 0) _ _ (ne_eqb (length bits.kept % (8 * width)) 0 rest)))
      ∙ put apart

module _ (hash : Hash) (over : Over) (bagging : Bagging) (width : ℕ) (claim : BitClaim) where
  abbrev size : ℕ
  size = 8 * width

  pub read_last : (d : List ℕ) → length claim.digests ≡ 1 → claim.bits / size ≡ claim.bit / size
      → d ≡ hash (bitmap_string (last_of claim.digests) claim.bits (hash claim.chunk))
      → Some d ≡ option_map (value hash) (partial_read over bagging width claim)
  read_last d one same is =
      ap (λ x. Some x) is
      ∙ sym (ap (option_map (value hash)) (cond-true (eqb (claim.bits / size) (claim.bit / size)) _ _ (eq-eqb _ _ same)
      ∙ cond-true (eqb (length claim.digests) 1) _ None (eq-eqb (length claim.digests) 1 one)))

  pub read_before : (tree d : List ℕ) → (claim.bits / size ≡ claim.bit / size → ⊥) → (length claim.digests ≡ 0 → ⊥)
      → option_map (value hash) (tree_read over bagging width claim (front_of claim.digests)) ≡ Some tree
      → d ≡ hash (bitmap_string tree claim.bits (last_of claim.digests))
      → Some d ≡ option_map (value hash) (partial_read over bagging width claim)
  read_before tree d apart some read is =
      ap (λ x. Some x) is
      ∙ sym (ap (option_map (value hash)) (cond-false (eqb (claim.bits / size) (claim.bit / size)) _ _ (ne_eqb _ _ apart)
      ∙ cond-false (eqb (length claim.digests) 0) None _ (ne_eqb (length claim.digests) 0 some))
      ∙ mapped hash (λ t. partial_made t claim.bits (bytes (last_of claim.digests)))
      (λ v. hash (v ++ (number claim.bits ++ last_of claim.digests))) (λ m. refl)
      (tree_read over bagging width claim (front_of claim.digests)) tree read)

  pub bit_past : claim.bits ≤ claim.bit → bit_root over bagging width claim ≡ None
  unfolding bit_root
  bit_past past = cond-true _ None _ (ap (λ b. b || ltb 0 claim.inactive) (le-leb claim.bits claim.bit past))

  pub bit_inactive : claim.bit < claim.bits → 0 < claim.inactive → bit_root over bagging width claim ≡ None
  unfolding bit_root
  bit_inactive there some =
      cond-true _ None _ (ap₂ (λ a b. a || b) (lt-leb claim.bits claim.bit there) (lt-ltb 0 claim.inactive some))

  guard : claim.bit < claim.bits → claim.inactive ≡ 0 → (leb claim.bits claim.bit || ltb 0 claim.inactive) ≡ false
  guard there none = ap₂ (λ a b. a || b) (lt-leb claim.bits claim.bit there) (ap (λ n. ltb 0 n) none)

  same_value : (o : Option Made) → option_map (value hash) (option_map (also at_bitmap_root) o) ≡ option_map (value hash) o
  same_value None = refl
  same_value (Some m) = ap (λ v. Some v) (value-also hash at_bitmap_root m)

  pub bit_full : claim.bit < claim.bits → claim.inactive ≡ 0 → claim.bits % size ≡ 0
      → option_map (value hash) (tree_read over bagging width claim claim.digests) ≡ option_map (value hash) (bit_root over bagging width claim)
  unfolding bit_root
  bit_full there none full =
      sym (ap (option_map (value hash)) (cond-false (leb claim.bits claim.bit || ltb 0 claim.inactive) None _ (guard there none)
      ∙ cond-true (eqb (claim.bits % size) 0) _ _ (eq-eqb (claim.bits % size) 0 full))
      ∙ same_value (tree_read over bagging width claim claim.digests))

  pub bit_partial : claim.bit < claim.bits → claim.inactive ≡ 0 → (claim.bits % size ≡ 0 → ⊥)
      → partial_read over bagging width claim ≡ bit_root over bagging width claim
  unfolding bit_root
  bit_partial there none rest =
      sym (cond-false (leb claim.bits claim.bit || ltb 0 claim.inactive) None _ (guard there none)
      ∙ cond-false (eqb (claim.bits % size) 0) _ _ (ne_eqb (claim.bits % size) 0 rest))
