-- The digests that are put together as a proof are the honest ones.
use Rattle.std.proofs.Common.{◌≡◌, ℕ, ◌+◌, ◌*◌, ◌/◌, ◌%◌, ◌<◌}
use Rattle.std.proofs.Common.{◌≤◌, eqb, inl, inr, Bool, List, [], ◌∷◌, ◌++◌, length}
use Rattle.std.proofs.Common.{sym, ◌∙◌, ap, arith, append-nil}
use Rattle.std.proofs.lemmas.Bool.{cases_eq, cond-true, cond-false, eq-eqb, ne_eqb}
use Rattle.std.proofs.lemmas.Nat.{div_below}
use Rattle.std.proofs.Math.Nat.{mul_comm}
use Rattle.merkle_forest.specs.declared.bagging.Bagging.{Bagging}
use Rattle.merkle_forest.specs.Forest.{mmr_rule}
use Rattle.merkle_forest.specs.Hashing.{Hash}
use Rattle.merkle_core_parts.specs.Mem.{NodeHash, tree_digest}
use Rattle.merkle_theory.specs.Plans.{honest_digests}
use Rattle.state_theory.specs.Bits.{Bits, AreBitsOf, full_chunks}
use Rattle.state_theory.specs.Inclusion.{honest_bit_digests}
use Rattle.state_theory.specs.InclusionCode.{last_digests, proof_digests}
use Rattle.state_theory.specs.Maps.{LeafHash, leaf_digests, chunks_root}
use Rattle.state_theory.proofs.ChunkLemmas.{length-chunks_of, chunks_of_bits}
use Rattle.state_theory.proofs.LeafLemmas.{length-leaf_digests}
use Rattle.state_theory.proofs.MapLemmas.{rest_kept, last-partial}

module _ (hash : Hash) (leaf_of : LeafHash) (node_of : NodeHash) (bagging : Bagging) (width : ℕ) (all : List Bool) (bits : Bits)
    (some : 1 ≤ width) (are : AreBitsOf width all bits) (bit : ℕ) (there : bit < length all) where
  abbrev size : ℕ
  size = 8 * width

  abbrev at : ℕ
  at = bit / size

  abbrev chunks : List (List ℕ)
  chunks = full_chunks width all

  abbrev leaves : List (List ℕ)
  leaves = leaf_digests leaf_of 0 chunks

  abbrev tree : ℕ → List (List ℕ)
  tree count = honest_digests hash (tree_digest node_of leaves) bagging mmr_rule count 0 at (at + 1)

  many : length leaves ≡ length all / size
  many = length-leaf_digests leaf_of width 0 chunks ∙ length-chunks_of width (length all / size) all

  in_tree : (at ≡ length all / size → ⊥)
      → proof_digests hash node_of bagging width leaves bits at ≡ tree (length chunks) ++ last_digests hash width bits
  unfolding proof_digests
  in_tree apart =
      cond-false (eqb at (length leaves)) _ _ (ne_eqb at (length leaves) (λ same. apart (same ∙ many)))
      ∙ ap (λ n. tree n ++ last_digests hash width bits) (length-leaf_digests leaf_of width 0 chunks)

  full : length all % size ≡ 0 → proof_digests hash node_of bagging width leaves bits at ≡ honest_bit_digests hash leaf_of node_of bagging width all bit
  unfolding honest_bit_digests
  full aligned =
      let lt : at < length all / size = div_below bit size (length all / size) (omega (arith, some))
      (omega (arith, there, aligned, chunks_of_bits width (length all), mul_comm (length all / size) size)) in
      in_tree (λ same. absurd (omega (arith, lt, same)))
      ∙ ap (λ ds. tree (length chunks) ++ ds) (cond-true (eqb (length bits.kept % size) 0) _ _
      (eq-eqb (length bits.kept % size) 0 (rest_kept width all bits some are ∙ aligned)))
      ∙ append-nil (tree (length chunks))
      ∙ sym (cond-true (eqb (length all % size) 0) _ _ (eq-eqb (length all % size) 0 aligned))

  last : (length all % size ≡ 0 → ⊥) → length all / size ≡ at
      → proof_digests hash node_of bagging width leaves bits at ≡ honest_bit_digests hash leaf_of node_of bagging width all bit
  unfolding honest_bit_digests proof_digests chunks_root
  last rest same =
      cond-true (eqb at (length leaves)) _ _ (eq-eqb at (length leaves) (sym same ∙ sym many))
      ∙ sym (cond-false (eqb (length all % size) 0) _ _ (ne_eqb (length all % size) 0 rest)
      ∙ cond-true (eqb (length all / size) at) _ _ (eq-eqb (length all / size) at same))

  before : (length all % size ≡ 0 → ⊥) → (length all / size ≡ at → ⊥)
      → proof_digests hash node_of bagging width leaves bits at ≡ honest_bit_digests hash leaf_of node_of bagging width all bit
  unfolding honest_bit_digests
  before rest apart =
      in_tree (λ same. apart (sym same))
      ∙ ap (λ ds. tree (length chunks) ++ ds) (cond-false (eqb (length bits.kept % size) 0) _ _
      (ne_eqb (length bits.kept % size) 0 (λ none. rest (sym (rest_kept width all bits some are) ∙ none)))
      ∙ ap (λ c. hash c ∷ []) (last-partial width all bits some are rest))
      ∙ sym (cond-false (eqb (length all % size) 0) _ _ (ne_eqb (length all % size) 0 rest)
      ∙ cond-false (eqb (length all / size) at) _ _ (ne_eqb (length all / size) at apart))

  pub proved : proof_digests hash node_of bagging width leaves bits at ≡ honest_bit_digests hash leaf_of node_of bagging width all bit
  proved =
      elim (cases_eq (length all % size) 0) [
        | inl aligned ↦ full aligned
        | inr rest ↦ elim (cases_eq (length all / size) at) [ inl same ↦ last rest same | inr apart ↦ before rest apart ]
      ]
