-- The root of a list of bits over a plain tree is the value of what is made of the list.
use Rattle.std.proofs.Common.{◌≡◌, ℕ, ◌*◌, ◌/◌, ◌%◌, eqb, inl, inr, Bool}
use Rattle.std.proofs.Common.{List, ◌++◌, length, refl, sym, ◌∙◌, ap, arith, length-append}
use Rattle.std.proofs.lemmas.Bool.{cases_eq, cond-true, cond-false, eq-eqb, ne_eqb}
use Rattle.merkle_forest.specs.declared.bagging.Bagging.{Bagging}
use Rattle.merkle_forest.specs.Forest.{mmr_rule}
use Rattle.merkle_forest.specs.Hashing.{Hash, number}
use Rattle.merkle_forest.specs.Laws.Rules.{mmr_merges_equals}
use Rattle.merkle_forest.specs.Made.{at_bitmap_root, Made, value}
use Rattle.merkle_core_parts.specs.Laws.Plain.{plain_roots}
use Rattle.merkle_core_parts.specs.Mem.{plain_node, list_root as list_root_of}
use Rattle.merkle_theory.specs.Laws.Values.{value_list}
use Rattle.merkle_theory.specs.Soundness.{list_root}
use Rattle.state_theory.specs.Bits.{chunk_at, full_chunks}
use Rattle.state_theory.specs.Inclusion.{also, partial_made, last_made, made_bitmap, plain_leaf, plain_root}
use Rattle.state_theory.specs.Maps.{chunks_root, sealed_root, bitmap_root}
use Rattle.state_theory.proofs.HonestLemmas.{value-also, plain_leaves}

-- a root over a partial chunk, of digests of 32 bytes
pub partial_long : (tree digest : List ℕ) (bits : ℕ) → length tree ≡ 32 → length digest ≡ 32 → length (tree ++ (number bits ++ digest)) ≡ 72
partial_long tree digest bits one two =
    omega (arith, length-append tree (number bits ++ digest), length-append (number bits) digest, one, two, eight bits)
  where
    eight : (n : ℕ) → length (number n) ≡ 8
    eight n = refl

module _ (hash : Hash) (bagging : Bagging) (width : ℕ) (all : List Bool) where
  abbrev size : ℕ
  size = 8 * width

  abbrev chunks : List (List ℕ)
  chunks = full_chunks width all

  abbrev pub there : Made
  there = list_root bagging mmr_rule chunks 0

  abbrev end : List ℕ
  end = chunk_at width all (length all / size)

  abbrev pub partial_there : Made
  partial_there = partial_made there (length all) (last_made end)

  value-there : value hash there ≡ chunks_root hash (plain_leaf hash) (plain_node hash) bagging width all
  unfolding chunks_root
  value-there =
      value_list hash bagging mmr_rule chunks 0 ∙ sym (plain_roots mmr_rule mmr_merges_equals hash bagging chunks 0)
      ∙ ap (λ ds. list_root_of hash (plain_node hash) bagging mmr_rule ds 0) (sym (plain_leaves hash 0 chunks))

  pub made-aligned : length all % size ≡ 0 → made_bitmap bagging width all ≡ also at_bitmap_root there
  unfolding made_bitmap
  made-aligned full = cond-true (eqb (length all % size) 0) _ _ (eq-eqb (length all % size) 0 full)

  pub made-partial : (length all % size ≡ 0 → ⊥) → made_bitmap bagging width all ≡ partial_there
  unfolding made_bitmap
  made-partial rest = cond-false (eqb (length all % size) 0) _ _ (ne_eqb (length all % size) 0 rest)

  pub root-aligned : length all % size ≡ 0 → value hash (also at_bitmap_root there) ≡ plain_root hash bagging width all
  unfolding bitmap_root sealed_root
  root-aligned full =
      value-also hash at_bitmap_root there ∙ value-there
      ∙ sym (cond-true (eqb (length all % size) 0) _ _ (eq-eqb (length all % size) 0 full))

  pub root-partial : (length all % size ≡ 0 → ⊥) → value hash partial_there ≡ plain_root hash bagging width all
  unfolding bitmap_root sealed_root
  root-partial rest =
      ap (λ d. hash (d ++ (number (length all) ++ hash end))) value-there
      ∙ sym (cond-false (eqb (length all % size) 0) _ _ (ne_eqb (length all % size) 0 rest))

  pub value-made : value hash (made_bitmap bagging width all) ≡ plain_root hash bagging width all
  value-made =
      elim (cases_eq (length all % size) 0) [
        | inl full ↦ ap (value hash) (made-aligned full) ∙ root-aligned full
        | inr rest ↦ ap (value hash) (made-partial rest) ∙ root-partial rest
      ]
