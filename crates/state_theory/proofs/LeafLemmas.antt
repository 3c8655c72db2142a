-- Leaves of the chunks of a list of bits, after a batch brought them to it.
use Rattle.std.proofs.Common.{◌≡◌, ◌⊎◌, ℕ, zero, suc, ◌+◌, ◌-◌, ◌<◌, ◌≤◌}
use Rattle.std.proofs.Common.{Bool, false, eqb, cond, inl, inr, List, [], ◌∷◌, ◌++◌, length, get_or}
use Rattle.std.proofs.Common.{Some, None, refl, sym, ◌∙◌, ap, ap₂, arith, length-append, eq-eqb}
use Rattle.std.specs.List.{AllByRecursion}
use Rattle.std.specs.Prelude.{◌||◌, slice_get}
use Rattle.std.specs.Option.{option_map}
use Rattle.std.proofs.lemmas.Bool.{cases_lt, cases_eq, cond-true, cond-false, ne_eqb}
use Rattle.std.proofs.lemmas.List.{ext_get_or, get_or_append_left, get_or-append_right}
use Rattle.merkle_forest.specs.Forest.{mmr_rule}
use Rattle.merkle_core_parts.specs.Mem.{Replacement, node_count, replaced, value_after}
use Rattle.merkle_core_parts.specs.Laws.Replaced.{get-replaced}
use Rattle.state_theory.specs.Bits.{Bits, AreBitsOf, chunks_of, chunk_at}
use Rattle.state_theory.specs.Maps.{LeafHash, leaf_digests, is_one_of}
use Rattle.state_theory.specs.MapsCode.{leaf_digest, leaves_from, leaves_at}
use Rattle.state_theory.proofs.ChunkLemmas.{length-chunks_of, at-chunks_of}
use Rattle.state_theory.proofs.KeptLemmas.{chunk-kept}

-- ---- what stands at an index, in both words
pub get_or-slice_get : (xs : List (List ℕ)) (i : ℕ) (d : List ℕ) → slice_get xs i ≡ Some d → get_or xs i [] ≡ d
get_or-slice_get [] i d is = absurd (let clash : None ≡ Some d = is in cc)
get_or-slice_get (x ∷ xs) zero d is = let same : Some x ≡ Some d = is in cc
get_or-slice_get (x ∷ xs) (suc i) d is = get_or-slice_get xs i d is

pub slice_get-get_or : (xs : List (List ℕ)) (i : ℕ) → i < length xs → slice_get xs i ≡ Some (get_or xs i [])
slice_get-get_or [] i lt = absurd (omega arith)
slice_get-get_or (x ∷ xs) zero lt = refl
slice_get-get_or (x ∷ xs) (suc i) lt = slice_get-get_or xs i (omega arith)

pub get_or-replaced : (xs : List (List ℕ)) (us : List Replacement) (i : ℕ) → i < length xs
    → get_or (replaced xs us) i [] ≡ value_after us i (get_or xs i [])
get_or-replaced xs us i lt =
    get_or-slice_get (replaced xs us) i (value_after us i (get_or xs i []))
    (get-replaced xs us i ∙ ap (option_map (value_after us i)) (slice_get-get_or xs i lt))

module _ (leaf_of : LeafHash) (width : ℕ) where
  -- ---- the digests of a list's leaves
  pub length-leaf_digests : (first : ℕ) (chunks : List (List ℕ)) → length (leaf_digests leaf_of first chunks) ≡ length chunks
  length-leaf_digests first [] = refl
  length-leaf_digests first (chunk ∷ chunks) = ap (λ n. suc n) (length-leaf_digests (suc first) chunks)

  pub at-leaf_digests : (first : ℕ) (chunks : List (List ℕ)) (i : ℕ) → i < length chunks
      → get_or (leaf_digests leaf_of first chunks) i [] ≡ leaf_of (node_count mmr_rule (first + i)) (get_or chunks i [])
  at-leaf_digests first [] i lt = absurd (omega arith)
  at-leaf_digests first (chunk ∷ chunks) zero lt = ap (λ n. leaf_of (node_count mmr_rule n) chunk) (omega arith)
  at-leaf_digests first (chunk ∷ chunks) (suc i) lt =
      at-leaf_digests (suc first) chunks i (omega arith)
      ∙ ap (λ n. leaf_of (node_count mmr_rule n) (get_or chunks i [])) (omega arith)

  -- digests that are right one by one are those of the list
  pub leaves_are : (all : List Bool) (digests : List (List ℕ)) (count : ℕ) → length digests ≡ count
      → ((i : ℕ) → i < count → get_or digests i [] ≡ leaf_of (node_count mmr_rule i) (chunk_at width all i))
      → digests ≡ leaf_digests leaf_of 0 (chunks_of width count all)
  leaves_are all digests count long each =
      let chunks = chunks_of width count all in
      let many = length-chunks_of width count all in
      ext_get_or [] digests (leaf_digests leaf_of 0 chunks) (long ∙ sym (length-leaf_digests 0 chunks ∙ many))
      (λ i lt. let within : i < count = omega (arith, lt, long) in
      each i within
      ∙ sym (at-leaf_digests 0 chunks i (omega (arith, within, many))
      ∙ ap₂ (λ n chunk. leaf_of (node_count mmr_rule n) chunk) (omega arith) (at-chunks_of width count all i within)))

  module _ (bits : Bits) where
    abbrev one : ℕ → List ℕ
    one i = leaf_digest leaf_of width bits i

    pub length-leaves_from : (first count : ℕ) → length (leaves_from leaf_of width bits first count) ≡ count
    length-leaves_from first zero = refl
    length-leaves_from first (suc count) = ap (λ n. suc n) (length-leaves_from (suc first) count)

    pub at-leaves_from : (first count i : ℕ) → i < count → get_or (leaves_from leaf_of width bits first count) i [] ≡ one (first + i)
    at-leaves_from first zero i lt = absurd (omega arith)
    at-leaves_from first (suc count) zero lt = ap one (omega arith)
    at-leaves_from first (suc count) (suc i) lt = at-leaves_from (suc first) count i (omega arith) ∙ ap one (omega arith)

    pub leaves_from-more : (first count : ℕ)
        → leaves_from leaf_of width bits first (suc count) ≡ leaves_from leaf_of width bits first count ++ one (first + count) ∷ []
    leaves_from-more first zero = ap (λ n. one n ∷ []) (omega arith)
    leaves_from-more first (suc count) =
        ap (λ rest. one first ∷ rest) (leaves_from-more (suc first) count
        ∙ ap (λ n. leaves_from leaf_of width bits (suc first) count ++ one n ∷ []) (omega arith))

    -- ---- what stands at an index after the updates
    abbrev IsBrought : ℕ → List ℕ → List ℕ → Type 0
    IsBrought k chunks old = ((value_after (leaves_at leaf_of width bits chunks) k old ≡ one k) × (bits.pruned ≤ k))
        ⊎ ((is_one_of k chunks ≡ false) × (value_after (leaves_at leaf_of width bits chunks) k old ≡ old))

    brought_same : (k : ℕ) (chunks : List ℕ) (old : List ℕ) → bits.pruned ≤ k → old ≡ one k → IsBrought k chunks old
        → (value_after (leaves_at leaf_of width bits chunks) k old ≡ one k) × (bits.pruned ≤ k)
    brought_same k chunks old low is (inl it) = it
    brought_same k chunks old low is (inr it) = (it.1 ∙ is, low)

    pub brought : (k : ℕ) (chunks : List ℕ) (old : List ℕ) → AllByRecursion (λ chunk. bits.pruned ≤ chunk) chunks → IsBrought k chunks old
    brought k [] old all = inr (refl, refl)
    brought k (chunk ∷ chunks) old all =
        let next = cond (eqb chunk k) (one chunk) old in
        elim (cases_eq chunk k) [
          | inl same ↦
              (let is : next ≡ one k = cond-true (eqb chunk k) (one chunk) old (eq-eqb chunk k same) ∙ ap one same in
              inl (brought_same k chunks next (omega (arith, all.0, same)) is (brought k chunks next all.1)))
          | inr apart ↦
              (let test : eqb chunk k ≡ false = ne_eqb chunk k apart in
              let is : next ≡ old = cond-false (eqb chunk k) (one chunk) old test in
              elim (brought k chunks next all.1) [
                | inl it ↦ inl it
                | inr it ↦ inr (ap (λ b. b || is_one_of k chunks) test ∙ it.0, it.1 ∙ is)
              ])
        ]

    -- ---- so a batch brings the leaves to the bits
    pub brought_leaf : (all : List Bool) (digests : List (List ℕ)) (chunks : List ℕ) (count i : ℕ) → AreBitsOf width all bits
        → AllByRecursion (λ chunk. bits.pruned ≤ chunk) chunks → length digests ≤ count → bits.pruned ≤ length digests → i < count
        → ((k : ℕ) → k < length digests → is_one_of k chunks ≡ false
        → get_or digests k [] ≡ leaf_of (node_count mmr_rule k) (chunk_at width all k))
        → get_or (replaced (digests ++ leaves_from leaf_of width bits (length digests) (count - length digests)) (leaves_at leaf_of width bits chunks)) i []
        ≡ leaf_of (node_count mmr_rule i) (chunk_at width all i)
    brought_leaf all digests chunks count i are low fewer kept lt clean =
        let new = leaves_from leaf_of width bits (length digests) (count - length digests) in
        let us = leaves_at leaf_of width bits chunks in
        let long : length (digests ++ new) ≡ count =
        omega (arith, length-append digests new, length-leaves_from (length digests) (count - length digests), fewer) in
        let own : bits.pruned ≤ i → one i ≡ leaf_of (node_count mmr_rule i) (chunk_at width all i) =
        λ from. ap (leaf_of (node_count mmr_rule i)) (chunk-kept width all bits i are from) in
        get_or-replaced (digests ++ new) us i (omega (arith, long, lt))
        ∙ elim (brought i chunks (get_or (digests ++ new) i []) low) [
          | inl it ↦ it.0 ∙ own it.1
          | inr it ↦ it.1 ∙ elim (cases_lt i (length digests)) [
            | inl old ↦ get_or_append_left digests new [] i old ∙ clean i old it.0
            | inr added ↦
                (let at : length digests + (i - length digests) ≡ i = omega (arith, added) in
                get_or-append_right digests new (length digests) i [] refl added
                ∙ at-leaves_from (length digests) (count - length digests) (i - length digests) (omega (arith, added, lt))
                ∙ ap one at ∙ own (omega (arith, kept, added)))
          ]
        ]
