-- The honest proof of a bit leads to the root of its list.
use Rattle.std.proofs.Common.{◌≡◌, ℕ, zero, suc, ◌+◌, ◌-◌, ◌*◌, ◌/◌, ◌%◌, ◌<◌, ◌≤◌, ◌^◌, eqb, leb, ltb, Bool, false}
use Rattle.std.proofs.Common.{inl, inr, List, [], ◌∷◌, ◌++◌, length, take, drop, get_or}
use Rattle.std.proofs.Common.{Option, None, Some, option_map, refl, sym, ◌∙◌, ap, ap₂, arith, length-append}
use Rattle.std.specs.Prelude.{◌||◌}
use Rattle.std.proofs.lemmas.Bool.{cases_eq, cond-true, cond-false, eq-eqb, ne_eqb, lt-leb}
use Rattle.std.proofs.lemmas.List.{take_at, get_or-append-add}
use Rattle.std.proofs.lemmas.Nat.{div_below, mul-le}
use Rattle.std.proofs.Math.Nat.{mul_comm}
use Rattle.merkle_forest.specs.declared.bagging.Bagging.{Bagging}
use Rattle.merkle_forest.specs.Forest.{mmr_rule}
use Rattle.merkle_forest.specs.Hashing.{Hash, leaf_string, number}
use Rattle.merkle_forest.specs.Made.{Site, at_bitmap_root, Made, bytes, both, hashed, value}
use Rattle.merkle_core_parts.specs.Mem.{node_count, tree_digest, plain_leaf_digests, plain_node, list_root}
use Rattle.merkle_theory.specs.MadeTrees.{plain_over}
use Rattle.merkle_theory.specs.Plans.{honest_digests}
use Rattle.merkle_theory.specs.Reads.{range_root}
use Rattle.merkle_theory.specs.Soundness.{plain_names}
use Rattle.state_theory.specs.Bits.{IsChunkWidth, chunk_at, full_chunks}
use Rattle.state_theory.specs.Inclusion.{also, partial_made, BitClaim, tree_read, last_of, front_of, bit_root}
use Rattle.state_theory.specs.Inclusion.{plain_leaf, plain_root, honest_bit_digests, honest_claim}
use Rattle.state_theory.specs.Maps.{leaf_digests, chunks_root, sealed_root, bitmap_root}
use Rattle.state_theory.proofs.ChunkLemmas.{length-chunks_of, at-chunks_of, chunks_of_bits}
use Rattle.state_theory.proofs.MapLemmas.{full_more}
use Rattle.state_theory.proofs.WidthLemmas.{wide-some}

pub value-also : (hash : Hash) (site : Site) (made : Made) → value hash (also site made) ≡ value hash made
value-also hash site (bytes xs) = refl
value-also hash site (both a b) = refl
value-also hash site (hashed first more inner) = refl

pub plain_leaves : (hash : Hash) (first : ℕ) (elements : List (List ℕ))
    → leaf_digests (plain_leaf hash) first elements ≡ plain_leaf_digests hash mmr_rule first elements
plain_leaves hash first [] = refl
plain_leaves hash first (e ∷ elements) =
    ap (λ rest. hash (leaf_string (node_count mmr_rule first) e) ∷ rest) (plain_leaves hash (suc first) elements)

pub mapped : (hash : Hash) (f : Made → Made) (g : List ℕ → List ℕ) → ((m : Made) → value hash (f m) ≡ g (value hash m))
    → (o : Option Made) (v : List ℕ) → option_map (value hash) o ≡ Some v → option_map (value hash) (option_map f o) ≡ Some (g v)
mapped hash f g each None v is = absurd cc
mapped hash f g each (Some m) v is =
    ap (λ x. Some x) (each m ∙ ap g (let same : Some (value hash m) ≡ Some v = is in cc))

-- one of a list
one_of : (xs : List (List ℕ)) (i : ℕ) → i < length xs → take 1 (drop i xs) ≡ get_or xs i [] ∷ []
one_of [] i lt = absurd (omega (arith, lt))
one_of (x ∷ xs) zero lt = refl
one_of (x ∷ xs) (suc i) lt = one_of xs i (omega (arith, lt))

module _ (hash : Hash) (bagging : Bagging) (width : ℕ) (wide : IsChunkWidth width) (all : List Bool) (few : length all < 2 ^ 64)
    (built : (elements : List (List ℕ)) (start stop : ℕ) → length elements ≤ 2 ^ 62 → start < stop → stop ≤ length elements
    → option_map (value hash) (range_root plain_names plain_over bagging mmr_rule (length elements) 0 start
    (take (stop - start) (drop start elements))
    (honest_digests hash (tree_digest (plain_node hash) (plain_leaf_digests hash mmr_rule 0 elements)) bagging mmr_rule (length elements) 0 start stop))
    ≡ Some (list_root hash (plain_node hash) bagging mmr_rule (plain_leaf_digests hash mmr_rule 0 elements) 0)) where
  abbrev size : ℕ
  size = 8 * width

  abbrev chunks : List (List ℕ)
  chunks = full_chunks width all

  abbrev end : List ℕ
  end = chunk_at width all (length all / size)

  abbrev root : List ℕ
  root = chunks_root hash (plain_leaf hash) (plain_node hash) bagging width all

  abbrev tree_part : ℕ → List (List ℕ)
  tree_part at =
      honest_digests hash (tree_digest (plain_node hash) (leaf_digests (plain_leaf hash) 0 chunks)) bagging mmr_rule (length chunks) 0 at (at + 1)

  many : length chunks ≡ length all / size
  many = length-chunks_of width (length all / size) all

  few_chunks : length chunks ≤ 2 ^ 62
  few_chunks =
      let least = mul-le 8 (length all / size) size (length all / size) (omega (arith, wide-some width wide)) (omega arith) in
      omega (arith, many, least, chunks_of_bits width (length all), few)

  -- the part of the tree leads to the tree's root
  read : (at : ℕ) → at < length all / size
      → option_map (value hash) (range_root plain_names plain_over bagging mmr_rule (length all / size) 0 at (chunk_at width all at ∷ []) (tree_part at))
      ≡ Some root
  unfolding chunks_root
  read at lt =
      let within : at < length chunks = omega (arith, lt, many) in
      let one : at + 1 - at ≡ 1 = omega arith in
      let shown : take (at + 1 - at) (drop at chunks) ≡ chunk_at width all at ∷ [] =
      ap (λ n. take n (drop at chunks)) one ∙ one_of chunks at within
      ∙ ap (λ c. c ∷ []) (at-chunks_of width (length all / size) all at lt) in
      ap (λ n. option_map (value hash) (range_root plain_names plain_over bagging mmr_rule n 0 at (chunk_at width all at ∷ []) (tree_part at))) (sym many)
      ∙ ap (λ c. option_map (value hash) (range_root plain_names plain_over bagging mmr_rule (length chunks) 0 at c (tree_part at))) (sym shown)
      ∙ ap (λ ds. option_map (value hash) (range_root plain_names plain_over bagging mmr_rule (length chunks) 0 at
      (take (at + 1 - at) (drop at chunks))
      (honest_digests hash (tree_digest (plain_node hash) ds) bagging mmr_rule (length chunks) 0 at (at + 1)))) (plain_leaves hash 0 chunks)
      ∙ built chunks at (at + 1) few_chunks (omega arith) (omega (arith, within))
      ∙ ap (λ ds. Some (list_root hash (plain_node hash) bagging mmr_rule ds 0)) (sym (plain_leaves hash 0 chunks))

  module _ (bit : ℕ) (there : bit < length all) where
    abbrev at : ℕ
    at = bit / size

    abbrev claim : List (List ℕ) → BitClaim
    claim digests = record { bits = length all; inactive = 0; digests = digests; bit = bit; chunk = chunk_at width all at }

    guard : (leb (length all) bit || ltb 0 0) ≡ false
    guard = ap (λ b. b || ltb 0 0) (lt-leb (length all) bit there)

    -- where bits fill their chunks
    aligned : length all % size ≡ 0
        → option_map (value hash) (bit_root plain_over bagging width (claim (tree_part at))) ≡ Some root
    unfolding bit_root
    aligned full =
        let lt : at < length all / size = div_below bit size (length all / size) (omega (arith, wide-some width wide))
        (omega (arith, there, full, chunks_of_bits width (length all), mul_comm (length all / size) size)) in
        ap (option_map (value hash)) (cond-false (leb (length all) bit || ltb 0 0) None _ guard
        ∙ cond-true (eqb (length all % size) 0) _ _ (eq-eqb (length all % size) 0 full))
        ∙ mapped hash (also at_bitmap_root) (λ v. v) (value-also hash at_bitmap_root)
        (tree_read plain_over bagging width (claim (tree_part at)) (tree_part at)) root (read at lt)

    -- where the bit stands in the last chunk
    in_last : (length all % size ≡ 0 → ⊥) → length all / size ≡ at
        → option_map (value hash) (bit_root plain_over bagging width (claim (root ∷ [])))
        ≡ Some (hash (root ++ (number (length all) ++ hash end)))
    unfolding bit_root
    in_last rest same =
        ap (option_map (value hash)) (cond-false (leb (length all) bit || ltb 0 0) None _ guard
        ∙ cond-false (eqb (length all % size) 0) _ _ (ne_eqb (length all % size) 0 rest)
        ∙ cond-true (eqb (length all / size) at) _ _ (eq-eqb (length all / size) at same))
        ∙ ap (λ n. Some (hash (root ++ (number (length all) ++ hash (chunk_at width all n))))) (sym same)

    -- where it stands in a full one before
    in_full : (length all % size ≡ 0 → ⊥) → (length all / size ≡ at → ⊥)
        → option_map (value hash) (bit_root plain_over bagging width (claim (tree_part at ++ hash end ∷ [])))
        ≡ Some (hash (root ++ (number (length all) ++ hash end)))
    unfolding bit_root
    in_full rest apart =
        let digests = tree_part at ++ hash end ∷ [] in
        let long : length digests ≡ length (tree_part at) + 1 = length-append (tree_part at) (hash end ∷ []) in
        let some : length digests ≡ 0 → ⊥ = λ none. omega (arith, long, none) in
        let count : length digests - 1 ≡ length (tree_part at) = omega (arith, long) in
        let front : front_of digests ≡ tree_part at = take_at (tree_part at) (hash end ∷ []) (length digests - 1) (sym count) in
        let end_at : length digests - 1 ≡ length (tree_part at) + 0 = omega (arith, count) in
        let last : last_of digests ≡ hash end =
        ap (λ n. get_or digests n []) end_at ∙ get_or-append-add (tree_part at) (hash end ∷ []) 0 [] in
        let lt : at < length all / size = below apart in
        ap (option_map (value hash)) (cond-false (leb (length all) bit || ltb 0 0) None _ guard
        ∙ cond-false (eqb (length all % size) 0) _ _ (ne_eqb (length all % size) 0 rest)
        ∙ cond-false (eqb (length all / size) at) _ _ (ne_eqb (length all / size) at apart)
        ∙ cond-false (eqb (length digests) 0) None _ (ne_eqb (length digests) 0 some))
        ∙ ap₂ (λ l ds. option_map (value hash) (option_map (λ tree. partial_made tree (length all) (bytes l))
        (tree_read plain_over bagging width (claim digests) ds))) last front
        ∙ mapped hash (λ tree. partial_made tree (length all) (bytes (hash end))) (λ v. hash (v ++ (number (length all) ++ hash end)))
        (λ m. refl) (tree_read plain_over bagging width (claim digests) (tree_part at)) root (read at lt)
      where
        below : (length all / size ≡ at → ⊥) → at < length all / size
        below apart =
            let most : at ≤ length all / size = full_more width bit (length all) (wide-some width wide) (omega (arith, there)) in
            omega (arith, most, apart)

    pub honest_root : option_map (value hash) (bit_root plain_over bagging width
        (honest_claim hash (plain_leaf hash) (plain_node hash) bagging width all bit)) ≡ Some (plain_root hash bagging width all)
    unfolding honest_bit_digests bitmap_root sealed_root
    honest_root =
        elim (cases_eq (length all % size) 0) [
          | inl full ↦
              (let test = eq-eqb (length all % size) 0 full in
              ap (λ ds. option_map (value hash) (bit_root plain_over bagging width (claim ds))) (cond-true (eqb (length all % size) 0) _ _ test)
              ∙ aligned full ∙ ap (λ v. Some v) (sym (cond-true (eqb (length all % size) 0) _ _ test)))
          | inr rest ↦
              (let test = ne_eqb (length all % size) 0 rest in
              elim (cases_eq (length all / size) at) [
                | inl same ↦
                    ap (λ ds. option_map (value hash) (bit_root plain_over bagging width (claim ds)))
                    (cond-false (eqb (length all % size) 0) _ _ test ∙ cond-true (eqb (length all / size) at) _ _ (eq-eqb (length all / size) at same))
                    ∙ in_last rest same ∙ ap (λ v. Some v) (sym (cond-false (eqb (length all % size) 0) _ _ test))
                | inr apart ↦
                    ap (λ ds. option_map (value hash) (bit_root plain_over bagging width (claim ds)))
                    (cond-false (eqb (length all % size) 0) _ _ test ∙ cond-false (eqb (length all / size) at) _ _ (ne_eqb (length all / size) at apart))
                    ∙ in_full rest apart ∙ ap (λ v. Some v) (sym (cond-false (eqb (length all % size) 0) _ _ test))
              ])
        ]
