-- Roots of equal parts are equal.
use Rattle.std.proofs.Common.{◌≡◌, ℕ, zero, suc, ◌+◌, ◌*◌, ◌<◌, Bool, true, false, ltb, eqb, List, [], length, drop}
use Rattle.std.proofs.Common.{Option, Some, None, refl, ◌∙◌, ap, arith}
use Rattle.std.specs.Prelude.{IsSome, IfSome, option_map, slice_index_or, if◌then◌else◌, ◌==◌}
use Rattle.std.proofs.lemmas.Bool.{lt-ltb}
use Rattle.state_theory.specs.Bits.{chunks_of}
use Rattle.merkle_forest.specs.declared.bagging.Bagging.{Bagging}
use Rattle.merkle_forest.specs.declared.bagging.Bagging.TheVariants.{BackwardFold}
use Rattle.merkle_forest.specs.Forest.{Tree}
use Rattle.merkle_forest.specs.Hashing.{Hash, root_of}
use Rattle.merkle_forest.specs.Nodes.{nodes_of_height}
use Rattle.merkle_forest.specs.Trees.{Located, located, plain_digest, peak_digests, inactive_peaks, tree_root}
use Rattle.state_theory.specs.Canonical.{Setting, State, chunk_bits, chunks, operations_root, grafted_root}
use Rattle.state_theory.specs.Canonical.{grafted_digests, grafted_inactive, forest, full_chunks, next_bit}
use Rattle.state_theory.specs.Canonical.{pending_digest, partial_digest}
use Rattle.state_theory.specs.Grafting.{grafted_digest, chunk_aligned_inactive_peaks}

-- a root of the operations' tree, from what the code computes
pub is_operations_root : (setting : Setting) (state : State) (bagging : Bagging) (n inactive : ℕ) (trees : List Tree)
    (found : List Located) (digests : List (List ℕ)) (root : List ℕ)
    → bagging ≡ BackwardFold → trees ≡ forest setting state → found ≡ located trees
    → inactive ≡ inactive_peaks state.floor found
    → digests ≡ peak_digests (plain_digest setting.hash state.operations) trees
    → n ≡ length state.operations → root ≡ root_of setting.hash bagging n inactive digests
    → root ≡ operations_root setting state
unfolding operations_root tree_root
is_operations_root setting state bagging n inactive trees found digests root side grown positions counts bags sized is =
    is ∙ rw (side, sized, counts, bags, positions, grown) refl

-- a root of the grafted tree, from what the code computes
pub is_grafted_root : (setting : Setting) (state : State) (bagging : Bagging) (n inactive : ℕ) (trees : List Tree)
    (found : List Located) (digest : ℕ → Tree → List ℕ) (digests : List (List ℕ)) (root : List ℕ)
    → bagging ≡ BackwardFold → trees ≡ forest setting state → found ≡ located trees
    → inactive ≡ chunk_aligned_inactive_peaks (chunk_bits setting) state.floor found
    → digest ≡ grafted_digests setting state → digests ≡ peak_digests digest trees → n ≡ length state.operations
    → root ≡ root_of setting.hash bagging n inactive digests → root ≡ grafted_root setting state
unfolding grafted_root grafted_inactive
is_grafted_root setting state bagging n inactive trees found digest digests root side grown positions counts grafts
    bags sized is =
    is ∙ rw (side, sized, counts, bags, positions, grown, grafts) refl

-- the digests of the grafted tree, from the fields that hold them
pub is_grafted_digests : (setting : Setting) (state : State) (grafting_height bits : ℕ)
    (found elements : List (List ℕ)) → elements ≡ state.operations → found ≡ chunks setting state
    → grafting_height ≡ setting.grafting_height → bits ≡ chunk_bits setting
    → grafted_digest setting.hash grafting_height bits found elements ≡ grafted_digests setting state
unfolding grafted_digests
is_grafted_digests setting state grafting_height bits found elements e f g b = rw (g, b, f, e) refl

-- the digest of a chunk that is there
pub chunk_is : {D : Type 0} (encoding : D → List ℕ) (hash : Hash) (found : List (List ℕ)) (index : ℕ)
    (outcome : Option D) → IsSome outcome
    → IfSome outcome (λ d. encoding d ≡ hash (slice_index_or found index []))
    → option_map encoding outcome ≡ Some (hash (slice_index_or found index []))
chunk_is encoding hash found index (Some d) some is = ap (λ bytes. Some bytes) is
chunk_is encoding hash found index None some is = absurd cc

-- there are as many chunks as were asked for
pub length-chunks_of : (width count : ℕ) (bits : List Bool) → length (chunks_of width count bits) ≡ count
unfolding chunks_of
length-chunks_of width zero bits = refl
length-chunks_of width (suc count) bits = ap suc (length-chunks_of width count (drop (8 * width) bits))

-- the chunks are the full ones and the partial one
pub length-chunks : (setting : Setting) (state : State)
    → length (chunks setting state) ≡ full_chunks setting state + (if next_bit setting state == 0 then 0 else 1)
unfolding chunks
length-chunks setting state =
    length-chunks_of setting.width (full_chunks setting state + (if next_bit setting state == 0 then 0 else 1))
    state.bits

-- a full chunk that isn't graftable yet is the pending one
pub is_pending_digest : (setting : Setting) (state : State) (graftable : ℕ) (digest : Option (List ℕ))
    → graftable ≡ nodes_of_height setting.grafting_height (forest setting state) → graftable < full_chunks setting state
    → digest ≡ Some (setting.hash (slice_index_or (chunks setting state) graftable []))
    → digest ≡ pending_digest setting state
unfolding pending_digest
is_pending_digest setting state graftable digest counts lt is =
    let less : ltb (nodes_of_height setting.grafting_height (forest setting state)) (full_chunks setting state)
    ≡ true = rw (← counts) (lt-ltb graftable (full_chunks setting state) lt) in
    is ∙ rw (less, counts) refl

-- what is left over of a chunk is the partial one
pub is_partial_digest : (setting : Setting) (state : State) (digest : Option (List ℕ))
    → eqb (next_bit setting state) 0 ≡ false
    → digest ≡ Some (setting.hash (slice_index_or (chunks setting state) (full_chunks setting state) []))
    → digest ≡ partial_digest setting state
unfolding partial_digest
is_partial_digest setting state digest some is = is ∙ rw some refl

-- where something is left over there is one chunk more than the full ones
pub partial_stands : (setting : Setting) (state : State) → eqb (next_bit setting state) 0 ≡ false
    → full_chunks setting state < length (chunks setting state)
partial_stands setting state some =
    let count : length (chunks setting state) ≡ full_chunks setting state + 1 = length-chunks setting state
    ∙ rw some refl in
    omega (arith, count)
