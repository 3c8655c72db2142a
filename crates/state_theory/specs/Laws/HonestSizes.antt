-- The parts of an honest proof, of one operation or over several, are within the limits of a proof.
use Rattle.std.proofs.Common.{◌≡◌, ℕ, suc, ◌+◌, ◌*◌, ◌/◌, ◌^◌, ◌<◌, ◌≤◌, eqb, ltb, cond, Bool, true, false, List, []}
use Rattle.std.proofs.Common.{◌++◌, length, take, drop, Option, Some, None, refl, subst, arith}
use Rattle.std.specs.Prelude.{IfSome, slice_index_or}
use Rattle.std.proofs.lemmas.Bool.{ltb-true}
use Rattle.std.proofs.lemmas.Nat.{pow_pos}
use Rattle.merkle_forest.specs.declared.bagging.Bagging.TheVariants.{BackwardFold}
use Rattle.merkle_forest.specs.Forest.{leaf, branch, height, leaf_count, Rule, forest_of}
use Rattle.merkle_forest.specs.Laws.ForestGrowth.{size-twice, leaves-forest_of}
use Rattle.merkle_forest.specs.Hashing.{Hash, node_string, root_of}
use Rattle.merkle_forest.specs.Nodes.{nodes_of_height}
use Rattle.merkle_forest.specs.Perfect.{IsPairing}
use Rattle.merkle_forest.specs.Trees.{tree_root}
use Rattle.merkle_theory.specs.Laws.Sized.{AreSized, IsSized, Gives, range_sized}
use Rattle.state_theory.specs.SetBits.{is_zero}
use Rattle.state_theory.specs.Canonical.{Setting, State, chunk_bits, full_chunks, next_bit, chunk, forest, peaks}
use Rattle.state_theory.specs.Canonical.{grafted_digests, grafted_inactive, operations_root, pending_digest}
use Rattle.state_theory.specs.Canonical.{partial_digest}
use Rattle.state_theory.specs.Grafting.{grafted, grafted_digest}
use Rattle.state_theory.specs.Honest.{grafted_range, honest_parts, honest_range}
use Rattle.state_theory.specs.Encoded.{Fits, FitsRange}
use Rattle.state_theory.specs.Laws.FewDigests.{AreFew, ranges_are_few}
use Rattle.state_theory.specs.Laws.ChunkCounts.{inactive-few}
use Rattle.state_theory.specs.Laws.Chunks.{length-chunk}
use Rattle.state_theory.specs.Laws.Heights.{some_height}

graft_sized : (size : ℕ) (hash : Hash) (chunk own : List ℕ) (test : Bool) → IsSized size hash → length own ≡ size
    → length (cond test own (hash (chunk ++ own))) ≡ size
graft_sized size hash chunk own true sized is = is
graft_sized size hash chunk own false sized is = sized (chunk ++ own)

level_sized : (size : ℕ) (hash : Hash) (chunk own : List ℕ) (test : Bool) → IsSized size hash → length own ≡ size
    → length (cond test (grafted hash chunk own) own) ≡ size
level_sized size hash chunk own true sized is = graft_sized size hash chunk own (is_zero chunk) sized is
level_sized size hash chunk own false sized is = is

grafted_sized : (size : ℕ) (hash : Hash) (grafting_height bits : ℕ) (chunks elements : List (List ℕ))
    → IsSized size hash → Gives size (grafted_digest hash grafting_height bits chunks elements)
grafted_sized size hash grafting_height bits chunks elements sized at (leaf p) = sized _
grafted_sized size hash grafting_height bits chunks elements sized at (branch p left right) =
    let own : List ℕ = hash (node_string p (grafted_digest hash grafting_height bits chunks elements at left)
    (grafted_digest hash grafting_height bits chunks elements (at + leaf_count left) right)) in
    level_sized size hash (slice_index_or chunks (at / bits) []) own (eqb (suc (height left)) grafting_height) sized
    (sized _)

pub range_of_size : (size : ℕ) (setting : Setting) (state : State) (start stop : ℕ) → IsSized size setting.hash
    → AreSized size (grafted_range setting state start stop)
unfolding grafted_range grafted_digests
range_of_size size setting state start stop sized =
    range_sized size setting.hash (grafted_digests setting state) BackwardFold start stop
    (take (grafted_inactive setting state) (peaks setting state))
    (drop (grafted_inactive setting state) (peaks setting state)) sized
    (grafted_sized size setting.hash setting.grafting_height (chunk_bits setting) _ state.operations sized)

pub root_of_size : (size : ℕ) (setting : Setting) (state : State) → IsSized size setting.hash
    → length (operations_root setting state) ≡ size
unfolding operations_root tree_root root_of
root_of_size size setting state sized = sized _

partial_case : (size : ℕ) (hash : Hash) (bytes : List ℕ) (test : Bool) → IsSized size hash
    → IfSome (cond test None (Some (hash bytes))) (λ digest. length digest ≡ size)
partial_case size hash bytes true sized = tt
partial_case size hash bytes false sized = sized bytes

pub partial_of_size : (size : ℕ) (setting : Setting) (state : State) → IsSized size setting.hash
    → IfSome (partial_digest setting state) (λ digest. length digest ≡ size)
unfolding partial_digest
partial_of_size size setting state sized =
    partial_case size setting.hash (chunk setting state (full_chunks setting state))
    (eqb (next_bit setting state) 0) sized

pending_case : (P : Option (List ℕ) → Type 0) (size : ℕ) (hash : Hash) (bytes : List ℕ) (Fewer : Type 0) (test : Bool)
    → IsSized size hash → (test ≡ true → Fewer) → P None
    → ((digest : List ℕ) → length digest ≡ size → Fewer → P (Some digest))
    → P (cond test (Some (hash bytes)) None)
pending_case P size hash bytes Fewer true sized fewer none some = some (hash bytes) (sized bytes) (fewer refl)
pending_case P size hash bytes Fewer false sized fewer none some = none

-- what holds of no digest, and of any digest where some full chunk has no node, holds of the pending digest
pub pending_holds : (P : Option (List ℕ) → Type 0) (size : ℕ) (setting : Setting) (state : State)
    → IsSized size setting.hash → P None
    → ((digest : List ℕ) → length digest ≡ size
    → nodes_of_height setting.grafting_height (forest setting state) < full_chunks setting state → P (Some digest))
    → P (pending_digest setting state)
unfolding pending_digest
pending_holds P size setting state sized none some =
    let graftable : ℕ = nodes_of_height setting.grafting_height (forest setting state) in
    pending_case P size setting.hash (chunk setting state graftable) (graftable < full_chunks setting state)
    (ltb graftable (full_chunks setting state)) sized (ltb-true graftable (full_chunks setting state)) none some

pub inactive_fits : (setting : Setting) (state : State) → IsPairing setting.rule → length state.operations ≤ 2 ^ 62
    → grafted_inactive setting state < 2 ^ 64
inactive_fits setting state pairs few =
    omega (
      arith,
      inactive-few setting state,
      size-twice (forest setting state),
      leaves-forest_of setting.rule pairs
          (length state.operations),
      few,
    )

one_is_few : (setting : Setting) (state : State) (location : ℕ) → AreFew setting.rule
    → length state.operations ≤ 2 ^ 62 → location < length state.operations
    → length (grafted_range setting state location (location + 1)) ≤ 122
unfolding grafted_range
one_is_few setting state location law few within =
    law setting.hash BackwardFold (grafted_digests setting state) (length state.operations)
    (grafted_inactive setting state) location few within (inactive-few setting state)

range_is_few : (setting : Setting) (state : State) (start stop : ℕ) → AreFew setting.rule
    → length state.operations ≤ 2 ^ 62 → start < stop → stop ≤ length state.operations
    → length (grafted_range setting state start stop) ≤ 244
unfolding grafted_range
range_is_few setting state start stop law few some within =
    ranges_are_few setting.rule law setting.hash (grafted_digests setting state) (length state.operations)
    (grafted_inactive setting state) start stop few some within (inactive-few setting state)

-- the law that a proof may hold a digest where some full chunk has no node
abbrev pub MayHold : Rule → (Option (List ℕ) → Type 0) → ℕ → Type 0
MayHold rule IsPending size = (leaf_total height : ℕ) (digest : List ℕ) → leaf_total ≤ 2 ^ 62 → 0 < height → height ≤ 62
    → nodes_of_height height (forest_of rule leaf_total) < leaf_total / 2 ^ height → length digest ≡ size
    → IsPending (Some digest)

-- so a proof may hold the pending digest
pub may_hold : (setting : Setting) (state : State) (size : ℕ) (IsPending : Option (List ℕ) → Type 0)
    → IsSized size setting.hash
    → IsPending None → MayHold setting.rule IsPending size → 8 * setting.width ≡ 2 ^ setting.grafting_height
    → setting.grafting_height ≤ 62
    → length state.operations ≤ 2 ^ 62 → IsPending (pending_digest setting state)
may_hold setting state size IsPending sized none held whole low few =
    pending_holds IsPending size setting state sized none (λ digest is more.
    held (length state.operations) setting.grafting_height digest few
    (some_height setting.width setting.grafting_height whole) low
    (subst (λ (bits : ℕ). nodes_of_height setting.grafting_height
    (forest setting state) < length state.operations / bits) whole more) is)

-- what is within the limits of a proof over operations, but for how many digests it has
range_fits : (setting : Setting) (state : State) (start stop size most : ℕ) (IsPending : Option (List ℕ) → Type 0)
    → IsPairing setting.rule → IsSized size setting.hash → IsPending None → MayHold setting.rule IsPending size
    → 8 * setting.width ≡ 2 ^ setting.grafting_height → setting.grafting_height ≤ 62
    → length state.operations ≤ 2 ^ 62 → length (grafted_range setting state start stop) ≤ most
    → FitsRange IsPending size most (honest_range setting state start stop)
range_fits setting state start stop size most IsPending pairs sized none held whole low few digests = record {
  leaves = few;
  inactive = inactive_fits setting state pairs few;
  few = digests;
  digests = range_of_size size setting state start stop sized;
  pending = may_hold setting state size IsPending sized none held whole low few;
  partial = partial_of_size size setting state sized;
  operations_root = root_of_size size setting state sized;
}

-- the honest parts are within the limits of a proof of one operation
pub honest_fits : (setting : Setting) (state : State) (location size : ℕ) (IsPending : Option (List ℕ) → Type 0)
    → IsPairing setting.rule
    → IsSized size setting.hash → AreFew setting.rule → IsPending None → MayHold setting.rule IsPending size
    → 8 * setting.width ≡ 2 ^ setting.grafting_height → setting.grafting_height ≤ 62
    → length state.operations ≤ 2 ^ 62 → location < length state.operations
    → Fits IsPending setting.width size 122 (honest_parts setting state location)
honest_fits setting state location size IsPending pairs sized law none held whole low few within = record {
  location = omega (arith, few, within);
  chunk = length-chunk setting state location (omega (arith, whole, pow_pos setting.grafting_height)) within;
  range = range_fits setting state location (location + 1) size 122 IsPending pairs sized none held whole low few
      (one_is_few setting state location law few within);
}

-- and of one over several
pub honest_range_fits : (setting : Setting) (state : State) (start stop size : ℕ)
    (IsPending : Option (List ℕ) → Type 0) → IsPairing setting.rule
    → IsSized size setting.hash → AreFew setting.rule → IsPending None → MayHold setting.rule IsPending size
    → 8 * setting.width ≡ 2 ^ setting.grafting_height → setting.grafting_height ≤ 62
    → length state.operations ≤ 2 ^ 62 → start < stop → stop ≤ length state.operations
    → FitsRange IsPending size 244 (honest_range setting state start stop)
honest_range_fits setting state start stop size IsPending pairs sized law none held whole low few some within =
    range_fits setting state start stop size 244 IsPending pairs sized none held whole low few
    (range_is_few setting state start stop law few some within)
