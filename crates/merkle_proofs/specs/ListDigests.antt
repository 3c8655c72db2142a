-- What the digests of a proof are, where it leads to the root of a list: those of the list, or strings collide.
use Rattle.std.specs.Prelude.{◌≡◌, ◌⊎◌, ℕ, ◌+◌, List, length}
use Rattle.merkle_forest.specs.declared.bagging.Bagging.{Bagging}
use Rattle.merkle_forest.specs.Forest.{Rule}
use Rattle.merkle_forest.specs.Hashing.{Hash, leaf_string, node_string}
use Rattle.merkle_forest.specs.Made.{Made, value, strings, Collision}
use Rattle.merkle_forest.specs.Trees.{plain_digest}
use Rattle.merkle_proofs.specs.Extracted.{AreMadeOf, AreGiven}
use Rattle.merkle_theory.specs.MadeRoots.{from_left, peaks_of}
use Rattle.merkle_theory.specs.MadeTrees.{from}
use Rattle.merkle_theory.specs.Plans.{honest_digests}
use Rattle.merkle_theory.specs.Soundness.{RangeClaim, list_root, hashed_strings}

-- the location where the range of the claim ends
abbrev pub stop_of : RangeClaim → ℕ
stop_of claim = claim.start + length claim.elements

-- The proof is, field by field, the honest one of the list. So are the nodes that it tells: the list's digests are made
-- of the claimed elements, and those of the others are given.
pub record GivesDigestsOf (hash : Hash) (bagging : Bagging) (rule : Rule) (elements : List (List ℕ)) (inactive : ℕ)
    (claim : RangeClaim) : Type 0 where
  pub leaf_count : claim.leaves ≡ length elements
  pub inactive_count : claim.inactive ≡ inactive
  pub honest : claim.digests ≡ honest_digests hash (plain_digest hash elements) bagging rule (length elements) inactive
      claim.start (stop_of claim)
  pub made : AreMadeOf (λ p element. hash (leaf_string p element)) (λ p left right. hash (node_string p left right))
      (from claim.start claim.elements) claim.start (stop_of claim) (plain_digest hash elements)
  pub given : AreGiven (from_left bagging claim.inactive (length (peaks_of rule claim.leaves)))
      claim.start (stop_of claim)
      (peaks_of rule claim.leaves) (plain_digest hash elements) claim.digests

-- where the claim leads to the root of the list it gives the list's digests, or the strings collide
abbrev pub GivesDigestsOrCollides : Hash → Bagging → Rule → List (List ℕ) → ℕ → RangeClaim → Made → Type 0
GivesDigestsOrCollides hash bagging rule elements inactive claim made =
    value hash made ≡ value hash (list_root bagging rule elements inactive)
    → GivesDigestsOf hash bagging rule elements inactive claim
    ⊎ Collision hash (hashed_strings hash bagging rule elements inactive) (strings hash made)
