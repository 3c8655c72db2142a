-- How many digests the proof of a range has, and why no root can be reconstructed from it.
use Rattle.std.specs.Prelude.{◌≡◌, ℕ, ◌+◌, ◌<◌, ◌≤◌, ◌^◌, List, length, codes}
use Rattle.merkle_forest.specs.declared.bagging.Bagging.{Bagging}
use Rattle.merkle_forest.specs.Forest.{Rule}
use Rattle.merkle_proofs.specs.declared.verifying.error.ReconstructionError.{ReconstructionError}
use Rattle.merkle_proofs.specs.declared.verifying.error.ReconstructionError.TheVariants.{InvalidProof, MissingDigests}
use Rattle.merkle_proofs.specs.declared.verifying.error.ReconstructionError.TheVariants.{ExtraDigests}
use Rattle.merkle_proofs.specs.declared.verifying.error.ReconstructionError.TheVariants.{InvalidStartLoc, InvalidEndLoc}
use Rattle.merkle_proofs.specs.declared.verifying.error.ReconstructionError.TheVariants.{MissingElements, InvalidSize}
use Rattle.merkle_proofs.specs.declared.verifying.error.ReconstructionError.TheVariants.{Memory}
use Rattle.merkle_theory.specs.MadeRoots.{peaks_of}
use Rattle.merkle_theory.specs.Plans.{IsWithinTree, inner_nodes}
use Rattle.merkle_theory.specs.RangeCounts.{range_outer}

abbrev pub reconstruction_text : ReconstructionError → List ℕ
reconstruction_text InvalidProof = codes "fewer peaks than inactive ones"
reconstruction_text MissingDigests = codes "too few digests"
reconstruction_text ExtraDigests = codes "too many digests"
reconstruction_text InvalidStartLoc = codes "the range begins past the leaves"
reconstruction_text InvalidEndLoc = codes "the range ends past the leaves"
reconstruction_text MissingElements = codes "no element is shown"
reconstruction_text InvalidSize = codes "the tree is too large"
reconstruction_text Memory = codes "out of memory"

-- how many digests the proof of a range has: those that stand for the peaks beside it, and in the peaks that meet it
-- one for each maximal node that holds no leaf of it
abbrev pub range_digest_count : Bagging → Rule → ℕ → ℕ → ℕ → ℕ → ℕ
range_digest_count bagging rule leaves inactive start stop =
    range_outer bagging start stop inactive (peaks_of rule leaves)
    + length (inner_nodes start stop (peaks_of rule leaves))

-- what a proof is said to be of: a tree of so many leaves, of whose peaks so many are inactive, and a range of so many
-- elements from a location on; and how many digests it has
pub record RangeProofOf : Type 0 where
  pub leaves : ℕ
  pub inactive : ℕ
  pub start : ℕ
  pub count : ℕ
  pub digests : ℕ

-- the range is not empty, and stands in the tree, which is not too large
abbrev pub HasRange : RangeProofOf → Type 0
HasRange it = IsWithinTree (record { leaves = it.leaves; start = it.start; stop = it.start + it.count })

-- how many digests it has to have
abbrev pub needed_digests : Bagging → Rule → RangeProofOf → ℕ
needed_digests bagging rule it = range_digest_count bagging rule it.leaves it.inactive it.start (it.start + it.count)

-- why no root can be reconstructed, of which the first is told: no element is shown, the tree is too large, the range
-- begins or ends past its leaves, it has fewer peaks than are to be inactive, or there are too few digests or too many
abbrev pub IsRefusalToReconstruct : Bagging → Rule → RangeProofOf → ReconstructionError → Type 0
IsRefusalToReconstruct bagging rule it MissingElements = it.count ≡ 0
IsRefusalToReconstruct bagging rule it InvalidSize = (0 < it.count) × (2 ^ 62 < it.leaves)
IsRefusalToReconstruct bagging rule it InvalidStartLoc = (0 < it.count) × (it.leaves ≤ 2 ^ 62) × (it.leaves ≤ it.start)
IsRefusalToReconstruct bagging rule it InvalidEndLoc =
    (0 < it.count) × (it.leaves ≤ 2 ^ 62) × (it.start < it.leaves) × (it.leaves < it.start + it.count)
IsRefusalToReconstruct bagging rule it InvalidProof = HasRange it × (length (peaks_of rule it.leaves) < it.inactive)
IsRefusalToReconstruct bagging rule it MissingDigests =
    HasRange it × (it.inactive ≤ length (peaks_of rule it.leaves)) × (it.digests < needed_digests bagging rule it)
IsRefusalToReconstruct bagging rule it ExtraDigests =
    HasRange it × (it.inactive ≤ length (peaks_of rule it.leaves)) × (needed_digests bagging rule it < it.digests)
IsRefusalToReconstruct bagging rule it Memory = ⊥
