-- A plain tree: the list, what a proof claims, and what follows where the proof leads to the list's root.
use Rattle.std.specs.Prelude.{◌≡◌, ◌⊎◌, ℕ, ◌+◌, ◌<◌, ◌≤◌, List, [], length, Option, slice_index_or}
use Rattle.merkle_forest.specs.declared.bagging.Bagging.{Bagging}
use Rattle.merkle_forest.specs.Forest.{Rule}
use Rattle.merkle_forest.specs.Hashing.{Hash}
use Rattle.merkle_forest.specs.Made.{at_tree_root, at_fold, Made, value, Strings, strings, Collision}
use Rattle.merkle_theory.specs.MadeTrees.{from, whole, plain_over}
use Rattle.merkle_theory.specs.MadeRoots.{Naming, made_root, read_root}

-- the sites of a tree alone
abbrev pub plain_names : Naming
plain_names = record { root_site = at_tree_root; fold_site = at_fold }

-- the root of the tree over these elements
abbrev pub list_root : Bagging → Rule → List (List ℕ) → ℕ → Made
list_root bagging rule elements inactive =
    made_root plain_names plain_over (whole elements) bagging rule (length elements) inactive

-- what a proof of a range claims
pub record RangeClaim : Type 0 where
  pub leaves : ℕ
  pub inactive : ℕ
  pub start : ℕ
  pub elements : List (List ℕ)
  pub outer : ℕ
  pub digests : List (List ℕ)

-- the root that it leads to
abbrev pub claimed_root : Bagging → Rule → RangeClaim → Option Made
claimed_root bagging rule claim =
    read_root plain_names plain_over bagging rule claim.leaves claim.inactive claim.start (claim.start
    + length claim.elements)
    (from claim.start claim.elements) claim.outer claim.digests

-- the claim is true of this list: so many leaves and inactive peaks, and these elements from `start` on, within the
-- list
pub record IsTrueOf (elements : List (List ℕ)) (inactive : ℕ) (claim : RangeClaim) : Type 0 where
  pub leaf_count : claim.leaves ≡ length elements
  pub inactive_count : claim.inactive ≡ inactive
  pub within : claim.start + length claim.elements ≤ length elements
  pub stands : (i : ℕ) → i < length claim.elements
      → slice_index_or claim.elements i [] ≡ slice_index_or elements (claim.start + i) []

-- the strings hashed for the list, and those that the proof and its claim are rebuilt by
abbrev pub hashed_strings : Hash → Bagging → Rule → List (List ℕ) → ℕ → Strings
hashed_strings hash bagging rule elements inactive = strings hash (list_root bagging rule elements inactive)

-- where the claim leads to the root of the list it is true of the list, or the strings collide
abbrev pub IsSound : Hash → Bagging → Rule → List (List ℕ) → ℕ → RangeClaim → Made → Type 0
IsSound hash bagging rule elements inactive claim made =
    value hash made ≡ value hash (list_root bagging rule elements inactive)
    → IsTrueOf elements inactive claim
    ⊎ Collision hash (hashed_strings hash bagging rule elements inactive) (strings hash made)
