-- What a proof of several elements claims of a list, and what follows where it leads to the list's root.
use Rattle.std.specs.Prelude.{◌≡◌, ◌⊎◌, ℕ, ◌<◌, List, [], map, length, slice_index_or}
use Rattle.std.specs.List.{All}
use Rattle.merkle_forest.specs.declared.bagging.Bagging.{Bagging}
use Rattle.merkle_forest.specs.Forest.{Rule}
use Rattle.merkle_forest.specs.Hashing.{Hash}
use Rattle.merkle_forest.specs.Made.{Made, value, strings, Collision}
use Rattle.merkle_core_parts.specs.Mem.{plain_leaf_digests, plain_node}
use Rattle.merkle_theory.specs.Multi.{AreDigestsAt, AreMultiPositions}
use Rattle.merkle_theory.specs.MultiReads.{Shown, locations_of}
use Rattle.merkle_theory.specs.Soundness.{list_root, hashed_strings}

-- so many leaves, of whose peaks so many are inactive, and these elements at their locations are those of the list
pub record AreTrueOf (elements : List (List ℕ)) (inactive leaves claimed_inactive : ℕ) (shown : Shown) : Type 0 where
  pub leaf_count : leaves ≡ length elements
  pub inactive_count : claimed_inactive ≡ inactive
  pub stand : All (λ x. (x.1 < length elements) × (x.0 ≡ slice_index_or elements x.1 [])) shown

-- where they lead to the root of the list they are true of the list, or the strings collide
abbrev pub AreSound : Hash → Bagging → Rule → List (List ℕ) → ℕ → ℕ → ℕ → Shown → Made → Type 0
AreSound hash bagging rule elements inactive leaves claimed_inactive shown made =
    value hash made ≡ value hash (list_root bagging rule elements inactive)
    → AreTrueOf elements inactive leaves claimed_inactive shown
    ⊎ Collision hash (hashed_strings hash bagging rule elements inactive) (strings hash made)

-- The proof is, field by field, the honest one of the list for these locations: each of its digests, of which there are
-- as many as positions, is that of the list's node at its position.
pub record AreHonestFor (hash : Hash) (rule : Rule) (elements : List (List ℕ)) (inactive leaves claimed_inactive : ℕ)
    (shown : Shown) (digests : List (List ℕ)) : Type 0 where
  pub leaf_count : leaves ≡ length elements
  pub inactive_count : claimed_inactive ≡ inactive
  pub given : (positions : List ℕ) → AreMultiPositions rule (length elements) (locations_of shown) positions
      → (length digests ≡ length positions)
      × AreDigestsAt (plain_node hash) rule (plain_leaf_digests hash rule 0 elements) positions digests

-- where it leads to the root of the list it is so, or the strings collide
abbrev pub AreHonestOrCollide : Hash → Bagging → Rule → List (List ℕ) → ℕ → ℕ → ℕ → Shown → List (List ℕ) → Made
    → Type 0
AreHonestOrCollide hash bagging rule elements inactive leaves claimed_inactive shown digests made =
    value hash made ≡ value hash (list_root bagging rule elements inactive)
    → AreHonestFor hash rule elements inactive leaves claimed_inactive shown digests
    ⊎ Collision hash (hashed_strings hash bagging rule elements inactive) (strings hash made)

-- the elements of a list at these locations
abbrev pub shown_of : List (List ℕ) → List ℕ → Shown
shown_of elements locations = map (λ l. (slice_index_or elements l [], l)) locations
