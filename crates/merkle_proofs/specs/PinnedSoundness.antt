-- What the digests are that are pinned beside a proof, where it leads to the root of a list: those of the list, or
-- strings collide.
use Rattle.std.specs.Prelude.{◌≡◌, ◌⊎◌, ℕ, ◌+◌, List, ◌++◌, map, filter, take, drop, length, unwrap_or}
use Rattle.std.specs.List.{flat_map}
use Rattle.std.specs.Option.{option_map_or}
use Rattle.merkle_forest.specs.declared.bagging.Bagging.{Bagging}
use Rattle.merkle_forest.specs.Forest.{Tree, leaf, branch, height, leaf_count, Rule, forest_of}
use Rattle.merkle_forest.specs.Hashing.{Hash, node_string}
use Rattle.merkle_forest.specs.Made.{Made, bytes, value, Strings, strings, Collision}
use Rattle.merkle_forest.specs.Trees.{Located, plain_digest, peak_digests}
use Rattle.merkle_proofs.specs.ListDigests.{stop_of}
use Rattle.merkle_theory.specs.MadeRoots.{from_left, peaks_of}
use Rattle.merkle_theory.specs.MadeTrees.{plain_over, branch_made}
use Rattle.merkle_theory.specs.MultiReads.{as_bag}
use Rattle.merkle_theory.specs.Pinned.{at_peak, ArePinned}
use Rattle.merkle_theory.specs.Plans.{Lookup, inner_nodes}
use Rattle.merkle_theory.specs.Ranges.{is_before}
use Rattle.merkle_theory.specs.Soundness.{plain_names, RangeClaim, list_root, hashed_strings}

-- a tree as it is rebuilt: its digest is pinned, or it is made of its children. A leaf that is not pinned has none.
abbrev pub pinned_made : List ℕ → Lookup → ℕ → Tree → Made
pinned_made none known at (leaf p) = bytes (unwrap_or (known p) none)
pinned_made none known at (branch p left right) =
    option_map_or bytes (known p) (branch_made plain_over at (height (branch p left right)) p
    (pinned_made none known at left)
    (pinned_made none known (at + leaf_count left) right))

-- how many of the peaks of the claim's tree are folded singly from the left
abbrev pub singles_of : Bagging → Rule → RangeClaim → ℕ
singles_of bagging rule claim = from_left bagging claim.inactive (length (peaks_of rule claim.leaves))

-- the peaks before the range that its proof gives as one digest, and the nodes before it that it gives singly
abbrev pub before_as_one : Bagging → Rule → RangeClaim → List Located
before_as_one bagging rule claim =
    filter (is_before claim.start) (take (singles_of bagging rule claim) (peaks_of rule claim.leaves))

abbrev pub before_singly : Bagging → Rule → RangeClaim → List Located
before_singly bagging rule claim =
    filter (is_before claim.start) (drop (singles_of bagging rule claim) (peaks_of rule claim.leaves))
    ++ filter (is_before claim.start) (inner_nodes claim.start (stop_of claim) (peaks_of rule claim.leaves))

-- the strings that these are rebuilt by from the pinned digests
abbrev pub pinned_strings : Hash → List ℕ → Bagging → Rule → RangeClaim → List (List ℕ) → Strings
pinned_strings hash none bagging rule claim pinned =
    let made : Located → Made = λ n. pinned_made none (at_peak (peaks_of rule claim.start) pinned) n.0 n.1 in
    let several = map made (before_as_one bagging rule claim) in
    strings hash (as_bag plain_names (length several) (length several) several)
    ++ flat_map (λ n. strings hash (made n)) (before_singly bagging rule claim)

-- the digests of the proof that stand for leaves before the range are made of those that are pinned, in the plain tree
abbrev pub ArePinnedBeside : Hash → List ℕ → Bagging → Rule → RangeClaim → List (List ℕ) → Type 0
ArePinnedBeside hash none bagging rule claim pinned =
    ArePinned hash (λ p left right. hash (node_string p left right)) none rule claim.leaves
    (singles_of bagging rule claim) claim.start
    (stop_of claim) claim.outer claim.digests pinned

-- where the claim leads to the root of the list the pinned digests are those of the list's nodes to pin where the range
-- begins, from left to right, or the strings collide
abbrev pub PinsListOrCollides : Hash → List ℕ → Bagging → Rule → List (List ℕ) → ℕ → RangeClaim
    → List (List ℕ) → Made → Type 0
PinsListOrCollides hash none bagging rule elements inactive claim pinned made =
    value hash made ≡ value hash (list_root bagging rule elements inactive)
    → (pinned ≡ peak_digests (plain_digest hash elements) (forest_of rule claim.start))
    ⊎ Collision hash (hashed_strings hash bagging rule elements inactive)
    (strings hash made ++ pinned_strings hash none bagging rule claim pinned)
