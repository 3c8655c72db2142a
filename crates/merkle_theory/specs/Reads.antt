-- What is read of a proof of a range, as digests: the values of what is read as it is made.
use Rattle.std.specs.Prelude.{◌≡◌, ℕ, ◌+◌, ◌<◌, ◌≤◌, nat_lt, if◌then◌else◌, List, length, Option, None, option_map}
use Rattle.merkle_forest.specs.declared.bagging.Bagging.{Bagging}
use Rattle.merkle_forest.specs.Forest.{Tree, leaf, branch, height, leaf_count, Rule}
use Rattle.merkle_forest.specs.Hashing.{Hash}
use Rattle.merkle_forest.specs.Made.{Made, value}
use Rattle.merkle_theory.specs.MadeTrees.{Over, Elements, from, leaf_made, branch_made}
use Rattle.merkle_theory.specs.MadeRoots.{Naming, peaks_of, read_root}
use Rattle.merkle_theory.specs.RangeCounts.{range_outer}
use Rattle.merkle_theory.specs.Ranges.{Digests}
use Rattle.merkle_theory.specs.Subtrees.{IsTreeAt, HasTree}
use Rattle.merkle_theory.specs.Soundness.{RangeClaim}

-- a hasher's digests of leaves and branches are the values of what is made this way
pub record HashesAs (rule : Rule) (hash : Hash) (leaf_of : ℕ → List ℕ → List ℕ) (node_of : ℕ → List ℕ → List ℕ → List ℕ)
    (over : Over) : Type 0 where
  pub leaf : (p : ℕ) (element : List ℕ) → value hash (leaf_made p element) ≡ leaf_of p element
  pub branch : (at high p : ℕ) (left right : Made) → HasTree rule at p high
      → value hash (branch_made over at high p left right) ≡ node_of p (value hash left) (value hash right)

-- the digest of what is read, and what is left
abbrev pub valued : {R : Type 0} → Hash → Option (Made × R) → Option (List ℕ × R)
valued hash reading = option_map (λ x. (value hash x.0, x.1)) reading

-- the trees below a branch that begins at `first` stand at these subtrees
pub record AreChildTrees (rule : Rule) (first : ℕ) (left right : Tree)
    (left_first left_at left_high right_first right_at right_high : ℕ) : Type 0 where
  pub same : left_first ≡ first
  pub middle : right_first ≡ first + leaf_count left
  pub at_left : IsTreeAt rule left_first left_at left_high left
  pub at_right : IsTreeAt rule right_first right_at right_high right

-- The root that a proof of a range leads to, whose elements begin at a location. None: the range is empty, or there is
-- no such root.
abbrev pub range_root : Naming → Over → Bagging → Rule → ℕ → ℕ → ℕ → List (List ℕ) → List (List ℕ) → Option Made
range_root names over bagging rule leaves inactive start elements digests =
    let stop = start + length elements in
    if nat_lt 0 (length elements)
    then read_root names over bagging rule leaves inactive start stop (from start elements)
    (range_outer bagging start stop inactive (peaks_of rule leaves)) digests
    else None

-- what such a proof claims
abbrev pub claim_of : Bagging → Rule → ℕ → ℕ → ℕ → List (List ℕ) → List (List ℕ) → RangeClaim
claim_of bagging rule leaves inactive start elements digests = record {
  leaves = leaves;
  inactive = inactive;
  start = start;
  elements = elements;
  outer = range_outer bagging start (start + length elements) inactive (peaks_of rule leaves);
  digests = digests;
}

-- the digests of trees are made over the elements of the range
pub record Agrees (hash : Hash) (over : Over) (elements : Elements) (digest : Digests) (start stop : ℕ) : Type 0 where
  pub leaf : (at p : ℕ) → start ≤ at → at < stop → value hash (leaf_made p (elements at)) ≡ digest at (leaf p)
  pub branch : (at p : ℕ) (left right : Tree) (x y : Made) → value hash x ≡ digest at left
      → value hash y ≡ digest (at + leaf_count left) right
      → value hash (branch_made over at (height (branch p left right)) p x y) ≡ digest at (branch p left right)
