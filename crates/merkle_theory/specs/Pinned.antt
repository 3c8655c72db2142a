-- What stands before a range, made of the digests that are pinned there.
--
-- The leaves before the range stand below the peaks of a tree of these leaves alone. Each of these peaks is a node of
-- every greater tree, and its digest is pinned. Of a Mountain Belt two of them may have merged since: the greater
-- node's digest is made of theirs.
use Rattle.std.specs.Prelude.{◌≡◌, ℕ, ◌+◌, ◌≤◌, ◌==◌, if◌then◌else◌, List, [], ◌∷◌, ◌++◌, filter, take, drop, length}
use Rattle.std.specs.Prelude.{None, Some, unwrap_or}
use Rattle.merkle_forest.specs.Forest.{Tree, leaf, branch, position, leaf_count, Rule, forest_of}
use Rattle.merkle_forest.specs.Hashing.{Hash, folded_forward}
use Rattle.merkle_forest.specs.Nodes.{IsNodeAt}
use Rattle.merkle_forest.specs.Trees.{Located}
use Rattle.merkle_theory.specs.MadeRoots.{peaks_of}
use Rattle.merkle_theory.specs.Plans.{Lookup, inner_nodes}
use Rattle.merkle_theory.specs.Ranges.{Digests, is_before, as_one, singly}

-- the digest that stands at a position, of those of these peaks from left to right
abbrev pub at_peak : List Located → List (List ℕ) → Lookup
at_peak [] digests p = None
at_peak (peak ∷ peaks) [] p = None
at_peak (peak ∷ peaks) (d ∷ digests) p = if position peak.1 == p then Some d else at_peak peaks digests p

-- a tree's digest: it is pinned, or made of those of its children. A leaf that is not pinned has none.
abbrev pub pinned_digest : (ℕ → List ℕ → List ℕ → List ℕ) → List ℕ → Lookup → Digests
pinned_digest node_of none known at (leaf p) = unwrap_or (known p) none
pinned_digest node_of none known at (branch p left right) =
    unwrap_or (known p) (node_of p (pinned_digest node_of none known at left) (pinned_digest node_of none known (at
    + leaf_count left) right))

-- those digests of the proof of a range that stand for the peaks before it, of which so many are folded singly from the
-- left
abbrev pub outer_before : Hash → Digests → ℕ → ℕ → List Located → List (List ℕ)
outer_before hash digest singles start peaks =
    as_one (folded_forward hash) (singly digest (filter (is_before start) (take singles peaks)))
    ++ singly digest (filter (is_before start) (drop singles peaks))

-- and those of the nodes before it in the peaks that meet it
abbrev pub inner_before : Digests → ℕ → ℕ → List Located → List (List ℕ)
inner_before digest start stop peaks = singly digest (filter (is_before start) (inner_nodes start stop peaks))

-- these digests are the first ones
abbrev pub Begins : List (List ℕ) → List (List ℕ) → Type 0
Begins front digests = (rest : List (List ℕ)) × (digests ≡ front ++ rest)

-- each digest of the proof that stands for leaves before the range is made of those that are pinned there, of which
-- there are as many as the leaves before it have peaks
pub record ArePinned (hash : Hash) (node_of : ℕ → List ℕ → List ℕ → List ℕ) (none : List ℕ) (rule : Rule)
    (leaves singles start stop outer : ℕ)
    (digests pinned : List (List ℕ)) : Type 0 where
  pub counted : length pinned ≡ length (peaks_of rule start)
  pub peaks : Begins (outer_before hash (pinned_digest node_of none (at_peak (peaks_of rule start) pinned)) singles
      start (peaks_of rule leaves)) digests
  pub nodes : Begins (inner_before (pinned_digest node_of none (at_peak (peaks_of rule start) pinned)) start
      stop (peaks_of rule leaves))
      (drop outer digests)

-- in a tree of so many leaves the digest of each branch that stands before a location is made of those of its children
abbrev pub AreMadeBefore : (ℕ → List ℕ → List ℕ → List ℕ) → Rule → ℕ → ℕ → Digests → Type 0
AreMadeBefore node_of rule leaves start digest = (first p : ℕ) (left right : Tree)
    → IsNodeAt first (branch p left right) (forest_of rule leaves) → first + leaf_count (branch p left right) ≤ start
    → digest first (branch p left right) ≡ node_of p (digest first left) (digest (first + leaf_count left) right)
