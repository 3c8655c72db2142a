-- How the grafted tree is hashed over a range of operations: at the grafting height the chunk over the node is joined
-- in, where it is one of those that are given.
use Rattle.std.specs.Prelude.{ℕ, ◌+◌, ◌-◌, ◌/◌, ◌^◌, ◌==◌, ◌&&◌, nat_lt, nat_le, if◌then◌else◌, List, [], ◌∷◌, Option}
use Rattle.std.specs.Prelude.{None, Some, replicate, slice_index_or}
use Rattle.merkle_forest.specs.Forest.{Tree, leaf, branch, height, leaf_count, leaves, Rule, forest_of}
use Rattle.merkle_forest.specs.Hashing.{Hash, node_string}
use Rattle.state_theory.specs.Grafting.{grafted}

-- the first of two that is there
abbrev pub first_there : Option (ℕ × ℕ) → Option (ℕ × ℕ) → Option (ℕ × ℕ)
first_there (Some x) other = Some x
first_there None other = other

-- where the node at a position begins, and its height: in a tree, and in a forest
abbrev pub found_in : ℕ → ℕ → Tree → Option (ℕ × ℕ)
found_in p at (leaf q) = if p == q then Some (at, 0) else None
found_in p at (branch q left right) =
    if p == q then Some (at, height (branch q left right))
    else first_there (found_in p at left) (found_in p (at + leaf_count left) right)

abbrev pub found_among : ℕ → List Tree → Option (ℕ × ℕ)
found_among p [] = None
found_among p (peak ∷ peaks) = first_there (found_in p (leaves peaks) peak) (found_among p peaks)

-- in the greatest forest of the rule
unfoldable pub node_at : Rule → ℕ → Option (ℕ × ℕ)
node_at rule p = found_among p (forest_of rule (2 ^ 62))

-- Which chunks are given: those from an index on; of these, so many first ones of the state are graftable.
pub record Given : Type 0 where
  pub grafting_height : ℕ
  pub first : ℕ
  pub chunks : List (List ℕ)
  pub graftable : ℕ

-- the chunk at an index, where it is graftable and is given
abbrev pub given_chunk : Given → List ℕ → ℕ → List ℕ
given_chunk given none index =
    if nat_lt index given.graftable && nat_le given.first index then slice_index_or given.chunks
    (index - given.first) none
    else none

-- the chunk that is joined in at a node
abbrev pub joined_chunk : Given → Option (ℕ × ℕ) → List ℕ
joined_chunk given None = []
joined_chunk given (Some x) =
    if x.1 == given.grafting_height then given_chunk given [] (x.0 / 2 ^ given.grafting_height) else []

-- the digest of a branch at a position
abbrev pub grafted_node : Rule → Hash → Given → ℕ → List ℕ → List ℕ → List ℕ
grafted_node rule hash given p left right =
    grafted hash (joined_chunk given (node_at rule p)) (hash (node_string p left right))

-- the chunk over a location, of so many bytes; zeros where none is given
abbrev pub claimed_chunk : Given → ℕ → ℕ → List ℕ
claimed_chunk given width location = given_chunk given (replicate width 0) (location / 2 ^ given.grafting_height)
