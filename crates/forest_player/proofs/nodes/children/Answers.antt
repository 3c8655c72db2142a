use Rattle.std.proofs.Common.{◌≡◌, ℕ, List, Option, ◌^◌, ◌<◌, ◌≤◌, sym, subst, arith}
use Rattle.merkle_forest.specs.Forest.{Tree, leaf, branch, position, height, forest_of}
use Rattle.merkle_forest.specs.Nodes.{IsNodeAt, HasBranch}
use Rattle.forest_player.proofs.nodes.children.Goals as goal

-- a node above the leaves is a branch
branch_of : (rule : ℕ → List ℕ → Option ℕ) (p h n first : ℕ) (node : Tree) → n ≤ 2 ^ 62
    → IsNodeAt first node (forest_of rule n) → p ≡ position node → h ≡ height node → 0 < h → HasBranch rule p h
branch_of rule p h n first (leaf q) few stands at high some = absurd (omega (arith, high, some))
branch_of rule p h n first (branch q left right) few stands at high some = (
  left,
  right,
  record {
    leaf_total = n;
    few = few;
    first = first;
    stands = subst (λ k. IsNodeAt first (branch k left right) (forest_of rule n)) (sym at) stands;
    high = high;
  },
)

pub children-left-requires : goal.children-left-requires
children-left-requires g c =
    let it = c.pos_to_height-height.ensures.there in
    branch_of _ c.new-at.result c.pos_to_height-height.result it.0 it.2.0 it.2.1 it.1 it.2.2 it.2.3 it.2.4
    (omega (arith, c.if-height-eq0.false))
