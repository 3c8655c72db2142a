use Rattle.std.proofs.Common.{rules, ◌≡◌, ℕ, List, Option, None, option_map, ◌+◌, ◌-◌, ◌∙◌, ap, arith}
use Rattle.merkle_forest.specs.Forest.{leaf, branch, leaf_count}
use Rattle.merkle_forest.specs.Nodes.{StandsAt}
use Rattle.merkle_core_parts.specs.Mem.{NodeHash}
use Rattle.merkle_theory.specs.Plans.{Lookup}
use Rattle.state_theory.specs.GraftedNodes.{chunks_node}
use Rattle.state_theory.specs.Laws.GraftedReads.{halves, has_branch, left_stands, right_stands, branch_at}
use Rattle.state_theory.specs.Laws.GraftedReads.{left_tree, right_tree, both_made, left_missing, right_missing}
use Rattle.state_proofs_parts.proofs.grafting.storage.Storage.+reconstruct_grafted_node.Goals as goal

pub children-left-requires : goal.children-left-requires
children-left-requires g t c = has_branch g.F.Family.merge_rule c.args.position c.args.height c.requires (omega arith)

pub reconstruct_grafted_node-requires : goal.reconstruct_grafted_node-requires
reconstruct_grafted_node-requires g t c κs within =
    let rule = g.F.Family.merge_rule in
    let it = halves rule c.args.position c.args.height c.requires (omega arith) in
    let left : StandsAt rule c.children-left.result.0 (c.args.height - 1) =
    left_stands rule c.args.position c.args.height c.children-left.result.0 it.left it.right it.is
    (c.children-left.ensures it.left it.right it.is).0 in
    search rules

pub returns-in_err-left_digest : goal.returns-in_err-left_digest
returns-in_err-left_digest g t c first (leaf q) tree = absurd (omega (arith, tree.level))
returns-in_err-left_digest g t c first (branch q left right) tree =
    let rule = g.F.Family.merge_rule in
    let node : NodeHash = chunks_node g.H.HashFunction.hash_of rule c.args.self.now.hasher.grafting_height in
    let lookup : Lookup = g.G.Readable.digest_at c.args.self.now.grafted_tree.now in
    let none : ◌≡◌ {A = Option (List ℕ)} None (lookup c.args.position) = search rules in
    let is = branch_at rule first c.args.position c.args.height q left right tree in
    let one = left_tree rule first c.args.position c.args.height q c.children-left.result.0 left right tree
    (c.children-left.ensures left right is).0 in
    ap (option_map _) c.from_residual.ensures
    ∙ left_missing node lookup c.args.position q left right tree.subtree none (c.in_err-left_digest.ensures first left one)

pub reconstruct_grafted_node-requires-2 : goal.reconstruct_grafted_node-requires-2
reconstruct_grafted_node-requires-2 g t c κs within =
    let rule = g.F.Family.merge_rule in
    let it = halves rule c.args.position c.args.height c.requires (omega arith) in
    let right : StandsAt rule c.children-left.result.1 (c.args.height - 1) =
    right_stands rule g.met.F.Family.merges_equals c.args.position c.args.height c.children-left.result.1 it.left it.right it.is
    (c.children-left.ensures it.left it.right it.is).1 in
    search rules

pub returns-in_err-right_digest : goal.returns-in_err-right_digest
returns-in_err-right_digest g t c first (leaf q) tree = absurd (omega (arith, tree.level))
returns-in_err-right_digest g t c first (branch q left right) tree =
    let rule = g.F.Family.merge_rule in
    let node : NodeHash = chunks_node g.H.HashFunction.hash_of rule c.args.self.now.hasher.grafting_height in
    let lookup : Lookup = g.G.Readable.digest_at c.args.self.now.grafted_tree.now in
    let none : ◌≡◌ {A = Option (List ℕ)} None (lookup c.args.position) = search rules in
    let is = branch_at rule first c.args.position c.args.height q left right tree in
    let one = left_tree rule first c.args.position c.args.height q c.children-left.result.0 left right tree
    (c.children-left.ensures left right is).0 in
    let other = right_tree rule g.met.F.Family.merges_equals first c.args.position c.args.height q c.children-left.result.1 left right tree
    (c.children-left.ensures left right is).1 in
    ap (option_map _) c.from_residual-in_err-right_digest.ensures
    ∙ right_missing node lookup c.args.position q left right (g.H.Digest.Write.encoding c.in_ok-left_digest.left_digest) tree.subtree none
    (c.in_ok-left_digest.ensures first left one) (c.in_err-right_digest.ensures (first + leaf_count left) right other)

pub returns : goal.returns
returns g t c first (leaf q) tree = absurd (omega (arith, tree.level))
returns g t c first (branch q left right) tree =
    let rule = g.F.Family.merge_rule in
    let node : NodeHash = chunks_node g.H.HashFunction.hash_of rule c.args.self.now.hasher.grafting_height in
    let lookup : Lookup = g.G.Readable.digest_at c.args.self.now.grafted_tree.now in
    let none : ◌≡◌ {A = Option (List ℕ)} None (lookup c.args.position) = search rules in
    let is = branch_at rule first c.args.position c.args.height q left right tree in
    let one = left_tree rule first c.args.position c.args.height q c.children-left.result.0 left right tree
    (c.children-left.ensures left right is).0 in
    let other = right_tree rule g.met.F.Family.merges_equals first c.args.position c.args.height q c.children-left.result.1 left right tree
    (c.children-left.ensures left right is).1 in
    let a : List ℕ = g.H.Digest.Write.encoding c.in_ok-left_digest.left_digest in
    let b : List ℕ = g.H.Digest.Write.encoding c.in_ok-right_digest.right_digest in
    both_made node lookup c.args.position q left right a b (g.H.Digest.Write.encoding c.node_digest.result) tree.subtree none
    (c.in_ok-left_digest.ensures first left one) (c.in_ok-right_digest.ensures (first + leaf_count left) right other)
    c.node_digest.ensures
