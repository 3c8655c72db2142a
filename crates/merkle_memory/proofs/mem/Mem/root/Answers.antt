use Rattle.std.proofs.Common.{◌≡◌, ap, subst}
use Rattle.std.specs.Prelude.{IfOk}
use Rattle.merkle_forest.specs.Hashing.{root_of}
use Rattle.merkle_core_parts.specs.Mem.{Nodes, digests_from, node_at}
use Rattle.merkle_core_parts.specs.Laws.Mem.{root-of_list}
use Rattle.merkle_memory.proofs.mem.Mem.root.Goals as goal

pub returns-clause-of_list : goal.returns-clause-of_list
returns-clause-of_list g c leaf_digests are =
    let rule = g.F.Family.merge_rule in
    let bagging = g.H.Hasher.bagging_of c.args.hasher.now in
    subst (λ value. IfOk c.root_of_tree.result (λ root. g.D.Write.encoding root ≡ value))
    (root-of_list rule g.met.F.Family.merges_equals g.H.Hasher.hash_of (g.H.Hasher.node_of c.args.hasher.now) bagging
    leaf_digests c.args.self.now c.args.inactive_peaks are)
    (subst (λ n. IfOk c.root_of_tree.result (λ root. g.D.Write.encoding root ≡ root_of g.H.Hasher.hash_of bagging n
    c.args.inactive_peaks (digests_from rule n (node_at rule c.args.self.now) 0)))
    (ap (λ (n : Nodes). n.leaves) c.self.view_is) c.root_of_tree.ensures.root)
