use Rattle.std.proofs.Common.{◌≡◌, ◌+◌, ◌++◌, [], length, map, false, sym, ◌∙◌, ap, arith}
use Rattle.std.proofs.lemmas.List.{length-map}
use Rattle.merkle_core_parts.specs.Laws.Plain.{length-plain}
use Rattle.merkle_core_parts.specs.Mem.{Additions, Growth, base_of, plain_leaf_digests, plain_node, with_batch, with_leaves}
use Rattle.state_current.proofs.TreeLemmas.{plain_append, ok_leaves, ok_nodes}
use Rattle.state_current.proofs.trees.operations_over.Goals as goal

pub returns-clause-leaves : goal.returns-clause-leaves
returns-clause-leaves g c =
    let es = map (λ e. e.items) c.args.operations.now in
    let added : c.in_ok-batch.batch.added ≡ plain_leaf_digests g.H.HashFunction.hash_of g.F.Family.merge_rule c.in_ok-new_batch.field-0.base.leaves es =
    ap (λ (b : Additions). b.added) c.in_ok-batch.ensures.added in
    let many : length c.in_ok-batch.batch.added ≡ length c.args.operations.now =
    ap length added ∙ length-plain g.H.HashFunction.hash_of g.F.Family.merge_rule c.in_ok-new_batch.field-0.base.leaves es
    ∙ length-map c.args.operations.now (λ e. e.items) in
    ok_leaves (λ (made : Growth). made.leaves) c.made_over.result c.args.tree.now.leaves (length c.in_ok-batch.batch.added) (length c.args.operations.now) many
    c.made_over.ensures.leaves

pub returns-clause-of_list : goal.returns-clause-of_list
returns-clause-of_list g c elements are =
    let hash = g.H.HashFunction.hash_of in
    let rule = g.F.Family.merge_rule in
    let es = map (λ e. e.items) c.args.operations.now in
    let digests = plain_leaf_digests hash rule 0 elements in
    let batch_is : c.in_ok-batch.batch ≡ record {
      base = base_of rule c.args.tree.now;
      boundary = c.args.tree.now.boundary;
      added = plain_leaf_digests hash rule c.args.tree.now.leaves es;
      updates = [];
      below = [];
      dropped = false;
    } =
    c.in_ok-batch.ensures.added
    ∙ ap (λ (b : Additions). record b { added = plain_leaf_digests hash rule b.base.leaves es }) c.in_ok-new_batch.ensures.batch in
    let count : c.args.tree.now.leaves ≡ 0 + length elements = omega (arith, are.counted, length-plain hash rule 0 elements) in
    let list : with_leaves digests c.in_ok-batch.batch ≡ plain_leaf_digests hash rule 0 (elements ++ es) =
    ap (with_leaves digests) batch_is
    ∙ ap (λ n. digests ++ plain_leaf_digests hash rule n es) count
    ∙ sym (plain_append hash rule 0 elements es) in
    ok_nodes (with_batch rule c.args.tree.now) c.made_over.result (plain_node hash) rule (with_leaves digests
    c.in_ok-batch.batch) (plain_leaf_digests hash rule 0 (elements ++ es)) list
    (c.made_over.ensures.of_list digests are)
