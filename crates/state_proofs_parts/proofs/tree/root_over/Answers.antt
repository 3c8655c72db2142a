use Rattle.std.proofs.Common.{◌∙◌, ap}
use Rattle.state_theory.specs.Bits.{bit_count, last_chunk}
use Rattle.state_theory.specs.Maps.{sealed_root, map_root}
use Rattle.state_proofs_parts.proofs.tree.root_over.Goals as goal

pub returns-clause-root : goal.returns-clause-root
unfolding map_root
returns-clause-root g c =
    c.seal.ensures
    ∙ ap (λ root. sealed_root g.H.Hasher.hash_of g.row.N root (bit_count g.row.N c.args.bits.now) (last_chunk g.row.N c.args.bits.now.kept).0)
    c.tree_root.ensures.root

pub returns-clause-of_list : goal.returns-clause-of_list
returns-clause-of_list g c node_of digests are =
    c.seal.ensures
    ∙ ap (λ root. sealed_root g.H.Hasher.hash_of g.row.N root (bit_count g.row.N c.args.bits.now) (last_chunk g.row.N c.args.bits.now.kept).0)
    (c.tree_root.ensures.of_list node_of digests are)
