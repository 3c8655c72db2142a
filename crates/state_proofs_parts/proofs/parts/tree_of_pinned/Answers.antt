use Rattle.std.proofs.Common.{map, ◌∙◌, ap}
use Rattle.merkle_core_parts.specs.Mem.{pinned_positions, placed}
use Rattle.merkle_forest.specs.Forest.{mmr_rule}
use Rattle.state_theory.proofs.PartsLemmas.{tree_made}
use Rattle.state_proofs_parts.proofs.parts.tree_of_pinned.Goals as goal

pub returns-in-Ok-clause-tree : goal.returns-in-Ok-clause-tree
returns-in-Ok-clause-tree g c =
    let encoding = g.D.Write.encoding in
    tree_made c.in-Ok.tree c.args.leaves (map encoding c.args.digests.now) (c.in-Ok.ensures.boundary ∙ c.new-2.ensures)
    (c.in-Ok.ensures.pinned ∙ ap (λ n. placed (pinned_positions mmr_rule n) (map encoding c.args.digests.now)) c.new-2.ensures)
    (c.in-Ok.ensures.digests ∙ ap (map encoding) c.new.ensures.items) c.in-Ok.ensures.shape.1
