use Rattle.std.proofs.Common.{List, map, sym, ◌∙◌, ap, ap₂}
use Rattle.merkle_core_parts.specs.Layers.{Waiting, oldest_leaves, with_layers}
use Rattle.merkle_core_parts.specs.Mem.{Nodes, Layer, encoded, known_over, node_at, with_layer}
use Rattle.merkle_memory.proofs.mem.Reserved.get_node.Goals as goal

pub returns : goal.returns
returns g c =
    let encoding = g.D.Write.encoding in
    let rule = g.F.Family.merge_rule in
    let place = c.as_u64-place.result in
    let nodes : Nodes = record {
      leaves = c.self.inside.leaves;
      boundary = c.self.inside.boundary;
      pinned = encoded encoding c.self.inside.pinned.items;
      digests = map encoding c.self.inside.digests.items;
    } in
    let layers : List Layer = map (λ layer. layer.value) c.following-following.result.now in
    let own : Layer = c.layer.result.now in
    let waits = c.self.invariant.2 in
    c.node_with_layers.ensures nodes waits.shape
    (waits.follows ∙ sym (ap₂ (λ (l : Layer) (ls : List Layer). oldest_leaves l.base.leaves ls) c.layer.ensures.layer
    c.following-following.ensures))
    (c.known_digest-there.ensures
    ∙ ap₂ (λ ps ds. known_over c.self.inside.start (encoded encoding ps) (map encoding ds) place)
    c.deref.ensures.value c.deref-2.ensures.value
    ∙ ap (λ s. known_over s nodes.pinned nodes.digests place) c.self.invariant.1)
    ∙ ap₂ (λ (l : Layer) (ls : List Layer). node_at rule (with_layer rule (with_layers rule nodes ls) l) place)
    c.layer.ensures.layer c.following-following.ensures
    ∙ ap (λ (w : Waiting). node_at rule w.after place) c.self.view_is
    ∙ ap (node_at rule c.args.self.now.after) c.as_u64-place.ensures
