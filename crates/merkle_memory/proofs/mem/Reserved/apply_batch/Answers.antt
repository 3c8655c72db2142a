use Rattle.std.proofs.Common.{◌≤◌, ◌^◌, List, map, refl, sym, ◌∙◌, ap, subst, arith}
use Rattle.merkle_core_parts.specs.Layers.{Waiting}
use Rattle.merkle_core_parts.specs.Mem.{Nodes, Layer, AreKeptNodes, encoded}
use Rattle.merkle_core_parts.specs.Laws.Placed.{few-pinned}
use Rattle.merkle_core_parts.specs.Laws.Waiting.{shape-after, put-waiting}
use Rattle.merkle_memory.proofs.mem.Reserved.apply_batch.Goals as goal

pub invariant_of-result : goal.invariant_of-result
invariant_of-result g c =
    let encoding = g.D.Write.encoding in
    let rule = g.F.Family.merge_rule in
    let nodes : Nodes = record {
      leaves = c.self.inside.leaves;
      boundary = c.self.inside.boundary;
      pinned = encoded encoding c.self.inside.pinned.items;
      digests = map encoding c.self.inside.digests.items;
    } in
    let layers : List Layer = map (λ layer. layer.value) c.following.result.now in
    let pinned = encoded encoding c.put_reserved.new.pinned.items in
    let digests = map encoding c.put_reserved.new.digests.items in
    let put = c.put_reserved.ensures.applied nodes c.self.invariant.1 refl refl in
    let made = put-waiting rule nodes c.self.inside.count c.self.inside.batch c.layer.result.now layers c.as_u64.result
    pinned digests c.layer.ensures.layer c.following.ensures (c.as_u64.ensures ∙ c.leaves.ensures.leaves) put.0 put.1 in
    let few : c.as_u64.result ≤ 2 ^ 62 = omega (arith, c.as_u64.ensures, c.leaves.ensures.few) in
    let shape = subst (AreKeptNodes rule) (sym made)
    (shape-after rule nodes c.self.inside.count c.self.inside.batch c.self.invariant.2) in (
      few,
      c.self.invariant.1,
      shape,
      few-pinned encoding rule g.met.F.Family.peaks_bounded c.as_u64.result c.self.inside.boundary
          c.put_reserved.new.pinned.items digests few shape,
    )

pub returns : goal.returns
returns g c =
    let encoding = g.D.Write.encoding in
    let rule = g.F.Family.merge_rule in
    let nodes : Nodes = record {
      leaves = c.self.inside.leaves;
      boundary = c.self.inside.boundary;
      pinned = encoded encoding c.self.inside.pinned.items;
      digests = map encoding c.self.inside.digests.items;
    } in
    let layers : List Layer = map (λ layer. layer.value) c.following.result.now in
    let put = c.put_reserved.ensures.applied nodes c.self.invariant.1 refl refl in
    put-waiting rule nodes c.self.inside.count c.self.inside.batch c.layer.result.now layers c.as_u64.result
    (encoded encoding c.put_reserved.new.pinned.items) (map encoding c.put_reserved.new.digests.items)
    c.layer.ensures.layer c.following.ensures (c.as_u64.ensures ∙ c.leaves.ensures.leaves) put.0 put.1
    ∙ ap (λ (w : Waiting). w.after) c.self.view_is
