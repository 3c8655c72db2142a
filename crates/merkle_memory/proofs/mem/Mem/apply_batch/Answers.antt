use Rattle.std.proofs.Common.{◌≡◌, ◌+◌, ◌^◌, ◌≤◌, List, length, map, take, refl, sym, ◌∙◌, ap, subst, arith}
use Rattle.std.proofs.lemmas.List.{length-map, take-map}
use Rattle.merkle_core_parts.specs.Layers.{AreStacked, IsFirstAt, bases, oldest_leaves, with_layers}
use Rattle.merkle_core_parts.specs.Mem.{Nodes, Layer, Base, AreKeptNodes, encoded, node_count, base_of, own_layer, with_layer}
use Rattle.merkle_core_parts.specs.Laws.Batches.{shape-with}
use Rattle.merkle_core_parts.specs.Laws.Layers.{stacked-take, leaves-at, shape-layers, put-over}
use Rattle.merkle_core_parts.specs.Laws.Placed.{few-pinned}
use Rattle.merkle_memory.proofs.mem.Mem.apply_batch.Goals as goal

pub put_layers-requires-clause-stacked : goal.put_layers-requires-clause-stacked
put_layers-requires-clause-stacked g c =
    let rule = g.F.Family.merge_rule in
    let below = map (λ layer. layer.value) c.below-below.result.now in
    subst (λ (l : Layer). AreStacked rule l.base.leaves
    (map (λ layer. layer.value) (take c.in-Some.count c.below-below.result.now))) (sym c.layer-own.ensures.layer)
    (subst (AreStacked rule c.args.batch.now.base.leaves) (take-map (λ layer. layer.value) c.in-Some.count c.below-below.result.now)
    (stacked-take rule c.args.batch.now.base.leaves below c.in-Some.count c.below-below.ensures.stacked))

pub put_layers-requires-clause-counted : goal.put_layers-requires-clause-counted
put_layers-requires-clause-counted g c =
    let encoding = g.D.Write.encoding in
    let rule = g.F.Family.merge_rule in
    let below = map (λ layer. layer.value) c.below-below.result.now in
    let own : Layer = c.layer-own.result.now in
    let tree = base_of rule c.args.self.now in
    let at = leaves-at tree own.base below c.in-Some.count c.in-Some.ensures.found.there in
    let same : tree.leaves ≡ c.self.inside.leaves = sym (ap (λ (n : Nodes). n.leaves) c.self.view_is) in
    ap (λ k. c.self.inside.start + k) (sym (length-map c.self.inside.digests.items encoding))
    ∙ ap (λ s. s + length (map encoding c.self.inside.digests.items)) c.self.invariant.1
    ∙ c.self.invariant.2.counted
    ∙ ap (node_count rule) (sym same ∙ sym at
    ∙ ap (oldest_leaves own.base.leaves) (take-map (λ layer. layer.value) c.in-Some.count c.below-below.result.now))

pub invariant_of-self-2 : goal.invariant_of-self-2
invariant_of-self-2 g c =
    let encoding = g.D.Write.encoding in
    let rule = g.F.Family.merge_rule in
    let nodes : Nodes = record {
      leaves = c.self.inside.leaves;
      boundary = c.self.inside.boundary;
      pinned = encoded encoding c.self.inside.pinned.items;
      digests = map encoding c.self.inside.digests.items;
    } in
    let own : Layer = c.layer-own.result.now in
    let below = map (λ layer. layer.value) c.below-below.result.now in
    let layers = map (λ layer. layer.value) (take c.in-Some.count c.below-below.result.now) in
    let tree = base_of rule c.args.self.now in
    let taken = take-map (λ layer. layer.value) c.in-Some.count c.below-below.result.now in
    let at = leaves-at tree own.base below c.in-Some.count c.in-Some.ensures.found.there in
    let same : nodes.leaves ≡ tree.leaves = ap (λ (n : Nodes). n.leaves) c.self.view_is in
    let oldest : nodes.leaves ≡ oldest_leaves own.base.leaves layers =
    same ∙ sym at ∙ ap (oldest_leaves own.base.leaves) taken in
    let stacked : AreStacked rule own.base.leaves layers =
    subst (λ (l : Layer). AreStacked rule l.base.leaves layers) (sym c.layer-own.ensures.layer)
    (subst (AreStacked rule c.args.batch.now.base.leaves) taken
    (stacked-take rule c.args.batch.now.base.leaves below c.in-Some.count c.below-below.ensures.stacked)) in
    let grown = shape-layers rule nodes own.base.leaves layers c.self.invariant.2 stacked oldest in
    let put = c.in_ok-put_layers.ensures.applied nodes c.self.invariant.1 refl refl in
    let leaves : c.as_u64-self-inside.result ≡ own.leaves =
    c.as_u64-self-inside.ensures ∙ c.leaves.ensures.leaves ∙ sym (ap (λ (l : Layer). l.leaves) c.layer-own.ensures.layer) in
    let few : c.as_u64-self-inside.result ≤ 2 ^ 62 = omega (arith, c.as_u64-self-inside.ensures, c.leaves.ensures.few) in
    let after : Nodes = record {
      leaves = c.as_u64-self-inside.result;
      boundary = c.self.inside.boundary;
      pinned = encoded encoding c.put_layers.new.pinned.items;
      digests = map encoding c.put_layers.new.digests.items;
    } in
    let shape : AreKeptNodes rule after =
    subst (AreKeptNodes rule) (sym (put-over rule nodes layers own c.as_u64-self-inside.result
    (encoded encoding c.put_layers.new.pinned.items) (map encoding c.put_layers.new.digests.items) leaves put.0 put.1))
    (shape-with rule (with_layers rule nodes layers) own grown.shape
    (omega (arith, grown.leaves, c.layer-own.ensures.whole.grown))
    (ap (λ n. node_count rule n + length own.digests) grown.leaves ∙ c.layer-own.ensures.whole.counted)) in (
      few,
      c.self.invariant.1,
      shape,
      few-pinned encoding rule g.met.F.Family.peaks_bounded c.as_u64-self-inside.result c.self.inside.boundary
          c.put_layers.new.pinned.items (map encoding c.put_layers.new.digests.items) few shape,
    )

pub returns-clause-applied : goal.returns-clause-applied
returns-clause-applied g c =
    let encoding = g.D.Write.encoding in
    let rule = g.F.Family.merge_rule in
    let nodes : Nodes = record {
      leaves = c.self.inside.leaves;
      boundary = c.self.inside.boundary;
      pinned = encoded encoding c.self.inside.pinned.items;
      digests = map encoding c.self.inside.digests.items;
    } in
    let own : Layer = c.layer-own.result.now in
    let layers = map (λ layer. layer.value) (take c.in-Some.count c.below-below.result.now) in
    let taken : layers ≡ take c.in-Some.count c.args.batch.now.below =
    sym (take-map (λ layer. layer.value) c.in-Some.count c.below-below.result.now)
    ∙ ap (take c.in-Some.count) c.below-below.ensures.layers in
    let put = c.in_ok-put_layers.ensures.applied nodes c.self.invariant.1 refl refl in
    let leaves : c.as_u64-self-inside.result ≡ own.leaves =
    c.as_u64-self-inside.ensures ∙ c.leaves.ensures.leaves ∙ sym (ap (λ (l : Layer). l.leaves) c.layer-own.ensures.layer) in (
      c.in-Some.count,
      subst (λ (b : Base). IsFirstAt (base_of rule c.args.self.now) (bases b c.args.batch.now.below) c.in-Some.count)
          (ap (λ (l : Layer). l.base) c.layer-own.ensures.layer)
          (subst (λ (ls : List Layer). IsFirstAt (base_of rule c.args.self.now) (bases own.base ls) c.in-Some.count)
          c.below-below.ensures.layers c.in-Some.ensures.found),
      put-over rule nodes layers own c.as_u64-self-inside.result (encoded encoding c.put_layers.new.pinned.items)
          (map encoding c.put_layers.new.digests.items) leaves put.0 put.1
          ∙ ap (λ (ls : List Layer). with_layer rule (with_layers rule nodes ls) own) taken
          ∙ ap (λ (l : Layer). with_layer rule (with_layers rule nodes (take c.in-Some.count c.args.batch.now.below)) l)
          c.layer-own.ensures.layer
          ∙ ap (λ (n : Nodes). with_layer rule (with_layers rule n (take c.in-Some.count c.args.batch.now.below))
          (own_layer c.args.batch.now)) c.self.view_is,
    )
