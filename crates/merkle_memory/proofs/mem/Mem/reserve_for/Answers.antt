use Rattle.std.proofs.Common.{◌≡◌, ℕ, List, length, map, refl, sym, ◌∙◌, ap, subst, arith}
use Rattle.std.proofs.lemmas.List.{length-map}
use Rattle.merkle_core_parts.specs.Errors.{IsRefusalOnto}
use Rattle.merkle_core_parts.specs.Layers.{AreStacked, IsWhole, IsWaiting, HasNone, bases}
use Rattle.merkle_core_parts.specs.Mem.{Nodes, Layer, Base, encoded, node_count, base_of}
use Rattle.merkle_core_parts.specs.Laws.Waiting.{first-of, none-of, waits-for, nodes-grow}
use Rattle.merkle_memory.proofs.mem.Mem.reserve_for.Goals as goal

pub returns-in_default-clause-refused : goal.returns-in_default-clause-refused
returns-in_default-clause-refused g c =
    let rule = g.F.Family.merge_rule in
    let tree : Base = base_of rule c.args.self in
    let batch = c.args.batch in
    let same : c.self.inside.leaves ≡ tree.leaves = ap (λ (n : Nodes). n.leaves) c.self.view_is in
    let none : HasNone tree (bases batch.base batch.below) =
    none-of tree c.layer.result.now (map (λ layer. layer.value) c.below.result.now) batch c.layer.ensures.layer
    c.below.ensures.layers (c.in_default.ensures.none refl) in
    subst (λ n. IsRefusalOnto batch (record { leaves = n; peaks = tree.peaks }) c.refusal-error.result) same
    (c.refusal-error.ensures tree.peaks
    (subst (λ n. HasNone (record { leaves = n; peaks = tree.peaks }) (bases batch.base batch.below)) (sym same) none))

pub reserve_room-requires-clause-within : goal.reserve_room-requires-clause-within
reserve_room-requires-clause-within g c =
    let encoding = g.D.Write.encoding in
    let rule = g.F.Family.merge_rule in
    let tree : Base = base_of rule c.args.self in
    let batch = c.args.batch in
    let below : List Layer = map (λ layer. layer.value) c.below.result.now in
    let nodes : Nodes = record {
      leaves = c.tree.inside.leaves;
      boundary = c.tree.inside.boundary;
      pinned = encoded encoding c.tree.inside.pinned.items;
      digests = map encoding c.tree.inside.digests.items;
    } in
    let waits : IsWaiting rule nodes c.in-Some.count batch =
    waits-for rule nodes c.in-Some.count batch tree c.tree.invariant.2
    (subst (IsWhole rule) c.layer.ensures.layer c.layer.ensures.whole)
    (subst (AreStacked rule batch.base.leaves) c.below.ensures.layers c.below.ensures.stacked)
    (omega (
      arith,
      c.in-Some.ensures.within,
      length-map c.below.result.now (λ layer. layer.value),
      ap length c.below.ensures.layers,
    ))
    (first-of tree c.layer.result.now below batch c.in-Some.count c.layer.ensures.layer c.below.ensures.layers
    c.in-Some.ensures.found)
    (ap (λ (n : Nodes). n.leaves) c.tree.view_is) in
    omega (
      arith,
      c.tree.invariant.1,
      length-map c.tree.inside.digests.items encoding,
      nodes-grow rule g.met.F.Family.merges_equals nodes c.in-Some.count batch waits,
      ap (node_count rule) (c.as_u64-leaves.ensures ∙ c.leaves.ensures.leaves),
    )

pub invariant_of-result : goal.invariant_of-result
invariant_of-result g c =
    let encoding = g.D.Write.encoding in
    let rule = g.F.Family.merge_rule in
    let tree : Base = base_of rule c.args.self in
    let batch = c.args.batch in
    let below : List Layer = map (λ layer. layer.value) c.below.result.now in
    let nodes : Nodes = record {
      leaves = c.tree.inside.leaves;
      boundary = c.tree.inside.boundary;
      pinned = encoded encoding c.tree.inside.pinned.items;
      digests = map encoding c.tree.inside.digests.items;
    } in
    let waits : IsWaiting rule nodes c.in-Some.count batch =
    waits-for rule nodes c.in-Some.count batch tree c.tree.invariant.2
    (subst (IsWhole rule) c.layer.ensures.layer c.layer.ensures.whole)
    (subst (AreStacked rule batch.base.leaves) c.below.ensures.layers c.below.ensures.stacked)
    (omega (
      arith,
      c.in-Some.ensures.within,
      length-map c.below.result.now (λ layer. layer.value),
      ap length c.below.ensures.layers,
    ))
    (first-of tree c.layer.result.now below batch c.in-Some.count c.layer.ensures.layer c.below.ensures.layers
    c.in-Some.ensures.found)
    (ap (λ (n : Nodes). n.leaves) c.tree.view_is) in (
      c.tree.invariant.0,
      c.tree.invariant.1,
      subst (λ (ds : List (List ℕ)). IsWaiting rule (record nodes { digests = ds }) c.in-Some.count batch)
          (sym (ap (map encoding) c.reserve_room.ensures.unchanged)) waits,
      c.tree.invariant.3,
      omega (
        arith,
        c.in-Ok.ensures.room,
        ap (node_count rule) (c.as_u64-leaves.ensures ∙ c.leaves.ensures.leaves),
      ),
    )
