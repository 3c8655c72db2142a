use Rattle.std.proofs.Common.{◌≡◌, map, take, sym, ◌∙◌, ap, subst, arith}
use Rattle.merkle_core_parts.specs.Layers.{Waiting}
use Rattle.merkle_core_parts.specs.Mem.{Nodes, AreKeptNodes, encoded}
use Rattle.merkle_core_parts.specs.Laws.Layers.{layers-boundary}
use Rattle.merkle_core_parts.specs.Laws.Waiting.{shape-after}
use Rattle.merkle_memory.proofs.mem.Reserved.pruning_boundary.Given.{Over}
use Rattle.merkle_memory.proofs.mem.Reserved.pruning_boundary.Goals as goal

abbrev nodes : (g : Over) → goal.After-new g → Nodes
nodes g c = record {
  leaves = c.self.inside.leaves;
  boundary = c.self.inside.boundary;
  pinned = encoded g.D.Write.encoding c.self.inside.pinned.items;
  digests = map g.D.Write.encoding c.self.inside.digests.items;
}

same : (g : Over) (c : goal.After-new g) → c.new.result ≡ c.args.self.now.after.boundary
same g c =
    c.new.ensures
    ∙ sym (layers-boundary g.F.Family.merge_rule (nodes g c) (take c.self.inside.count c.self.inside.batch.below))
    ∙ ap (λ (w : Waiting). w.after.boundary) c.self.view_is

shape : (g : Over) (c : goal.After-new g) → AreKeptNodes g.F.Family.merge_rule c.args.self.now.after
shape g c =
    subst (λ (w : Waiting). AreKeptNodes g.F.Family.merge_rule w.after) c.self.view_is
    (shape-after g.F.Family.merge_rule (nodes g c) c.self.inside.count c.self.inside.batch c.self.invariant.2)

pub returns-clause-boundary : goal.returns-clause-boundary
returns-clause-boundary g c = same g c

pub returns-clause-within : goal.returns-clause-within
returns-clause-within g c =
    let within = (shape g c).within in
    omega (arith, same g c, within)

pub returns-clause-shape : goal.returns-clause-shape
returns-clause-shape g c = shape g c
