use Rattle.std.proofs.Common.{◌≤◌, length, subst, arith}
use Rattle.merkle_core_parts.specs.Laws.Placed.{length-encoded}
use Rattle.merkle_core_parts.specs.Mem.{Nodes, AreKeptNodes}
use Rattle.merkle_memory.proofs.mem.Mem.pruning_boundary.Goals as goal

pub returns-clause-shape : goal.returns-clause-shape
returns-clause-shape g c = subst (AreKeptNodes g.F.Family.merge_rule) c.self.view_is c.self.invariant.2

pub returns-clause-few_pinned : goal.returns-clause-few_pinned
returns-clause-few_pinned g c =
    subst (λ (nodes : Nodes). length nodes.pinned ≤ 62) c.self.view_is
    (omega (
      arith,
      length-encoded g.D.Write.encoding c.self.inside.pinned.items,
      c.self.invariant.3,
    ))
