use Rattle.std.proofs.Common.{arith}
use Rattle.std.proofs.lemmas.List.{length-map}
use Rattle.merkle_forest.specs.Forest.{forest_of}
use Rattle.merkle_forest.specs.Laws.ForestGrowth.{size_bound, leaves-forest_of}
use Rattle.merkle_memory.proofs.mem.Mem.size.Goals as goal

pub overflow_add-self-inside : goal.overflow_add-self-inside
overflow_add-self-inside g c =
    let rule = g.F.Family.merge_rule in
    omega (
      arith,
      c.len.ensures,
      c.self.invariant.0,
      c.self.invariant.1,
      c.self.invariant.2.counted,
      length-map c.self.inside.digests.items g.D.Write.encoding,
      size_bound (forest_of rule c.self.inside.leaves),
      leaves-forest_of rule g.met.F.Family.merges_equals c.self.inside.leaves,
    )
