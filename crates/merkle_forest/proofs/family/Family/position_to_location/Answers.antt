use Rattle.std.proofs.Common.{◌≡◌, ◌≤◌, sym, ◌∙◌, arith}
use Rattle.merkle_forest.specs.Forest.{size, forest_of}
use Rattle.merkle_forest.specs.Laws.ForestGrowth.{no_size}
use Rattle.merkle_forest.proofs.family.Family.position_to_location.Goals as goal

pub returns-else-leaf_position-as_u64-clause-found : goal.returns-else-leaf_position-as_u64-clause-found
returns-else-leaf_position-as_u64-clause-found g c =
    let rule = g.Self.Family.merge_rule in
    let found = c.greatest_leaf_count-leaves.result in
    let differ : size (forest_of rule found) ≡ c.args.position → c.leaf_position.result ≡ c.as_u64-2.result =
    λ e. c.leaf_position.ensures ∙ e ∙ sym c.as_u64-2.ensures in
    let fits : size (forest_of rule found) ≤ c.args.position =
    rw (← c.as_u64.ensures) c.greatest_leaf_count-leaves.ensures.within in (
      λ bad. absurd cc,
      λ it. absurd (c.if-leaf_position-as_u64.false (differ
          (no_size rule g.met.Self.Family.merges_equals found it.0 c.args.position fits it.2
          (c.greatest_leaf_count-leaves.ensures.greatest it.0 it.1 (omega (arith, it.2, c.as_u64.ensures)))))),
    )
