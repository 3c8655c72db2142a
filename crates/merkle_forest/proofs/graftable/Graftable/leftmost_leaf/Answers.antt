use Rattle.std.proofs.Common.{◌∙◌}
use Rattle.merkle_forest.proofs.graftable.Graftable.leftmost_leaf.Goals as goal

pub returns : goal.returns
returns g c n first node few stands at_position high =
    c.new.ensures ∙ c.first_leaf.ensures n first node few stands (c.as_u64.ensures ∙ at_position) high
