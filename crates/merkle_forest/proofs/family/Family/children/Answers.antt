use Rattle.std.proofs.Common.{◌∙◌}
use Rattle.merkle_forest.proofs.family.Family.children.Goals as goal

pub returns : goal.returns
returns g c left right it =
    let both = c.child_positions-left.ensures left right (rw c.as_u64.ensures it) in
    (c.new.ensures ∙ both.0, c.new-2.ensures ∙ both.1)
