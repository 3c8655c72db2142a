use Rattle.std.proofs.Common.{◌++◌, ◌∙◌, ◌&&◌, ap, sym, not, Some}
use Rattle.std.specs.Prelude.{◌==◌}
use Rattle.std.specs.List.{list_any}
use Rattle.auth_store_index.specs.Laws.Clears.{get_cleared}
use Rattle.auth_store_index.proofs.floor.is_left.Goals as goal

pub returns-then-is_set : goal.returns-then-is_set
returns-then-is_set g c places is =
    get_cleared (g.B.ReadableBits.bits c.args.bits.now ++ c.args.more.now) places c.args.at _ c.is_set.ensures
    ∙ (ap (λ b. Some (b && not (list_any (λ place. place == c.args.at) places))) c.if-is_set.true
    ∙ ap (λ b. Some (not b)) (sym (c.contains.ensures ∙ is c.args.at)))

pub returns-else-is_set : goal.returns-else-is_set
returns-else-is_set g c places is =
    get_cleared (g.B.ReadableBits.bits c.args.bits.now ++ c.args.more.now) places c.args.at _ c.is_set.ensures
    ∙ (ap (λ b. Some (b && not (list_any (λ place. place == c.args.at) places))) c.if-is_set.false
    ∙ ap Some (sym c.if-is_set.false))
