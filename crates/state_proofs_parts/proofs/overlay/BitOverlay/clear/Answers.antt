use Rattle.std.proofs.Common.{◌*◌, ◌≤◌, sym, ◌∙◌, ap, subst}
use Rattle.state_theory.specs.Overlay.{Overlay, remembered}
use Rattle.state_theory.proofs.OverlayLemmas.{IsCleared, clear_done}
use Rattle.state_proofs_parts.proofs.overlay.BitOverlay.clear.Goals as goal

after : (g : _) (c : goal.After-set_bit g) → IsCleared g.row.N c.self.inside.bits c.self.inside.listed c.self.inside.cleared.items c.args.bit
    c.set_bit.new.self c.remember.new.places.items
after g c =
    let from = subst (λ (o : Overlay). 8 * g.row.N * o.after.pruned ≤ c.args.bit) (sym c.self.view_is) c.requires.kept in
    clear_done g.row.N c.self.inside.bits c.set_bit.new.self c.self.inside.listed c.self.inside.cleared.items c.remember.new.places.items c.args.bit
    c.pruned_bits.result c.self.invariant from c.pruned_bits.ensures.pruned
    (sym c.if-not-get_bit.ensures) c.set_bit.ensures c.in_ok-remember.ensures.items

pub invariant_of-self-2 : goal.invariant_of-self-2
invariant_of-self-2 g c = (after g c).laid

pub returns-clause-base : goal.returns-clause-base
returns-clause-base g c = (after g c).base ∙ ap (λ (o : Overlay). o.base) c.self.view_is

pub returns-clause-cleared : goal.returns-clause-cleared
returns-clause-cleared g c = (after g c).are ∙ ap (λ o. remembered g.row.N o c.args.bit) c.self.view_is
