use Rattle.std.proofs.Common.{sym, ◌∙◌, max, subst}
use Rattle.std.specs.Prelude.{IfSome}
use Rattle.auth_store_session.specs.declared.sizes.Sizes.{Sizes}
use Rattle.auth_store_machine.specs.Standing.{page_size_in}
use Rattle.auth_store_machine.specs.Stores.{HasBuffer}
use Rattle.auth_store_session.proofs.session.Session.step_closed.Goals as goal

pub returns-then-is_opening-clause-steps : goal.returns-then-is_opening-clause-steps
returns-then-is_opening-clause-steps g c = rw (c.is_opening.ensures.yes c.if-is_opening.true) c.open.ensures.steps

pub returns-then-is_opening-clause-kind : goal.returns-then-is_opening-clause-kind
returns-then-is_opening-clause-kind g c = rw (c.is_opening.ensures.yes c.if-is_opening.true) c.open.ensures.kind

pub returns-then-is_opening-clause-open : goal.returns-then-is_opening-clause-open
returns-then-is_opening-clause-open g c = c.open.ensures.open

pub returns-then-is_opening-clause-page_size : goal.returns-then-is_opening-clause-page_size
returns-then-is_opening-clause-page_size g c = c.open.ensures.page_size

pub returns-then-is_opening-clause-grows : goal.returns-then-is_opening-clause-grows
returns-then-is_opening-clause-grows g c = c.open.ensures.grows

pub returns-then-is_opening-clause-settings : goal.returns-then-is_opening-clause-settings
returns-then-is_opening-clause-settings g c =
    c.open.ensures.settings ∙ sym (c.is_opening.ensures.settings c.if-is_opening.true _)

pub returns-then-is_opening-clause-left : goal.returns-then-is_opening-clause-left
returns-then-is_opening-clause-left g c = c.is_opening.ensures.left c.if-is_opening.true _ _

pub returns-clause-steps : goal.returns-clause-steps
returns-clause-steps g c = c.step_at_rest.ensures.steps (c.is_opening.ensures.no c.if-is_opening.false)

pub returns-clause-kind : goal.returns-clause-kind
returns-clause-kind g c = c.step_at_rest.ensures.kind (c.is_opening.ensures.no c.if-is_opening.false)

pub returns-clause-open : goal.returns-clause-open
returns-clause-open g c = c.step_at_rest.ensures.open

pub returns-clause-page_size : goal.returns-clause-page_size
returns-clause-page_size g c = c.step_at_rest.ensures.page_size

pub returns-clause-grows : goal.returns-clause-grows
returns-clause-grows g c = c.step_at_rest.ensures.grows

pub returns-clause-settings : goal.returns-clause-settings
returns-clause-settings g c = c.step_at_rest.ensures.settings

pub returns-clause-left : goal.returns-clause-left
returns-clause-left g c = c.step_at_rest.ensures.left

pub returns-then-is_opening-clause-buffer : goal.returns-then-is_opening-clause-buffer
returns-then-is_opening-clause-buffer g c = λ none sizes is. subst
    (λ (said : Sizes). IfSome c.open.new.self.store
    (HasBuffer (max said.write_buffer (page_size_in c.args.self.now.parts c.args.self.now.store))))
    (c.sizes_of.ensures sizes is) c.open.ensures.buffer

pub returns-clause-buffer : goal.returns-clause-buffer
returns-clause-buffer g c = λ none sizes is. absurd (c.is_opening.ensures.sizes c.if-is_opening.false sizes is)
