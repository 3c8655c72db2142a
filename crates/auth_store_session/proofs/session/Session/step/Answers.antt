use Rattle.std.proofs.Common.{◌≡◌, true, false, is_some, sym, ap, ◌∙◌}
use Rattle.auth_store_session.proofs.session.Session.step.Goals as goal

pub returns-then-is_open-clause-steps : goal.returns-then-is_open-clause-steps
returns-then-is_open-clause-steps g c = c.step_opened.ensures.steps

pub returns-then-is_open-clause-kind : goal.returns-then-is_open-clause-kind
returns-then-is_open-clause-kind g c = rw (c.is_open.ensures.yes c.if-is_open.true) c.step_opened.ensures.kind

pub returns-then-is_open-clause-page_size : goal.returns-then-is_open-clause-page_size
returns-then-is_open-clause-page_size g c = c.step_opened.ensures.page_size

pub returns-then-is_open-clause-grows : goal.returns-then-is_open-clause-grows
returns-then-is_open-clause-grows g c = c.step_opened.ensures.grows

pub returns-clause-steps : goal.returns-clause-steps
returns-clause-steps g c = c.step_closed.ensures.steps

pub returns-clause-kind : goal.returns-clause-kind
returns-clause-kind g c = rw (c.is_open.ensures.no c.if-is_open.false) c.step_closed.ensures.kind

pub returns-clause-page_size : goal.returns-clause-page_size
returns-clause-page_size g c = c.step_closed.ensures.page_size

pub returns-clause-grows : goal.returns-clause-grows
returns-clause-grows g c = c.step_closed.ensures.grows

pub returns-then-is_open-clause-settings : goal.returns-then-is_open-clause-settings
returns-then-is_open-clause-settings g c = c.step_opened.ensures.settings

pub returns-then-is_open-clause-left : goal.returns-then-is_open-clause-left
returns-then-is_open-clause-left g c = c.step_opened.ensures.left

pub returns-clause-settings : goal.returns-clause-settings
returns-clause-settings g c = c.step_closed.ensures.settings

pub returns-clause-left : goal.returns-clause-left
returns-clause-left g c = c.step_closed.ensures.left

pub returns-then-is_open-clause-open : goal.returns-then-is_open-clause-open
returns-then-is_open-clause-open g c = rw (c.is_open.ensures.yes c.if-is_open.true) c.step_opened.ensures.open

pub returns-clause-open : goal.returns-clause-open
returns-clause-open g c = rw (c.is_open.ensures.no c.if-is_open.false) c.step_closed.ensures.open

pub returns-then-is_open-clause-buffer : goal.returns-then-is_open-clause-buffer
returns-then-is_open-clause-buffer g c = λ none sizes is.
    absurd (let bad : false ≡ true = sym (ap is_some none) ∙ c.is_open.ensures.yes c.if-is_open.true in cc)

pub returns-clause-buffer : goal.returns-clause-buffer
returns-clause-buffer g c = c.step_closed.ensures.buffer
