use Rattle.std.proofs.Common.{is_some, ap, sym, ◌∙◌}
use Rattle.auth_store_session.proofs.session.Session.step_opened.Goals as goal

pub returns-then-is_close-clause-steps : goal.returns-then-is_close-clause-steps
returns-then-is_close-clause-steps g c = rw (c.is_close.ensures.yes c.if-is_close.true) c.close.ensures.steps

pub returns-then-is_close-clause-kind : goal.returns-then-is_close-clause-kind
returns-then-is_close-clause-kind g c = rw (c.is_close.ensures.yes c.if-is_close.true) c.close.ensures.kind

pub returns-then-is_close-clause-page_size : goal.returns-then-is_close-clause-page_size
returns-then-is_close-clause-page_size g c = c.close.ensures.page_size

pub returns-then-is_close-clause-grows : goal.returns-then-is_close-clause-grows
returns-then-is_close-clause-grows g c = c.close.ensures.grows

pub returns-clause-steps : goal.returns-clause-steps
returns-clause-steps g c = c.step_within.ensures.steps

pub returns-clause-kind : goal.returns-clause-kind
returns-clause-kind g c = c.step_within.ensures.kind

pub returns-clause-page_size : goal.returns-clause-page_size
returns-clause-page_size g c = c.step_within.ensures.page_size

pub returns-clause-grows : goal.returns-clause-grows
returns-clause-grows g c = c.step_within.ensures.grows

pub returns-then-is_close-clause-settings : goal.returns-then-is_close-clause-settings
returns-then-is_close-clause-settings g c = c.close.ensures.settings ∙ sym (c.is_close.ensures.settings c.if-is_close.true _)

pub returns-then-is_close-clause-left : goal.returns-then-is_close-clause-left
returns-then-is_close-clause-left g c = c.is_close.ensures.left c.if-is_close.true _ _ c.close.ensures.left

pub returns-clause-settings : goal.returns-clause-settings
returns-clause-settings g c = c.step_within.ensures.settings

pub returns-clause-left : goal.returns-clause-left
returns-clause-left g c = c.step_within.ensures.left

pub returns-then-is_close-clause-open : goal.returns-then-is_close-clause-open
returns-then-is_close-clause-open g c = rw c.close.ensures.kind (ap is_some c.close.ensures.closed)

pub returns-clause-open : goal.returns-clause-open
returns-clause-open g c = c.step_within.ensures.open
