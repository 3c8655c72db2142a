use Rattle.std.proofs.Common.{Some, refl, sym, ap, subst, ◌∙◌, is_some}
use Rattle.auth_store_log.specs.Records.{format_of}
use Rattle.auth_store_machine.specs.Machine.{machine}
use Rattle.auth_store_session.specs.MachineCode.{request_of, meaning_of, config_after, IsLeftBy}
use Rattle.auth_store_machine.specs.Standing.{closed_at, page_size_in, SessionState, config_in, left_in}
use Rattle.auth_store_session.proofs.Rests.{still_none, was_closed, now_closed, steps_from, grows_more, page_from, closed_parts, session_closed}
use Rattle.auth_store_session.proofs.session.Session.step_at_rest.Goals as goal

pub step_device-answer-requires : goal.step_device-answer-requires
step_device-answer-requires g c = (closed_parts c.self.inside.parts c.self.inside.store (c.in-Some.device, c.in-Some.cache)
    (sym c.in-Some.ensures.value) c.self.invariant.1).0

pub invariant_of-self : goal.invariant_of-self
invariant_of-self g c = (
  c.self.invariant.0,
  session_closed c.self.inside.parts c.self.inside.store (c.in-Some.device, c.in-Some.cache)
      (c.step_device-answer.new.device, c.in-Some.cache) (sym c.in-Some.ensures.value) c.self.invariant.1
      c.step_device-answer.ensures.closed
      (closed_parts c.self.inside.parts c.self.inside.store (c.in-Some.device, c.in-Some.cache) (sym c.in-Some.ensures.value)
      c.self.invariant.1).1,
)

pub returns-clause-steps : goal.returns-clause-steps
returns-clause-steps g c = λ rest.
    let m = (machine g.F.Family.merge_rule g.H.HashFunction.hash_of g.F.PendingOf.pending_encoding g.row.N g.K.FixedSize.SIZE g.V.FixedSize.SIZE
    (page_size_in c.args.self.now.parts c.args.self.now.store)) in
    let format = (format_of (g.K.Read.after (tt {0})) (g.V.Read.after (tt {0})) g.K.FixedSize.SIZE g.V.FixedSize.SIZE) in
    let was = closed_at c.in-Some.device c.in-Some.cache in
    let new = c.step_device-answer.new.device in
    let is = was_closed c.self.inside.parts c.self.inside.store c.in-Some.device c.in-Some.cache c.args.self.now c.self.view_is
    c.in-Some.ensures.value c.requires in
    let ends = now_closed c.self.inside.parts c.self.inside.store new c.in-Some.cache c.args.self.now c.self.view_is c.requires in
    steps_from m format was c.args.self.now (closed_at new c.in-Some.cache)
    (record { parts = Some (new, c.in-Some.cache); store = c.self.inside.store })
    (request_of g.K.Write.encoding g.V.Write.encoding c.args.step)
    (meaning_of g.H.Digest.Write.encoding g.K.Write.encoding g.V.Write.encoding c.step_device-answer.result) is ends
    (c.step_device-answer.ensures.steps rest m format c.in-Some.cache)

pub returns-clause-open : goal.returns-clause-open
returns-clause-open g c =
    ap is_some (still_none c.self.inside.parts c.self.inside.store c.args.self.now c.self.view_is c.requires)
    ∙ sym c.step_device-answer.ensures.open

pub returns-clause-page_size : goal.returns-clause-page_size
returns-clause-page_size g c =
    let is = was_closed c.self.inside.parts c.self.inside.store c.in-Some.device c.in-Some.cache c.args.self.now c.self.view_is
    c.in-Some.ensures.value c.requires in
    page_from (closed_at c.in-Some.device c.in-Some.cache) c.args.self.now c.in-Some.cache is refl

pub returns-clause-grows : goal.returns-clause-grows
returns-clause-grows g c =
    let is = was_closed c.self.inside.parts c.self.inside.store c.in-Some.device c.in-Some.cache c.args.self.now c.self.view_is
    c.in-Some.ensures.value c.requires in
    grows_more (closed_at c.in-Some.device c.in-Some.cache) c.args.self.now c.step_device-answer.new.device.calls is
    c.step_device-answer.ensures.grows

pub returns-clause-settings : goal.returns-clause-settings
returns-clause-settings g c =
    let is = was_closed c.self.inside.parts c.self.inside.store c.in-Some.device c.in-Some.cache c.args.self.now c.self.view_is
    c.in-Some.ensures.value c.requires in
    c.step_device-answer.ensures.settings
    ∙ ap (λ (s : SessionState g.row.R.Denot). config_after c.args.step (config_in s.parts s.store)) is

pub returns-clause-left : goal.returns-clause-left
returns-clause-left g c =
    let is = was_closed c.self.inside.parts c.self.inside.store c.in-Some.device c.in-Some.cache c.args.self.now c.self.view_is
    c.in-Some.ensures.value c.requires in
    subst (λ (s : SessionState g.row.R.Denot). IsLeftBy c.args.step (left_in s.parts s.store) c.step_device-answer.new.device.left) is
    c.step_device-answer.ensures.left
