use Rattle.std.proofs.Common.{◌+◌, Some, sym, ap, subst, ◌∙◌}
use Rattle.auth_store_log.specs.Records.{format_of}
use Rattle.auth_store_machine.specs.Machine.{machine}
use Rattle.auth_store_session.specs.MachineCode.{request_of, meaning_of, config_after, IsLeftBy}
use Rattle.auth_store_machine.specs.Standing.{SessionState, StepsOpen, page_size_in, calls_in, config_in, left_in}
use Rattle.paged_blob_parts.specs.Moments.{Grows}
use Rattle.auth_store_session.proofs.Rests.{stays_open, open_at, was_open, now_open, session_within, steps_from, steps_open, grows_more, page_from}
use Rattle.auth_store_session.proofs.session.Session.step_within.Goals as goal

pub invariant_of-self : goal.invariant_of-self
invariant_of-self g c = (
  c.self.invariant.0,
  session_within c.self.inside.parts c.self.inside.store c.in-Some.store c.step_open.new.store c.in-Some.is
      c.self.invariant.1,
)

pub returns-clause-steps : goal.returns-clause-steps
returns-clause-steps g c =
    let format = (format_of (g.K.Read.after (tt {0})) (g.V.Read.after (tt {0})) g.K.FixedSize.SIZE g.V.FixedSize.SIZE) in
    let m = (machine g.F.Family.merge_rule g.H.HashFunction.hash_of g.F.PendingOf.pending_encoding g.row.N g.K.FixedSize.SIZE g.V.FixedSize.SIZE
    (page_size_in c.args.self.now.parts c.args.self.now.store)) in
    let request = request_of g.K.Write.encoding g.V.Write.encoding c.args.step in
    let answer = meaning_of g.H.Digest.Write.encoding g.K.Write.encoding g.V.Write.encoding c.step_open.result in
    let now = c.step_open.new.store in
    let is = was_open c.self.inside.parts c.self.inside.store c.in-Some.store c.args.self.now c.self.view_is (sym c.in-Some.is) c.self.invariant.1 in
    let sized = ap (λ (s : SessionState _). page_size_in s.parts s.store) is in
    let ends = now_open c.self.inside.parts c.self.inside.store c.in-Some.store now c.in-Some.is c.self.invariant.1 in
    let steps = subst (λ size. StepsOpen (machine g.F.Family.merge_rule g.H.HashFunction.hash_of g.F.PendingOf.pending_encoding g.row.N
    g.K.FixedSize.SIZE g.V.FixedSize.SIZE size) format c.in-Some.store request answer now) sized
    (c.step_open.ensures.steps c.requires.left) in
    steps_from m format (open_at c.in-Some.store) c.args.self.now (open_at now) (record { parts = c.self.inside.parts; store = Some now })
    request answer is ends
    (steps_open m format c.in-Some.store now request answer steps)

pub returns-clause-page_size : goal.returns-clause-page_size
returns-clause-page_size g c =
    let is = was_open c.self.inside.parts c.self.inside.store c.in-Some.store c.args.self.now c.self.view_is (sym c.in-Some.is) c.self.invariant.1 in
    let ends = now_open c.self.inside.parts c.self.inside.store c.in-Some.store c.step_open.new.store c.in-Some.is c.self.invariant.1 in
    sym (ap (λ (s : SessionState _). page_size_in s.parts s.store) ends)
    ∙ page_from (open_at c.in-Some.store) c.args.self.now c.step_open.new.store.cache is (ap (λ n. n + 12) c.step_open.ensures.page_size)

pub returns-clause-grows : goal.returns-clause-grows
returns-clause-grows g c =
    let is = was_open c.self.inside.parts c.self.inside.store c.in-Some.store c.args.self.now c.self.view_is (sym c.in-Some.is) c.self.invariant.1 in
    let ends = now_open c.self.inside.parts c.self.inside.store c.in-Some.store c.step_open.new.store c.in-Some.is c.self.invariant.1 in
    subst (λ (s : SessionState _). Grows (calls_in c.args.self.now.parts c.args.self.now.store) (calls_in s.parts s.store)) ends
    (grows_more (open_at c.in-Some.store) c.args.self.now c.step_open.new.store.device.calls is c.step_open.ensures.grows)

pub returns-clause-settings : goal.returns-clause-settings
returns-clause-settings g c =
    let is = was_open c.self.inside.parts c.self.inside.store c.in-Some.store c.args.self.now c.self.view_is (sym c.in-Some.is) c.self.invariant.1 in
    let ends = now_open c.self.inside.parts c.self.inside.store c.in-Some.store c.step_open.new.store c.in-Some.is c.self.invariant.1 in
    sym (ap (λ (s : SessionState _). config_in s.parts s.store) ends)
    ∙ (c.step_open.ensures.settings ∙ ap (λ (s : SessionState _). config_after c.args.step (config_in s.parts s.store)) is)

pub returns-clause-left : goal.returns-clause-left
returns-clause-left g c =
    let is = was_open c.self.inside.parts c.self.inside.store c.in-Some.store c.args.self.now c.self.view_is (sym c.in-Some.is) c.self.invariant.1 in
    let ends = now_open c.self.inside.parts c.self.inside.store c.in-Some.store c.step_open.new.store c.in-Some.is c.self.invariant.1 in
    subst (λ (s : SessionState _). IsLeftBy c.args.step (left_in c.args.self.now.parts c.args.self.now.store) (left_in s.parts s.store)) ends
    (subst (λ (s : SessionState _). IsLeftBy c.args.step (left_in s.parts s.store) c.step_open.new.store.device.left) is
    c.step_open.ensures.left)

pub returns-clause-open : goal.returns-clause-open
returns-clause-open g c = sym (stays_open (request_of g.K.Write.encoding g.V.Write.encoding c.args.step)
    (meaning_of g.H.Digest.Write.encoding g.K.Write.encoding g.V.Write.encoding c.step_open.result) c.requires.left (c.step_open.ensures.kind c.requires.left))
