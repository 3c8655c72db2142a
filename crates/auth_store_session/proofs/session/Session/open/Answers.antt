use Rattle.std.specs.Prelude.{IfSome, Option}
use Rattle.std.proofs.Common.{ℕ, max, is_some, ◌+◌, Some, sym, ap, subst, ◌∙◌}
use Rattle.auth_store_log.specs.Records.{format_of}
use Rattle.auth_store_machine.specs.Machine.{machine, ask_open, opened, refused}
use Rattle.auth_store_machine.specs.Standing.{closed_at, SessionState, page_size_in, IsOpenError, config_in}
use Rattle.auth_store_machine.specs.Stores.{HasBuffer, StoreState}
use Rattle.auth_store_session.proofs.Rests.{still_none, open_at, was_closed, now_closed, steps_from, grows_through, grows_more, opens_in, refused_in, page_from}
use Rattle.auth_store_machine.proofs.Opens.{opened_grows}
use Rattle.auth_store_session.proofs.session.Session.open.Goals as goal

pub returns-in-Ok-clause-steps : goal.returns-in-Ok-clause-steps
returns-in-Ok-clause-steps g c =
    let m = (machine g.F.Family.merge_rule g.H.HashFunction.hash_of g.F.PendingOf.pending_encoding g.row.N g.K.FixedSize.SIZE g.V.FixedSize.SIZE
    (page_size_in c.args.self.now.parts c.args.self.now.store)) in
    let format = (format_of (g.K.Read.after (tt {0})) (g.V.Read.after (tt {0})) g.K.FixedSize.SIZE g.V.FixedSize.SIZE) in
    let was = closed_at c.in-Some.device c.in-Some.cache in
    let store = c.in-Ok.store in
    let is = was_closed c.self.inside.parts c.self.inside.store c.in-Some.device c.in-Some.cache c.args.self.now c.self.view_is
    c.in-Some.ensures.value c.requires in
    steps_from m format was c.args.self.now (open_at store) (record { parts = c.take.new.self; store = Some store }) ask_open opened is
    (ap (λ p. record { parts = p; store = Some store }) (sym c.take.ensures.after)) (
      c.in-Ok.ensures.leaves,
      opens_in m format c.in-Some.device c.in-Some.cache store c.an_opening_shows_what_stood.ensures c.in-Ok.ensures.page_size
          c.in-Ok.ensures.uncut c.in-Ok.ensures.whole c.in-Ok.ensures.recovers c.in-Ok.ensures.shown,
    )

pub returns-in-Ok-clause-page_size : goal.returns-in-Ok-clause-page_size
returns-in-Ok-clause-page_size g c =
    let is = was_closed c.self.inside.parts c.self.inside.store c.in-Some.device c.in-Some.cache c.args.self.now c.self.view_is
    c.in-Some.ensures.value c.requires in
    rw c.take.ensures.after (page_from (closed_at c.in-Some.device c.in-Some.cache) c.args.self.now c.in-Ok.store.cache is
    (ap (λ n. n + 12) c.in-Ok.ensures.page_size))

pub returns-in-Ok-clause-grows : goal.returns-in-Ok-clause-grows
returns-in-Ok-clause-grows g c =
    let is = was_closed c.self.inside.parts c.self.inside.store c.in-Some.device c.in-Some.cache c.args.self.now c.self.view_is
    c.in-Some.ensures.value c.requires in
    rw c.take.ensures.after (grows_through (closed_at c.in-Some.device c.in-Some.cache) c.args.self.now c.in-Ok.store.device.calls
    is c.in-Ok.ensures.shown.1)

pub returns-in-Err-clause-steps : goal.returns-in-Err-clause-steps
returns-in-Err-clause-steps g c =
    let m = (machine g.F.Family.merge_rule g.H.HashFunction.hash_of g.F.PendingOf.pending_encoding g.row.N g.K.FixedSize.SIZE g.V.FixedSize.SIZE
    (page_size_in c.args.self.now.parts c.args.self.now.store)) in
    let format = (format_of (g.K.Read.after (tt {0})) (g.V.Read.after (tt {0})) g.K.FixedSize.SIZE g.V.FixedSize.SIZE) in
    let was = closed_at c.in-Some.device c.in-Some.cache in
    let now = closed_at c.in-Err.field-0.device c.in-Err.field-0.cache in
    let is = was_closed c.self.inside.parts c.self.inside.store c.in-Some.device c.in-Some.cache c.args.self.now c.self.view_is
    c.in-Some.ensures.value c.requires in
    let ends = now_closed c.self.inside.parts c.self.inside.store c.in-Err.field-0.device c.in-Err.field-0.cache c.args.self.now c.self.view_is c.requires in
    steps_from m format was c.args.self.now now (record { parts = Some (c.in-Err.field-0.device, c.in-Err.field-0.cache); store = c.self.inside.store })
    ask_open (refused c.in-Err.field-0.error) is ends (
      c.in-Err.ensures.leaves,
      refused_in m format c.in-Some.device c.in-Err.field-0.device c.in-Some.cache c.in-Err.field-0.cache c.in-Err.field-0.error
          (ap (λ (s : SessionState _). page_size_in s.parts s.store) (sym is)) c.in-Err.ensures.cache.1 c.in-Err.ensures.kept
          c.in-Err.ensures.header
          (subst (λ size. IsOpenError (machine g.F.Family.merge_rule g.H.HashFunction.hash_of g.F.PendingOf.pending_encoding g.row.N
          g.K.FixedSize.SIZE g.V.FixedSize.SIZE size) format c.in-Some.device c.in-Some.cache c.in-Err.field-0.device c.in-Err.field-0.cache
          c.in-Err.field-0.error) (ap (λ (s : SessionState _). page_size_in s.parts s.store) is) c.in-Err.ensures.refused),
    )

pub returns-in-Err-clause-page_size : goal.returns-in-Err-clause-page_size
returns-in-Err-clause-page_size g c =
    let is = was_closed c.self.inside.parts c.self.inside.store c.in-Some.device c.in-Some.cache c.args.self.now c.self.view_is
    c.in-Some.ensures.value c.requires in
    page_from (closed_at c.in-Some.device c.in-Some.cache) c.args.self.now c.in-Err.field-0.cache is
    (ap (λ n. n + 12) c.in-Err.ensures.cache.1)

pub returns-in-Err-clause-grows : goal.returns-in-Err-clause-grows
returns-in-Err-clause-grows g c =
    let is = was_closed c.self.inside.parts c.self.inside.store c.in-Some.device c.in-Some.cache c.args.self.now c.self.view_is
    c.in-Some.ensures.value c.requires in
    grows_more (closed_at c.in-Some.device c.in-Some.cache) c.args.self.now c.in-Err.field-0.device.calls is
    (opened_grows _ _ _ _ _ c.in-Err.ensures.kept)

pub returns-in-Ok-clause-settings : goal.returns-in-Ok-clause-settings
returns-in-Ok-clause-settings g c =
    let is = was_closed c.self.inside.parts c.self.inside.store c.in-Some.device c.in-Some.cache c.args.self.now c.self.view_is
    c.in-Some.ensures.value c.requires in
    rw c.take.ensures.after (ap Some c.in-Ok.ensures.settings ∙ ap (λ (s : SessionState _). config_in s.parts s.store) is)

pub returns-in-Err-clause-settings : goal.returns-in-Err-clause-settings
returns-in-Err-clause-settings g c =
    let is = was_closed c.self.inside.parts c.self.inside.store c.in-Some.device c.in-Some.cache c.args.self.now c.self.view_is
    c.in-Some.ensures.value c.requires in
    ap Some c.in-Err.ensures.settings ∙ ap (λ (s : SessionState _). config_in s.parts s.store) is

pub returns-in-Err-clause-open : goal.returns-in-Err-clause-open
returns-in-Err-clause-open g c =
    ap is_some (still_none c.self.inside.parts c.self.inside.store c.args.self.now c.self.view_is c.requires)

pub returns-in-Ok-clause-buffer : goal.returns-in-Ok-clause-buffer
returns-in-Ok-clause-buffer g c =
    let is = was_closed c.self.inside.parts c.self.inside.store c.in-Some.device c.in-Some.cache c.args.self.now c.self.view_is
    c.in-Some.ensures.value c.requires in
    subst (λ (n : ℕ). HasBuffer (max c.args.sizes.write_buffer n) c.in-Ok.store)
    (ap (λ (s : SessionState _). page_size_in s.parts s.store) is) c.in-Ok.ensures.buffer

pub returns-in-Err-clause-buffer : goal.returns-in-Err-clause-buffer
returns-in-Err-clause-buffer g c = subst
    (λ (store : Option (StoreState _)). IfSome store
    (HasBuffer (max c.args.sizes.write_buffer (page_size_in c.args.self.now.parts c.args.self.now.store))))
    (sym (still_none c.self.inside.parts c.self.inside.store c.args.self.now c.self.view_is c.requires)) tt
