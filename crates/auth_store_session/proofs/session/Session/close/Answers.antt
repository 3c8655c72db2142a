use Rattle.std.proofs.Common.{◌≡◌, ◌+◌, Some, sym, ap, ◌∙◌}
use Rattle.auth_store_device.specs.Devices.{DeviceState}
use Rattle.paged_blob_parts.specs.Caches.{Cache}
use Rattle.auth_store_log.specs.Records.{format_of}
use Rattle.auth_store_machine.specs.Machine.{machine, ask_close, has_closed}
use Rattle.auth_store_machine.specs.Standing.{closed_at, page_size_in, power_of, SessionState, config_in, left_in}
use Rattle.auth_store_session.proofs.Rests.{open_at, was_open, steps_from, grows_from, closes_in, page_from}
use Rattle.auth_store_machine.proofs.Powers.{leaves_same}
use Rattle.auth_store_session.proofs.session.Session.close.Goals as goal

pub returns-clause-steps : goal.returns-clause-steps
returns-clause-steps g c =
    let m = (machine g.F.Family.merge_rule g.H.HashFunction.hash_of g.F.PendingOf.pending_encoding g.row.N g.K.FixedSize.SIZE g.V.FixedSize.SIZE
    (page_size_in c.args.self.now.parts c.args.self.now.store)) in
    let format = (format_of (g.K.Read.after (tt {0})) (g.V.Read.after (tt {0})) g.K.FixedSize.SIZE g.V.FixedSize.SIZE) in
    let was = open_at c.in-Some.store in
    let parts = c.into_parts.result in
    let now = closed_at parts.0 parts.1 in
    let is = was_open c.self.inside.parts c.self.inside.store c.in-Some.store c.args.self.now c.self.view_is c.in-Some.ensures.value
    c.self.invariant.1 in
    let same : power_of parts.0 parts.1 ≡ power_of c.in-Some.store.device c.in-Some.store.cache =
    ap (λ (d : DeviceState _). power_of d parts.1) c.into_parts.ensures.device
    ∙ ap (power_of c.in-Some.store.device) c.into_parts.ensures.cache.0 in
    steps_from m format was c.args.self.now now (record { parts = Some parts; store = c.take.new.self }) ask_close has_closed is
    (ap (λ s. record { parts = Some parts; store = s }) (sym c.take.ensures.after)) (
      leaves_same c.in-Some.store.device parts.0 c.in-Some.store.cache parts.1 same,
      closes_in m format c.in-Some.store parts.0 parts.1 same c.into_parts.ensures.cache.0 (ap (λ (d : DeviceState _). d.calls)
          c.into_parts.ensures.device) c.into_parts.ensures.header c.into_parts.ensures.shows,
    )

pub returns-clause-page_size : goal.returns-clause-page_size
returns-clause-page_size g c =
    let is = was_open c.self.inside.parts c.self.inside.store c.in-Some.store c.args.self.now c.self.view_is c.in-Some.ensures.value
    c.self.invariant.1 in
    page_from (open_at c.in-Some.store) c.args.self.now c.into_parts.result.1 is
    (ap (λ (x : Cache). x.page_size + 12) c.into_parts.ensures.cache.0)

pub returns-clause-grows : goal.returns-clause-grows
returns-clause-grows g c =
    let is = was_open c.self.inside.parts c.self.inside.store c.in-Some.store c.args.self.now c.self.view_is c.in-Some.ensures.value
    c.self.invariant.1 in
    grows_from (open_at c.in-Some.store) c.args.self.now c.into_parts.result.0.calls is
    (ap (λ (d : DeviceState _). d.calls) c.into_parts.ensures.device)

pub returns-clause-settings : goal.returns-clause-settings
returns-clause-settings g c =
    let is = was_open c.self.inside.parts c.self.inside.store c.in-Some.store c.args.self.now c.self.view_is c.in-Some.ensures.value
    c.self.invariant.1 in
    ap (λ (d : DeviceState _). Some d.storage.config) c.into_parts.ensures.device ∙ ap (λ (s : SessionState _). config_in s.parts s.store) is

pub returns-clause-left : goal.returns-clause-left
returns-clause-left g c =
    let is = was_open c.self.inside.parts c.self.inside.store c.in-Some.store c.args.self.now c.self.view_is c.in-Some.ensures.value
    c.self.invariant.1 in
    ap (λ (d : DeviceState _). d.left) c.into_parts.ensures.device ∙ ap (λ (s : SessionState _). left_in s.parts s.store) is
