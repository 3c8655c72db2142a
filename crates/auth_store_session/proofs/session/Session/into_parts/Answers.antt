use Rattle.std.proofs.Common.{sym, ap}
use Rattle.auth_store_device.specs.Devices.{DeviceState}
use Rattle.auth_store_log.specs.Records.{format_of}
use Rattle.auth_store_session.proofs.Rests.{was_open, rests_at, closed_rests, closed_parts, stands_open}
use Rattle.auth_store_session.proofs.session.Session.into_parts.Goals as goal

pub returns-in-Some-default-clause-rests : goal.returns-in-Some-default-clause-rests
returns-in-Some-default-clause-rests g c state stands = closed_rests
    (format_of (g.K.Read.after (tt {0})) (g.V.Read.after (tt {0})) g.K.FixedSize.SIZE g.V.FixedSize.SIZE) c.self.inside.parts c.self.inside.store
    c.in-Some-default.parts c.args.self state c.self.view_is c.in-Some-default.is-0 c.self.invariant.1 stands

pub returns-in-Some-default-clause-closed : goal.returns-in-Some-default-clause-closed
returns-in-Some-default-clause-closed g c =
    (closed_parts c.self.inside.parts c.self.inside.store c.in-Some-default.parts c.in-Some-default.is-0 c.self.invariant.1).0

pub returns-in-Some-default-clause-cache : goal.returns-in-Some-default-clause-cache
returns-in-Some-default-clause-cache g c =
    (closed_parts c.self.inside.parts c.self.inside.store c.in-Some-default.parts c.in-Some-default.is-0 c.self.invariant.1).1

pub returns-in-None-Some-clause-rests : goal.returns-in-None-Some-clause-rests
returns-in-None-Some-clause-rests g c state stands =
    let format = (format_of (g.K.Read.after (tt {0})) (g.V.Read.after (tt {0})) g.K.FixedSize.SIZE g.V.FixedSize.SIZE) in
    let is = was_open c.self.inside.parts c.self.inside.store c.in-None-Some.store c.args.self c.self.view_is (sym c.in-None-Some.is-1)
    c.self.invariant.1 in
    rests_at format c.in-None-Some.store c.into_parts.result.0 c.into_parts.result.1 state c.into_parts.ensures.cache.0
    (ap (λ (d : DeviceState _). d.calls) c.into_parts.ensures.device) c.into_parts.ensures.header c.into_parts.ensures.shows
    (stands_open format c.in-None-Some.store c.args.self state is stands)
