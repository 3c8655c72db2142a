use Rattle.std.proofs.Common.{◌∙◌, ap, sym, subst}
use Rattle.auth_store_log.specs.Records.{Format, format_of}
use Rattle.auth_store_machine.specs.Standing.{SessionState, StandsFor}
use Rattle.auth_store_session.proofs.Rests.{was_open, stands_open}
use Rattle.auth_store_machine.proofs.Sound.{closed_sound}
use Rattle.auth_store_session.proofs.session.Session.stands_for_sound_histories.Goals as goal

pub returns-in-Some : goal.returns-in-Some
returns-in-Some g c = λ state stands.
    let format : Format = format_of (g.K.Read.after tt) (g.V.Read.after tt) g.K.FixedSize.SIZE g.V.FixedSize.SIZE in
    let is = was_open c.self.inside.parts c.self.inside.store c.in-Some.store c.args.self.now c.self.view_is (sym c.in-Some.is) c.self.invariant.1 in
    c.stands_for_sound_histories.ensures state (stands_open format c.in-Some.store c.args.self.now state is stands)

pub returns-in_default : goal.returns-in_default
returns-in_default g c = λ state stands.
    let format : Format = format_of (g.K.Read.after tt) (g.V.Read.after tt) g.K.FixedSize.SIZE g.V.FixedSize.SIZE in
    let parts = c.args.self.now.parts in
    closed_sound format parts state (subst (λ store. StandsFor format parts store state)
    (sym (ap (λ (s : SessionState _). s.store) c.self.view_is) ∙ c.in_default.is) stands)
